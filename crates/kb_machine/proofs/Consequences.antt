-- What follows from an origin's pair by derivations: the sides of a line are congruent.
use Rattle.std.proofs.Common.{◌≡◌, ◌⊎◌, ℕ, List, [], ◌∷◌, Some, sym, subst, inl, inr}
use Rattle.kb_word.specs.Words.{Pair, OneOf}
use Rattle.kb_word.specs.Overlap.{superposition, critical_pair}
use Rattle.kb_word.specs.Congruence.{Replaces, Congruent}
use Rattle.kb_word.specs.Rewriting.{ReducesTo}
use Rattle.kb_word.proofs.PathLemmas.{path_equal, path_step, congruent_by_replacement, congruent_by_reduction, congruent_symmetric, congruent_transitive, congruent_covered}
use Rattle.kb_rules.proofs.Superposed.{replaced-by-first, replaced-by-second}
use Rattle.kb_machine.specs.Lines.{numbered, IsCriticalPair, IsPairOf}
use Rattle.kb_machine.specs.Derivations.{IsStepBy, Derives, DerivesBoth, Any}
use Rattle.kb_machine.specs.Justified.{ComesFromPair, ShortensRule, FollowsBy}
use Rattle.kb_machine.specs.declared.line.Line.{Line}
use Rattle.kb_machine.specs.declared.line.LogStep.{LogStep}
use Rattle.kb_machine.specs.declared.origin.Origin.{Origin}
use Rattle.kb_machine.specs.declared.origin.Origin.TheVariants.{Relation, Overlap, Killed, Shortened}
use Rattle.kb_machine.proofs.Numbers.{numbered_one}

-- the rule has an allowed number
abbrev pub IsAllowedRule : (ℕ → Type 0) → List Pair → Pair → Type 0
IsAllowedRule allowed rules rule = (k : ℕ) × allowed k × (numbered rules k ≡ Some rule)

-- a derivation is a reduction by rules of allowed numbers
pub derivation_reduces : (allowed : ℕ → Type 0) (rules : List Pair) (u v : List ℕ) (steps : List LogStep)
    → Derives allowed rules u steps v → ReducesTo (IsAllowedRule allowed rules) u v
derivation_reduces allowed rules u v [] same = path_equal u v same
derivation_reduces allowed rules u v (step ∷ rest) leads =
    let first = leads.1 in
    let replaces : Replaces (IsAllowedRule allowed rules) u leads.0 = record {
      before = first.before;
      pair = first.rule;
      after = first.after;
      is_allowed = (step.line, first.is_allowed, first.is_rule);
      from = first.from;
      to = first.to;
    } in
    path_step replaces (derivation_reduces allowed rules leads.0 v rest leads.2)

-- what is derived by numbers of one kind is derived by those of a wider kind
pub derives_implied : (allowed more : ℕ → Type 0) (rules : List Pair) (u v : List ℕ) (steps : List LogStep)
    → ((k : ℕ) → allowed k → more k) → Derives allowed rules u steps v → Derives more rules u steps v
derives_implied allowed more rules u v [] implies same = same
derives_implied allowed more rules u v (step ∷ rest) implies leads =
    let first = leads.1 in
    let same : IsStepBy more rules u step leads.0 = record {
      before = first.before;
      rule = first.rule;
      after = first.after;
      is_allowed = implies step.line first.is_allowed;
      is_rule = first.is_rule;
      at = first.at;
      from = first.from;
      to = first.to;
    } in
    (leads.0, same, derives_implied allowed more rules leads.0 v rest implies leads.2)

-- the same of two derivations
pub derives_both_implied : (allowed more : ℕ → Type 0) (rules : List Pair) (pair : Pair)
    (first_steps second_steps : List LogStep) (u v : List ℕ)
    → ((k : ℕ) → allowed k → more k) → DerivesBoth allowed rules pair first_steps second_steps u v
    → DerivesBoth more rules pair first_steps second_steps u v
derives_both_implied allowed more rules pair first_steps second_steps u v implies both = record {
  one = both.one;
  other = both.other;
  first = derives_implied allowed more rules pair.0 both.one first_steps implies both.first;
  second = derives_implied allowed more rules pair.1 both.other second_steps implies both.second;
  ends = both.ends;
}

-- a derivation keeps the congruence that holds the rules
pub derivation_congruent : {others : Pair → Type 0} (allowed : ℕ → Type 0) (rules : List Pair) (u v : List ℕ)
    (steps : List LogStep) → ((rule : Pair) → IsAllowedRule allowed rules rule → Congruent others rule.0 rule.1)
    → Derives allowed rules u steps v → Congruent others u v
derivation_congruent {others = others} allowed rules u v steps hold leads =
    congruent_covered {allowed = IsAllowedRule allowed rules} {others = others} hold
    (congruent_by_reduction (derivation_reduces allowed rules u v steps leads))

-- the words are two others, in one order or the other
abbrev AreInSomeOrder : List ℕ → List ℕ → List ℕ → List ℕ → Type 0
AreInSomeOrder one other u v = ((one ≡ u) × (other ≡ v)) ⊎ ((one ≡ v) × (other ≡ u))

congruent_ordered : {others : Pair → Type 0} (one other u v : List ℕ) → AreInSomeOrder one other u v
    → Congruent others one other → Congruent others u v
congruent_ordered one other u v (inl same) sides =
    congruent_transitive (path_equal u one (sym same.0)) (congruent_transitive sides (path_equal other v same.1))
congruent_ordered one other u v (inr same) sides =
    congruent_transitive (path_equal u other (sym same.1))
    (congruent_transitive (congruent_symmetric sides) (path_equal one v same.0))

congruent_unordered : {others : Pair → Type 0} (one other u v : List ℕ) → AreInSomeOrder one other u v
    → Congruent others u v → Congruent others one other
congruent_unordered one other u v (inl same) sides =
    congruent_transitive (path_equal one u same.0) (congruent_transitive sides (path_equal v other (sym same.1)))
congruent_unordered one other u v (inr same) sides =
    congruent_transitive (path_equal one v same.0)
    (congruent_transitive (congruent_symmetric sides) (path_equal u other (sym same.1)))

-- words are congruent where derivations lead to them from congruent words
pub derived_congruent : {others : Pair → Type 0} (allowed : ℕ → Type 0) (rules : List Pair) (pair : Pair)
    (first_steps second_steps : List LogStep) (u v : List ℕ) → Congruent others pair.0 pair.1
    → ((rule : Pair) → IsAllowedRule allowed rules rule → Congruent others rule.0 rule.1)
    → DerivesBoth allowed rules pair first_steps second_steps u v → Congruent others u v
derived_congruent allowed rules pair first_steps second_steps u v sides hold both =
    let first = derivation_congruent allowed rules pair.0 both.one first_steps hold both.first in
    let second = derivation_congruent allowed rules pair.1 both.other second_steps hold both.second in
    congruent_ordered both.one both.other u v both.ends
    (congruent_transitive (congruent_symmetric first) (congruent_transitive sides second))

-- words from which derivations lead to congruent words are congruent
pub deriving_congruent : {others : Pair → Type 0} (allowed : ℕ → Type 0) (rules : List Pair) (pair : Pair)
    (first_steps second_steps : List LogStep) (u v : List ℕ) → Congruent others u v
    → ((rule : Pair) → IsAllowedRule allowed rules rule → Congruent others rule.0 rule.1)
    → DerivesBoth allowed rules pair first_steps second_steps u v → Congruent others pair.0 pair.1
deriving_congruent allowed rules pair first_steps second_steps u v sides hold both =
    let first = derivation_congruent allowed rules pair.0 both.one first_steps hold both.first in
    let second = derivation_congruent allowed rules pair.1 both.other second_steps hold both.second in
    let ends = congruent_unordered both.one both.other u v both.ends sides in
    congruent_transitive first (congruent_transitive ends (congruent_symmetric second))

-- the words of a critical pair are congruent
critical_congruent : {others : Pair → Type 0} (rules : List Pair) (i j place : ℕ) (pair : Pair)
    → ((rule : Pair) → OneOf rules rule → Congruent others rule.0 rule.1)
    → IsCriticalPair rules i j place pair → Congruent others pair.0 pair.1
critical_congruent {others = others} rules i j place pair hold critical =
    let first = critical.first in
    let second = critical.second in
    let overlap = critical.overlap in
    let word : List ℕ = superposition first.0 second.0 place in
    let reduct : Pair = critical_pair first second place in
    let IsHeld : Pair → Type 0 = λ rule. Congruent others rule.0 rule.1 in
    let by : (rule : Pair) → OneOf rules rule → (other : Pair) → other ≡ rule → IsHeld other = λ rule one other same.
    subst IsHeld (sym same) (hold rule one) in
    let one : Congruent others word reduct.0 =
    congruent_covered (by first (numbered_one rules i first overlap.is_first))
    (congruent_by_replacement (replaced-by-first first second place overlap.overlaps)) in
    let other : Congruent others word reduct.1 =
    congruent_covered (by second (numbered_one rules j second overlap.is_second))
    (congruent_by_replacement (replaced-by-second first second place overlap.overlaps)) in
    subst IsHeld (sym critical.is) (congruent_transitive (congruent_symmetric one) other)

-- the words of an origin's pair are congruent, where the sides of relations and of rules are
pub pair_congruent : {others : Pair → Type 0} (relations rules : List Pair) (origin : Origin) (pair : Pair)
    → ((relation : Pair) → OneOf relations relation → Congruent others relation.0 relation.1)
    → ((rule : Pair) → OneOf rules rule → Congruent others rule.0 rule.1)
    → IsPairOf relations rules origin pair → Congruent others pair.0 pair.1
pair_congruent relations rules (Relation k) pair given hold is = given pair (numbered_one relations k pair is)
pair_congruent relations rules (Overlap i j place) pair given hold is = critical_congruent rules i j place pair hold is
pair_congruent relations rules (Killed k) pair given hold is = hold pair (numbered_one rules k pair is)
pair_congruent relations rules (Shortened k) pair given hold is = hold pair (numbered_one rules k pair is)

comes_congruent : {others : Pair → Type 0} (relations earlier : List Pair) (line : Line)
    → ((relation : Pair) → OneOf relations relation → Congruent others relation.0 relation.1)
    → ((rule : Pair) → OneOf earlier rule → Congruent others rule.0 rule.1)
    → ComesFromPair relations earlier line → Congruent others line.left line.right
comes_congruent relations earlier line given hold comes =
    derived_congruent Any earlier comes.pair line.first_steps.items line.second_steps.items line.left line.right
    (pair_congruent relations earlier line.origin comes.pair given hold comes.is_pair)
    (λ rule is. hold rule (numbered_one earlier is.0 rule is.2)) comes.derived

shortened_congruent : {others : Pair → Type 0} (earlier : List Pair) (k : ℕ) (line : Line)
    → ((rule : Pair) → OneOf earlier rule → Congruent others rule.0 rule.1)
    → ShortensRule earlier k line → Congruent others line.left line.right
shortened_congruent earlier k line hold shortens =
    let rule = shortens.rule in
    let own = hold rule (numbered_one earlier k rule shortens.is_rule) in
    let reduced = derivation_congruent Any earlier rule.1 line.right line.first_steps.items
    (λ other is. hold other (numbered_one earlier is.0 other is.2)) shortens.right in
    congruent_transitive (path_equal line.left rule.0 shortens.left) (congruent_transitive own reduced)

-- the sides of a line are congruent where those of what it follows from are
pub follows_congruent : {others : Pair → Type 0} (relations earlier : List Pair) (origin : Origin) (line : Line)
    → ((relation : Pair) → OneOf relations relation → Congruent others relation.0 relation.1)
    → ((rule : Pair) → OneOf earlier rule → Congruent others rule.0 rule.1)
    → FollowsBy relations earlier origin line → Congruent others line.left line.right
follows_congruent relations earlier (Relation k) line given hold follows =
    comes_congruent relations earlier line given hold follows
follows_congruent relations earlier (Overlap i j place) line given hold follows =
    comes_congruent relations earlier line given hold follows
follows_congruent relations earlier (Killed k) line given hold follows =
    comes_congruent relations earlier line given hold follows.0
follows_congruent relations earlier (Shortened k) line given hold follows =
    shortened_congruent earlier k line hold follows
