-- The differences of rules that were tried at a halt.
use Rattle.std.proofs.Common.{◌≡◌, ℕ, suc, List, [], ◌∷◌, ◌++◌, refl, sym, ap, ◌∙◌, subst}
use Rattle.std.specs.Prelude.{map}
use Rattle.std.proofs.lemmas.List.Elements.{All-append, All-cons, All-nil}
use Rattle.kb_word.specs.Words.{Pair}
use Rattle.kb_diff.specs.Groups.{AreRulesOver, Group}
use Rattle.kb_diff.specs.Keeping.{AddsPairs}
use Rattle.kb_diff.specs.Kept.{KeptDifferences}
use Rattle.kb_diff.specs.declared.grow.Grow.{Grow}
use Rattle.kb_kept.specs.Listed.{AreEqualitiesOver, Lists, pair_of, rule_equality, rule_equalities}
use Rattle.kb_kept.specs.declared.listing.Listing.{Listing}
use Rattle.kb_kept.specs.declared.equality.Equality.{Equality}
use Rattle.kb_auto.specs.Autgroup.{HasFailed, IsTriedAtHalt}
use Rattle.kb_auto.specs.Kept.{Tried}
use Rattle.kb_auto.specs.Trials.{KeepsDifferences}
use Rattle.kb_auto.proofs.KeptEqualities.{pairs_of_all, pairs_of_rules}
use Rattle.kb_auto.proofs.EqualitiesOver.{IsEqualityOver}

-- the equalities of rules over the generators are over them
pub rule_equalities_over : (n : ℕ) (rules : List Pair) → AreRulesOver n rules → AreEqualitiesOver n (rule_equalities rules)
rule_equalities_over n [] over = All-nil (IsEqualityOver n)
rule_equalities_over n (rule ∷ rules) over =
    All-cons (IsEqualityOver n) (rule_equality rule) (rule_equalities rules) (over rule (0, refl))
    (rule_equalities_over n rules (λ other one. over other (suc one.0, one.1)))

pub all_equalities_over : (n : ℕ) (rules : List Pair) (rounds equalities : List Equality) → AreRulesOver n rules → AreEqualitiesOver n rounds
    → equalities ≡ rule_equalities rules ++ rounds → AreEqualitiesOver n equalities
all_equalities_over n rules rounds equalities over rounds_over are =
    let P : List Equality → Type 0 = λ l. AreEqualitiesOver n l in
    subst P (sym are) (All-append (IsEqualityOver n) (rule_equalities rules) rounds (rule_equalities_over n rules over) rounds_over)

-- what is added of the rules is added of their equalities
pub of_rule_equalities : {group : Group} {most : ℕ} {words : List (List ℕ)} (rules : List Pair) (equalities : List Equality) (answer : Grow)
    → equalities ≡ rule_equalities rules → AddsPairs group most rules ([] ∷ []) words answer
    → AddsPairs group most (map pair_of equalities) ([] ∷ []) words answer
of_rule_equalities {group = group} {most = most} {words = words} rules equalities answer are adds =
    let P : List Pair → Type 0 = λ pairs. AddsPairs group most pairs ([] ∷ []) words answer in
    subst P (sym (ap (λ (l : List Equality). map pair_of l) are ∙ pairs_of_rules rules)) adds

pub of_all_equalities : {group : Group} {most : ℕ} {words : List (List ℕ)} (rules : List Pair) (rounds equalities : List Equality) (answer : Grow)
    → equalities ≡ rule_equalities rules ++ rounds → AddsPairs group most (rules ++ map pair_of rounds) ([] ∷ []) words answer
    → AddsPairs group most (map pair_of equalities) ([] ∷ []) words answer
of_all_equalities {group = group} {most = most} {words = words} rules rounds equalities answer are adds =
    let P : List Pair → Type 0 = λ pairs. AddsPairs group most pairs ([] ∷ []) words answer in
    subst P (sym (ap (λ (l : List Equality). map pair_of l) are ∙ pairs_of_all rules rounds)) adds

-- the same, where the group and the limit go by other names
by_own_names : {group own : Group} {most limit : ℕ} {pairs : List Pair} {words : List (List ℕ)} {answer : Grow} → own ≡ group
    → limit ≡ most → AddsPairs group most pairs ([] ∷ []) words answer → AddsPairs own limit pairs ([] ∷ []) words answer
by_own_names {group = group} {own = own} {most = most} {pairs = pairs} {words = words} {answer = answer} same count adds =
    let G : Group → Type 0 = λ it. AddsPairs it most pairs ([] ∷ []) words answer in
    let M : ℕ → Type 0 = λ it. AddsPairs own it pairs ([] ∷ []) words answer in
    subst M (sym count) (subst G (sym same) adds)

-- the rules that were tried, and their differences where they were first seen
pub is_tried_at_halt : (tried : Tried) (differences : KeptDifferences) → KeepsDifferences tried differences → (equalities : List Equality)
    (listing : Listing) → equalities ≡ rule_equalities tried.rules → listing.equalities.items ≡ equalities
    → Lists differences.group differences.words listing → HasFailed tried differences.words → IsTriedAtHalt tried listing
is_tried_at_halt tried differences keeps equalities listing are listed lists failed =
    let L : Group → Type 0 = λ it. Lists it differences.words listing in
    record {
      words = differences.words;
      answer = keeps.answer;
      keeps = keeps.keeps;
      equalities = listed ∙ are;
      lists = subst L keeps.group lists;
      failed = failed;
    }

-- differences that are kept of rules are so in their own group
pub own_pairs : (tried : Tried) (differences : KeptDifferences) → KeepsDifferences tried differences
    → (answer : Grow) × AddsPairs differences.group differences.most tried.rules ([] ∷ []) differences.words answer
own_pairs tried differences keeps = (keeps.answer, by_own_names keeps.group keeps.most keeps.keeps)

-- the rules are over its generators
pub own_letters : (tried : Tried) (differences : KeptDifferences) → KeepsDifferences tried differences
    → AreRulesOver tried.presentation.n tried.rules → AreRulesOver differences.group.n tried.rules
own_letters tried differences keeps over =
    let P : Group → Type 0 = λ it. AreRulesOver it.n tried.rules in
    subst P (sym keeps.group) over
