-- What the lines of a log have to do with the relations, and what is found of these step by step.
use Rattle.std.proofs.Common.{◌≡◌, ◌∙◌, ℕ, ◌+◌, ◌<◌, ◌≤◌, zero, suc, List, [], ◌∷◌, ◌++◌, length, take, get_or, slice_get, Some, refl, sym, ap, subst, inl, inr, arith, take_all, option_to_list, true, false, true≢false}
use Rattle.std.specs.Prelude.{◌↔◌, Bool, IsTrue, Result, Ok, Err, IfOk}
use Rattle.std.proofs.lemmas.Bool.{cases_lt}
use Rattle.std.proofs.lemmas.List.{length-map, map-append}
use Rattle.std.proofs.lemmas.Option.{none-some, same_Some, slice_get_read, slice_get_within}
use Rattle.kb_word.specs.Words.{Pair, OneOf}
use Rattle.kb_word.specs.WordOrders.{Below}
use Rattle.kb_word.specs.Congruence.{Congruent, SameCongruence}
use Rattle.kb_word.specs.Overlap.{IsConfluent, IsResolved}
use Rattle.kb_word.specs.Presentations.{PresentationParts}
use Rattle.kb_word.specs.Rewriting.{AreDecreasing, NormalForm}
use Rattle.kb_word.specs.declared.word_order.WordOrder.{WordOrder}
use Rattle.kb_word.proofs.PathLemmas.{congruent_symmetric, congruent_transitive}
use Rattle.kb_rules.proofs.Reducts.{normal_form_congruent}
use Rattle.kb_rules.proofs.Unique.{normal_form_unique}
use Rattle.kb_confluence.specs.declared.confluence.Verdict.TheVariants as verdicts
use Rattle.kb_machine.specs.Lines.{rule_of, rules_of}
use Rattle.kb_machine.specs.declared.line.Line.{Line}
use Rattle.kb_machine.proofs.Logs.{justified_decreases, justified_rules}
use Rattle.kb_machine.proofs.Numbers.{rules_push}
use Rattle.kb_proof.specs.Completions.{all_lines}
use Rattle.kb_proof.specs.declared.log.Log.{Log}
use Rattle.kb_proof.proofs.Listed.{rule_at, take_with}
use Rattle.kb_bylog.specs.LogLines.{AreJoined, IsJustifiedBy, Settles, lines_of, relations}

-- ---- the congruence

-- what stands in a list stands in a longer one
one_of_front : (xs ys : List Pair) (pair : Pair) → OneOf xs pair → OneOf (xs ++ ys) pair
one_of_front [] ys pair (index, at) = absurd (none-some pair at)
one_of_front (x ∷ xs) ys pair (zero, at) = (zero, at)
one_of_front (x ∷ xs) ys pair (suc index, at) =
    let one = one_of_front xs ys pair (index, at) in (suc one.0, one.1)

-- a line is one of all, before that of the pair that waits
one_of_all : (log : Log) (pair : Pair) → OneOf (lines_of log) pair → OneOf (rules_of (all_lines log)) pair
one_of_all log pair one =
    let rest = option_to_list log.waiting in
    let Among : List Pair → Type 0 = λ rules. OneOf rules pair in
    subst Among (sym (map-append rule_of log.lines.items rest)) (one_of_front (lines_of log) (rules_of rest) pair one)

-- each line of a justified log is congruent by the relations
pub lines_follow : (parts : PresentationParts) (log : Log) (pair : Pair) → IsJustifiedBy parts log → OneOf (lines_of log) pair
    → Congruent (OneOf (relations parts)) pair.0 pair.1
lines_follow parts log pair justified one = justified_rules justified.justified pair (one_of_all log pair one)

-- and decreases
pub lines_decrease : (parts : PresentationParts) (log : Log) → IsJustifiedBy parts log → AreDecreasing (Below parts.order) (lines_of log)
lines_decrease parts log justified pair one = justified_decreases justified.justified pair (one_of_all log pair one)

-- where both sides of each relation have one normal form by the lines, they generate the congruence of the relations
pub lines_generate : (parts : PresentationParts) (log : Log) → IsJustifiedBy parts log → AreJoined (lines_of log) (relations parts)
    → SameCongruence (relations parts) (lines_of log)
lines_generate parts log justified joined = record {
  covered = λ pair one.
      let both = joined pair one in
      congruent_transitive (normal_form_congruent both.left) (congruent_symmetric (normal_form_congruent both.right));
  covers = λ pair one. lines_follow parts log pair justified one;
}

-- ---- rules of lines

-- the rule of a line decreases along an order that is theirs
pub decreasing_at : (order of : WordOrder) (lines : List Line) (index : ℕ) (line : Line) (rule : Pair) → AreDecreasing (Below order) (rules_of lines)
    → index < length lines → line ≡ get_or lines index line → rule ≡ rule_of line → of ≡ order → Below of rule.1 rule.0
decreasing_at order of lines index line rule decreasing within read is same =
    let there = slice_get_read lines (length lines) index line refl within read in
    let falls : Below order line.right line.left = decreasing (rule_of line) (index, rule_at lines index line there) in
    let ByOrder : WordOrder → Type 0 = λ o. Below o line.right line.left in
    let OfRule : Pair → Type 0 = λ r. Below of r.1 r.0 in
    subst OfRule (sym is) (subst ByOrder (sym same) falls)

-- one rule more
pub rules_more : (lines : List Line) (index : ℕ) (line : Line) (rules next : List Pair) (rule : Pair) → index < length lines
    → line ≡ get_or lines index line → rules ≡ rules_of (take index lines) → rule ≡ rule_of line → next ≡ rules ++ rule ∷ []
    → next ≡ rules_of (take (index + 1) lines)
rules_more lines index line rules next rule within read so_far is new =
    let there = slice_get_read lines (length lines) index line refl within read in
    let front = take_with lines index line within there in
    new ∙ (ap (λ (r : Pair). rules ++ r ∷ []) is
    ∙ (ap (λ (rs : List Pair). rs ++ rule_of line ∷ []) so_far
    ∙ (sym (rules_push (take index lines) line) ∙ ap (λ (ls : List Line). rules_of ls) (sym front))))

-- all rules
pub rules_all : (lines : List Line) (index : ℕ) (rules : List Pair) → length lines ≤ index → rules ≡ rules_of (take index lines)
    → rules ≡ rules_of lines
rules_all lines index rules past so_far = so_far ∙ ap (λ (ls : List Line). rules_of ls) (take_all index lines past)

-- there are no more than lines
pub few_lines : (lines : List Line) (rules : List Pair) (most : ℕ) → rules ≡ rules_of lines → length lines ≤ most → length rules ≤ most
few_lines lines rules most is few = omega (arith, ap length is, length-map lines rule_of)

-- ---- one pair after another

-- the pairs before this place are joined
abbrev pub JoinedBefore : List Pair → List Pair → ℕ → Type 0
JoinedBefore rules pairs place =
    (index : ℕ) (pair : Pair) → index < place → slice_get pairs index ≡ Some pair → IsResolved rules pair

pub joined_none : (rules pairs : List Pair) → JoinedBefore rules pairs 0
joined_none rules pairs index pair within at = absurd (omega arith)

pub joined_more : (rules pairs : List Pair) (place : ℕ) (next : Pair) → place < length pairs → next ≡ get_or pairs place next
    → JoinedBefore rules pairs place → IsResolved rules next → JoinedBefore rules pairs (place + 1)
joined_more rules pairs place next within read before joined index pair below at =
    elim (cases_lt index place) [
      | inl earlier ↦ before index pair earlier at
      | inr late ↦
          let same : index ≡ place = omega arith in
          let there : slice_get pairs place ≡ Some next = slice_get_read pairs (length pairs) place next refl within read in
          let both : next ≡ pair = same_Some next pair (sym there ∙ ap (slice_get pairs) (sym same) ∙ at) in
          let Joined : Pair → Type 0 = λ p. IsResolved rules p in
          subst Joined both joined
    ]

pub joined_all : (rules pairs : List Pair) (place : ℕ) → length pairs ≤ place → JoinedBefore rules pairs place → AreJoined rules pairs
joined_all rules pairs place all before pair (index, at) =
    let within : index < length pairs = slice_get_within pairs index pair at in
    before index pair (omega arith) at

-- not all pairs are joined where one isn't
pub not_all_joined : (rules pairs : List Pair) (place : ℕ) (next : Pair) → place < length pairs → next ≡ get_or pairs place next
    → (¬ IsResolved rules next) → ¬ AreJoined rules pairs
not_all_joined rules pairs place next within read apart joined =
    apart (joined next (place, slice_get_read pairs (length pairs) place next refl within read))

-- both sides have one normal form exactly where those that were found are the same
pub same_joined : (rules : List Pair) (pair : Pair) (u v : List ℕ) (same : Bool) → NormalForm rules pair.0 u → NormalForm rules pair.1 v
    → (IsTrue same ↔ (u ≡ v)) → IsTrue same ↔ IsResolved rules pair
same_joined rules pair u v same left right is = (
  λ true_is.
      let To : List ℕ → Type 0 = λ m. NormalForm rules pair.1 m in
      record { joint = u; left = left; right = subst To (sym (is.0 true_is)) right },
  λ joined. is.1 (normal_form_unique left joined.left ∙ sym (normal_form_unique right joined.right)),
)

-- ---- answers

-- an answer no of what isn't so, and an answer yes of what is
pub no_answers : {X : Type 0} → ¬ X → IsTrue false ↔ X
no_answers none = (λ is. absurd (true≢false (sym is)), λ x. absurd (none x))

pub yes_answers : {X : Type 0} → X → IsTrue true ↔ X
yes_answers x = (λ is. x, λ has. refl)

-- what is answered no isn't so
pub not_so : {X : Type 0} {answer : Bool} → (IsTrue answer ↔ X) → answer ≡ false → ¬ X
not_so says is x = true≢false (sym (says.1 x) ∙ is)

-- what holds of the value of a result holds of it as what follows from that
pub if_ok : {X E : Type 0} {P Q : X → Type 0} (result : Result X E) → IfOk result P → ((x : X) → P x → Q x) → IfOk result Q
if_ok (Ok x) holds then_so = then_so x holds
if_ok (Err e) holds then_so = tt

-- a verdict no on rules is a no on the same ones
pub no_confluent : (rules others : List Pair) → rules ≡ others → (i j place : ℕ) (u v : List ℕ)
    → ((verdicts.No i j place u v ≡ verdicts.Yes) ↔ IsConfluent rules) → IsTrue false ↔ IsConfluent others
no_confluent rules others same i j place u v says =
    no_answers (λ confluent. no_yes (says.1 (subst IsConfluent (sym same) confluent)))
  where
    no_yes : ¬ (verdicts.No i j place u v ≡ verdicts.Yes)
    no_yes is = cc

-- ---- all together

-- where the relations are joined the rules settle them exactly where they are confluent
pub settles_by : {rules pairs : List Pair} {confluent : Bool} → AreJoined rules pairs → (IsTrue confluent ↔ IsConfluent rules)
    → IsTrue confluent ↔ Settles rules pairs
settles_by joined says = (
  λ is. record { joined = joined; confluent = says.0 is },
  λ settles. says.1 settles.confluent,
)

pub no_settles : {rules pairs : List Pair} → (¬ AreJoined rules pairs) → ¬ Settles rules pairs
no_settles apart settles = apart settles.joined
