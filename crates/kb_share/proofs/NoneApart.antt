-- Where a pass finds nothing that is apart, the live rules are confluent.
use Rattle.std.proofs.Common.{◌≡◌, ℕ, ◌<◌, List, [], ◌∷◌, length, sym, ◌∙◌, ap, subst, inl, inr, refl, arith}
use Rattle.std.proofs.lemmas.List.{length-map}
use Rattle.std.proofs.lemmas.Option.{slice_get_within}
use Rattle.kb_word.specs.Words.{Pair}
use Rattle.kb_word.specs.WordOrders.{Below}
use Rattle.kb_word.specs.WordOrderLaws.{word_orders}
use Rattle.kb_word.specs.declared.word_order.WordOrder.{WordOrder}
use Rattle.kb_word.specs.Rewriting.{AreDecreasing, NormalForm}
use Rattle.kb_word.specs.Overlap.{IsConfluent, IsResolved, IsUnresolved, critical_pair}
use Rattle.kb_rules.proofs.Lists.{cases_list}
use Rattle.kb_rules.proofs.Exists.{normal_form_exists}
use Rattle.kb_machine.specs.States.{Problem, State, live_rules, rule_numbered}
use Rattle.kb_machine.specs.Course.{Course, IsSound}
use Rattle.kb_overlap.specs.Composite.{PrimesAreJoined}
use Rattle.kb_overlap.specs.declared.left_sides.Overlap.{Overlap}
use Rattle.kb_share.specs.Primes.{PrimesOfRowAreJoined}
use Rattle.kb_share.specs.Rows.{IsApartAt, found_at}
use Rattle.kb_share.specs.Versions.{version_of}
use Rattle.kb_share.specs.Passes.{AreAllApart, EntersSoMany, entered}
use Rattle.kb_share.proofs.LiveRules.{live_rules_decrease}
use Rattle.kb_share.proofs.Entries.{entered_none}
use Rattle.kb_share.proofs.RowByRow.{is_apart}
use Rattle.kb_share.proofs.Sieving.{rows_joined}

-- a pair is joined where no two different words are its normal forms
joined_unless_apart : (order : WordOrder) (rules : List Pair) (pair : Pair) → AreDecreasing (Below order) rules
    → ((u v : List ℕ) → ¬ IsUnresolved rules pair u v) → IsResolved rules pair
joined_unless_apart order rules pair falls never =
    let left = normal_form_exists (word_orders order) rules falls pair.0 in
    let right = normal_form_exists (word_orders order) rules falls pair.1 in
    elim (cases_list left.0 right.0) [
      | inl same ↦ record {
        joint = right.0;
        left = subst (λ (w : List ℕ). NormalForm rules pair.0 w) same left.1;
        right = right.1;
      }
      | inr apart ↦ absurd (never left.0 right.0 (record { left = left.1; right = right.1; different = apart }))
    ]

-- nothing is apart
none_apart : (problem : Problem) (state : State) → IsSound problem state → AreAllApart (version_of state) [] → (index : ℕ)
    (one : Overlap) → ¬ IsApartAt (live_rules state) index one
none_apart problem state sound all index one apart =
    let rules = live_rules state in
    let within = slice_get_within rules index apart.first apart.overlap.is_first in
    let it = is_apart rules state.live (sym (length-map state.live (rule_numbered state.lines))) sound.ascending
    (length state.versions) (length rules) (found_at state.live index one)
    (record { index = index; overlap = one; low = within; apart = apart; is = refl }) in
    let at = all.all (found_at state.live index one) it in
    let low = at.1 in
    let no : ⊥ = omega (arith, low) in no

none_confluent : (problem : Problem) (state : State) → IsSound problem state → AreAllApart (version_of state) []
    → IsConfluent (live_rules state)
none_confluent problem state sound all i j place first second overlap =
    joined_unless_apart problem.order (live_rules state) (critical_pair first second place)
    (live_rules_decrease problem state sound)
    (λ u v parts. none_apart problem state sound all i (record { rule = j; place = place })
    (record { first = first; second = second; overlap = overlap; u = u; v = v; parts = parts }))

empty_list : {X : Type 0} (xs : List X) → length xs ≡ 0 → xs ≡ []
empty_list [] e = refl
empty_list (x ∷ xs) e = absurd (let no : ⊥ = omega (arith, e) in no)

-- where a pass entered nothing, the live rules are confluent
pub confluent_by_none : (before after : Course) (count : ℕ) → IsSound before.problem before.state → EntersSoMany before after count
    → count ≡ 0 → IsConfluent (live_rules before.state)
confluent_by_none before after count sound enters none =
    none_confluent before.problem before.state sound
    (subst (AreAllApart (version_of before.state)) (empty_list enters.all.found (enters.number ∙ none)) enters.all.are_apart)

-- and the completion is as it was
pub same_by_none : (before after : Course) (count : ℕ) → EntersSoMany before after count → count ≡ 0 → after ≡ before
same_by_none before after count enters none =
    enters.all.enters ∙ ap (entered 1 before) (empty_list enters.all.found (enters.number ∙ none)) ∙ sym (entered_none 1 before)

-- the law of prime overlaps
abbrev pub PrimesDecide : Type 0
PrimesDecide = (order : WordOrder) (rules : List Pair) → AreDecreasing (Below order) rules → PrimesAreJoined rules → IsConfluent rules

-- where the rows of the live rules are joined, these are confluent
pub confluent_by_rows : PrimesDecide → (problem : Problem) (state : State) → IsSound problem state
    → ((index : ℕ) → index < length (live_rules state) → PrimesOfRowAreJoined (live_rules state) index) → IsConfluent (live_rules state)
confluent_by_rows decide problem state sound rows =
    decide problem.order (live_rules state) (live_rules_decrease problem state sound) (rows_joined (live_rules state) rows)
