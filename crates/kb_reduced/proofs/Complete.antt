-- The reduced complete system of a congruence is complete. Proved of any reduction order.
use Rattle.std.proofs.Common.{◌≡◌, ◌≢◌, ℕ, ◌-◌, ◌<◌, List, [], ◌∷◌, length, take, drop, Some, refl, sym, subst, inl, inr, arith}
use Rattle.std.specs.Prelude.{slice_get}
use Rattle.std.proofs.lemmas.List.{append-nil, length-take}
use Rattle.kb_word.specs.Words.{Pair, OneOf}
use Rattle.kb_word.specs.Order.{IsReductionOrder, Accessible}
use Rattle.kb_word.specs.Order.Accessible.{accessible}
use Rattle.kb_word.specs.ShortlexLaws.{strong_induction, compare_cases}
use Rattle.kb_word.specs.Congruence.{Congruent, SameCongruence, IsLeast}
use Rattle.kb_word.specs.Rewriting.{AreDecreasing, IsIrreducible, NormalForm}
use Rattle.kb_word.specs.Overlap.{IsConfluent}
use Rattle.kb_word.proofs.PathLemmas.{congruent_reflexive, congruent_symmetric, congruent_transitive, congruent_sides, congruent_covered, IsLeast-same, SameCongruence-back}
use Rattle.kb_rules.proofs.Exists.{normal_form_exists, nothing_below_empty}
use Rattle.kb_rules.proofs.Reducts.{normal_form_congruent}
use Rattle.kb_reduced.specs.Reduced.{IsLeastWord, IsReducedRule, IsReducedComplete, IsCompleteSystem, NoLeftSideInAnother}
use Rattle.kb_reduced.specs.Minimal.{PartsAreIrreducible}
use Rattle.kb_reduced.proofs.Factors.{irreducible_behind_first, irreducible_before_last, whole_word}
use Rattle.kb_reduced.proofs.Joining.{confluent_from_one}
use Rattle.kb_reduced.proofs.Least.{least_equal, least_of_class, least_from_word, least_irreducible}
use Rattle.kb_reduced.proofs.Sorted.{related_at}

reduced_rule_same : {below : List ℕ → List ℕ → Type 0} {pairs others : List Pair} → SameCongruence pairs others → (rule : Pair)
    → IsReducedRule below pairs rule → IsReducedRule below others rule
reduced_rule_same same rule reduced = record {
  not_least = λ least. reduced.not_least (IsLeast-same (SameCongruence-back same) rule.0 rule.0 least);
  behind_first = IsLeast-same same (drop 1 rule.0) (drop 1 rule.0) reduced.behind_first;
  before_last = IsLeast-same same (take (length rule.0 - 1) rule.0) (take (length rule.0 - 1) rule.0) reduced.before_last;
  least = IsLeast-same same rule.0 rule.1 reduced.least;
}

-- the reduced complete system is that of each list of pairs that generates the same congruence
pub reduced_same : {below : List ℕ → List ℕ → Type 0} {pairs others rules : List Pair} → SameCongruence pairs others
    → IsReducedComplete below pairs rules → IsReducedComplete below others rules
reduced_same same reduced = record {
  each = λ rule one. reduced_rule_same same rule (reduced.each rule one);
  all = λ rule is. reduced.all rule (reduced_rule_same (SameCongruence-back same) rule is);
  sorted = reduced.sorted;
}

-- It can't be that a word has no least congruent word. Which word that is, nobody says: the congruence needn't be
-- decidable.
not_without_least : {below : List ℕ → List ℕ → Type 0} (pairs : List Pair) (w u : List ℕ) → Accessible below u
    → Congruent (OneOf pairs) w u → ((m : List ℕ) → ¬ IsLeast below pairs w m) → ⊥
not_without_least pairs w u (accessible lower) congruent none =
    none u (record {
      congruent = congruent;
      least = λ v other less. not_without_least pairs w v (lower v less) other none;
    })

module _ {below : List ℕ → List ℕ → Type 0} (order : IsReductionOrder below) (pairs rules : List Pair)
    (reduced : IsReducedComplete below pairs rules) where
  kept : (rule : Pair) → OneOf rules rule → Congruent (OneOf pairs) rule.0 rule.1
  kept rule one = let is = reduced.each rule one in is.least.congruent

  right_below : (rule : Pair) → IsReducedRule below pairs rule → below rule.1 rule.0
  right_below rule is =
      elim (order.total rule.1 rule.0) [
        | inl same ↦
            let P : List ℕ → Type 0 = λ w. IsLeastWord below pairs w in
            absurd (is.not_least (subst P same (least_of_class order rule.0 rule.1 is.least)))
        | inr apart ↦ elim apart [
          | inl lower ↦ lower
          | inr upper ↦ absurd (is.least.least rule.0 (congruent_reflexive rule.0) upper)
        ]
      ]

  decreasing : AreDecreasing below rules
  decreasing rule one = right_below rule (reduced.each rule one)

  not_left_side : (w m : List ℕ) → IsIrreducible (OneOf rules) w → ¬ OneOf rules (w, m)
  not_left_side w m irreducible one = irreducible [] (w, m) [] one (sym (append-nil w))

  -- a word whose parts are least is a left side, or least
  least_whole : (w : List ℕ) → IsIrreducible (OneOf rules) w → IsLeastWord below pairs (drop 1 w)
      → IsLeastWord below pairs (take (length w - 1) w) → IsLeastWord below pairs w
  least_whole w irreducible behind before = record {
    congruent = congruent_reflexive w;
    least = λ v congruent lower. not_without_least pairs w w (order.well_founded w) (congruent_reflexive w)
        (λ m least. not_left_side w m irreducible (reduced.all (w, m) (record {
          not_least = λ is. is.least v congruent lower;
          behind_first = behind;
          before_last = before;
          least = least;
        })));
  }

  empty_least : IsLeastWord below pairs []
  empty_least = record { congruent = congruent_reflexive []; least = λ v congruent. nothing_below_empty order v }

  LeastOfLength : ℕ → Type 0
  LeastOfLength n = (w : List ℕ) → length w ≡ n → IsIrreducible (OneOf rules) w → IsLeastWord below pairs w

  longer : (n : ℕ) → ((m : ℕ) → m < n → LeastOfLength m) → LeastOfLength n
  unfolding LeastOfLength
  longer n shorter [] long irreducible = empty_least
  longer n shorter (x ∷ w) long irreducible =
      let front : List ℕ = take (length (x ∷ w) - 1) (x ∷ w) in
      let short : length front < n = omega (arith, length-take (length (x ∷ w) - 1) (x ∷ w)) in
      least_whole (x ∷ w) irreducible
      (shorter (length w) (omega arith) w refl (irreducible_behind_first (x ∷ w) irreducible))
      (shorter (length front) short front refl (irreducible_before_last (x ∷ w) irreducible))

  -- what is irreducible by the reduced rules is least
  pub reduced_irreducible_least : (w : List ℕ) → IsIrreducible (OneOf rules) w → IsLeastWord below pairs w
  unfolding LeastOfLength
  reduced_irreducible_least w irreducible = strong_induction LeastOfLength longer (length w) w refl irreducible

  -- a least word is irreducible by them
  pub least_reduced_irreducible : (w : List ℕ) → IsLeastWord below pairs w → IsIrreducible (OneOf rules) w
  least_reduced_irreducible w least = least_irreducible order rules decreasing kept w least

  -- a normal form is the least word
  pub reduced_normal_least : (w m : List ℕ) → NormalForm rules w m → IsLeast below pairs w m
  reduced_normal_least w m normal =
      least_from_word order w m (congruent_covered kept (normal_form_congruent normal)) (reduced_irreducible_least m normal.irreducible)

  one_irreducible : (u v : List ℕ) → Congruent (OneOf pairs) u v → IsIrreducible (OneOf rules) u → IsIrreducible (OneOf rules) v → u ≡ v
  one_irreducible u v congruent first second =
      least_equal order u v congruent (reduced_irreducible_least u first) (reduced_irreducible_least v second)

  confluent : IsConfluent rules
  confluent = confluent_from_one order rules decreasing (λ u v congruent. one_irreducible u v (congruent_covered kept congruent))

  -- congruent words have one normal form by the reduced rules
  by_normal_forms : (u v : List ℕ) → Congruent (OneOf pairs) u v → Congruent (OneOf rules) u v
  by_normal_forms u v congruent =
      let first = normal_form_exists order rules decreasing u in
      let second = normal_form_exists order rules decreasing v in
      let to_first = normal_form_congruent first.1 in
      let to_second = normal_form_congruent second.1 in
      let between = congruent_transitive (congruent_symmetric (congruent_covered kept to_first))
      (congruent_transitive congruent (congruent_covered kept to_second)) in
      let same : first.0 ≡ second.0 = one_irreducible first.0 second.0 between first.1.irreducible second.1.irreducible in
      let P : List ℕ → Type 0 = λ m. Congruent (OneOf rules) u m in
      congruent_transitive (subst P same to_first) (congruent_symmetric to_second)

  congruence : SameCongruence pairs rules
  congruence = record {
    covered = λ pair one. by_normal_forms pair.0 pair.1 (congruent_sides pair one);
    covers = kept;
  }

  pub reduced_complete : IsCompleteSystem below pairs rules
  reduced_complete = record { decreasing = decreasing; confluent = confluent; same = congruence }

  parts_irreducible : (rule : Pair) → IsReducedRule below pairs rule → PartsAreIrreducible (OneOf rules) rule.0
  parts_irreducible rule is = record {
    behind_first = least_reduced_irreducible (drop 1 rule.0) is.behind_first;
    before_last = least_reduced_irreducible (take (length rule.0 - 1) rule.0) is.before_last;
  }

  -- rules at different indices have different left sides
  left_apart : (i j : ℕ) (one other : Pair) → slice_get rules i ≡ Some one → slice_get rules j ≡ Some other → i < j → one.0 ≢ other.0
  left_apart i j one other is_one is_other less same =
      let before : below one.0 other.0 =
      related_at (λ (p q : Pair). below p.0 q.0) rules i j one other reduced.sorted less is_one is_other in
      let P : List ℕ → Type 0 = λ w. below one.0 w in
      order.irreflexive one.0 (subst P (sym same) before)

  pub no_factors : NoLeftSideInAnother rules
  no_factors i j one other is_one is_other apart factor =
      let stands = factor.1 in
      let same : one.0 ≡ other.0 = whole_word one.0 stands.before other stands.after (j, is_other)
      (parts_irreducible one (reduced.each one (i, is_one))) stands.whole in
      elim (compare_cases i j) [
        | inl less ↦ left_apart i j one other is_one is_other less same
        | inr more ↦ elim more [
          | inl equal ↦ apart equal
          | inr less ↦ left_apart j i other one is_other is_one less (sym same)
        ]
      ]
