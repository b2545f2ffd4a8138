-- A list of rules, sorted by their left sides, of which each is then kept once. Proved of any reduction order.
use Rattle.std.proofs.Common.{◌≡◌, ◌↔◌, ℕ, zero, suc, ◌⊎◌, Bool, true, false, nat_eq, List, [], ◌∷◌, length, get_or, Ordering, refl, sym, ◌∙◌, subst, inl, inr, arith, All}
use Rattle.std.specs.Cmp.{IsStrictWeakOrder}
use Rattle.std.specs.Cmp.Lexicographic.{pointwise}
use Rattle.std.specs.List.{AllPairs, Contains, dedup, dedup_from}
use Rattle.std.specs.List.Sorted.{IsPermutation, IsSortedBy}
use Rattle.std.specs.Ordering.{is_lt}
use Rattle.std.specs.declared.cmp.Ordering.TheVariants.{Less, Equal, Greater}
use Rattle.std.proofs.lemmas.Bool.{true≢false, cond_both, and_parts}
use Rattle.std.proofs.lemmas.List.Elements.{All-cons, All-head, All-tail, All-contains_itself}
use Rattle.std.proofs.lemmas.List.Filters.{All-dedup}
use Rattle.std.proofs.lemmas.List.Kept.{AllPairs-cons, Contains-dedup, Contains-from_dedup}
use Rattle.std.proofs.lemmas.List.Sorted.{All-permutation, Contains-permutation, IsPermutation-sym, sorted_far}
use Rattle.std.proofs.lemmas.Option.{slice_get_read, slice_get_within}
use Rattle.kb_word.specs.Words.{Pair, OneOf}
use Rattle.kb_word.specs.Order.{IsReductionOrder}
use Rattle.kb_word.specs.Comparison.{same_from_pointwise}
use Rattle.kb_rules.specs.Sides.{same_sides, same_sides_equiv}
use Rattle.kb_reduced.specs.Minimal.{HaveOneRightSide, IsSortedFrom}
use Rattle.kb_reduced.proofs.Sorted.{pair_same, read_or}

contains_one : (pairs : List Pair) (pair : Pair) → OneOf pairs pair → Contains pairs pair
contains_one pairs pair one = (one.0, slice_get_within pairs one.0 pair one.1, read_or pairs one.0 pair pair one.1)

one_contained : (pairs : List Pair) (pair : Pair) → Contains pairs pair → OneOf pairs pair
one_contained pairs pair has = (has.0, slice_get_read pairs (length pairs) has.0 pair refl has.1 (sym has.2))

-- pairs whose sides are the same are equal
same_pair : (one other : Pair) → same_sides one other ≡ true → one ≡ other
same_pair one other e =
    let parts = and_parts (pointwise nat_eq one.0 other.0) (pointwise nat_eq one.1 other.1) e in
    let left : one.0 ≡ other.0 = same_from_pointwise one.0 other.0 parts.0 in
    let right : one.1 ≡ other.1 = same_from_pointwise one.1 other.1 parts.1 in
    pair_same one other left right

same_sides_from : (one other : Pair) → one ≡ other → same_sides one other ≡ true
same_sides_from one other e = let P : Pair → Type 0 = λ p. same_sides one p ≡ true in subst P e (same_sides_equiv.refl one)

-- what a comparison of two words answers, as a test
test_of : (below : List ℕ → List ℕ → Type 0) (u v : List ℕ) → (u ≡ v) ⊎ (below u v ⊎ below v u) → Bool
test_of below u v (inl same) = false
test_of below u v (inr (inl lower)) = true
test_of below u v (inr (inr upper)) = false

module _ {below : List ℕ → List ℕ → Type 0} (order : IsReductionOrder below) where
  irreflexive_same : (u v : List ℕ) → u ≡ v → ¬ below u v
  irreflexive_same u v same lower = let P : List ℕ → Type 0 = λ w. below u w in order.irreflexive u (subst P (sym same) lower)

  one_way : (u v : List ℕ) → below u v → ¬ below v u
  one_way u v lower upper = order.irreflexive u (order.transitive u v u lower upper)

  -- of u below v, and w not below v: u is below w
  below_next : (u v w : List ℕ) → below u v → (¬ below w v) → below u w
  below_next u v w lower not_lower =
      elim (order.total v w) [
        | inl same ↦ let P : List ℕ → Type 0 = λ x. below u x in subst P same lower
        | inr apart ↦ elim apart [ inl next ↦ order.transitive u v w lower next | inr upper ↦ absurd (not_lower upper) ]
      ]

  case_below : (u v : List ℕ) (c : (u ≡ v) ⊎ (below u v ⊎ below v u)) → below u v → test_of below u v c ≡ true
  unfolding test_of
  case_below u v (inl same) lower = absurd (irreflexive_same u v same lower)
  case_below u v (inr (inl one)) lower = refl
  case_below u v (inr (inr upper)) lower = absurd (one_way u v lower upper)

  case_not_below : (u v : List ℕ) (c : (u ≡ v) ⊎ (below u v ⊎ below v u)) → (¬ below u v) → test_of below u v c ≡ false
  unfolding test_of
  case_not_below u v (inl same) apart = refl
  case_not_below u v (inr (inl lower)) apart = absurd (apart lower)
  case_not_below u v (inr (inr upper)) apart = refl

  case_true : (u v : List ℕ) (c : (u ≡ v) ⊎ (below u v ⊎ below v u)) → test_of below u v c ≡ true → below u v
  unfolding test_of
  case_true u v (inl same) e = absurd (true≢false (sym e))
  case_true u v (inr (inl lower)) e = lower
  case_true u v (inr (inr upper)) e = absurd (true≢false (sym e))

  -- whether u is below v, as a test
  pub is_below : List ℕ → List ℕ → Bool
  is_below u v = test_of below u v (order.total u v)

  test_below : (u v : List ℕ) → below u v → is_below u v ≡ true
  unfolding is_below
  test_below u v lower = case_below u v (order.total u v) lower

  test_not_below : (u v : List ℕ) → (¬ below u v) → is_below u v ≡ false
  unfolding is_below
  test_not_below u v apart = case_not_below u v (order.total u v) apart

  below_test : (u v : List ℕ) → is_below u v ≡ true → below u v
  unfolding is_below
  below_test u v e = case_true u v (order.total u v) e

  not_below_test : (u v : List ℕ) → is_below u v ≡ false → ¬ below u v
  not_below_test u v e lower = true≢false (sym (test_below u v lower) ∙ e)

  pub test_order : {X : Type 0} (key : X → List ℕ) → IsStrictWeakOrder (λ x y. is_below (key x) (key y))
  test_order key = record {
    one_way = λ x y e. test_not_below (key y) (key x) (one_way (key x) (key y) (below_test (key x) (key y) e));
    chain = λ x y z e f. test_not_below (key x) (key z)
        (λ lower. not_below_test (key x) (key y) e (below_next (key x) (key z) (key y) lower (not_below_test (key y) (key z) f)));
  }

  -- an answer that is `Less` exactly along the order
  pub answers_test : (u v : List ℕ) (o : Ordering) → (o ≡ Less) ↔ below u v → is_lt o ≡ is_below u v
  answers_test u v Less answer = sym (test_below u v (answer.0 refl))
  answers_test u v Equal answer = sym (test_not_below u v (λ lower. absurd (cc (answer.1 lower))))
  answers_test u v Greater answer = sym (test_not_below u v (λ lower. absurd (cc (answer.1 lower))))

  abbrev Before : Pair → Pair → Type 0
  Before one other = below one.0 other.0

  abbrev NotAfter : Pair → Pair → Type 0
  NotAfter one other = ¬ below other.0 one.0

  module _ (Own : Pair → Type 0) (one_right : (one other : Pair) → Own one → Own other → one.0 ≡ other.0 → one ≡ other) where
    strictly : (k x : Pair) → Own k → Own x → NotAfter k x → same_sides x k ≡ false → Before k x
    strictly k x own_k own_x low differ =
        elim (order.total k.0 x.0) [
          | inl same ↦ absurd (true≢false (sym (same_sides_from x k (sym (one_right k x own_k own_x same))) ∙ differ))
          | inr apart ↦ elim apart [ inl lower ↦ lower | inr upper ↦ absurd (low upper) ]
        ]

    -- k is the last rule that was kept
    strict_from : (xs : List Pair) (k : Pair) → All Own (k ∷ xs) → All (NotAfter k) xs → AllPairs NotAfter xs
        → AllPairs Before (dedup_from same_sides k xs)
    strict_from [] k own low up = λ i j d less within. absurd (let no : ⊥ = omega arith in no)
    strict_from (x ∷ xs) k own low up =
        let rest : AllPairs NotAfter xs = λ i j d less within. up (suc i) (suc j) d (omega arith) (omega arith) in
        let from_x : All (NotAfter x) xs = λ j d within. up zero (suc j) d (omega arith) (omega arith) in
        let own_k : Own k = All-head Own k (x ∷ xs) own in
        let own_more : All Own (x ∷ xs) = All-tail Own k (x ∷ xs) own in
        cond_both (same_sides x k) (dedup_from same_sides k xs) (k ∷ dedup_from same_sides x xs) (AllPairs Before)
        (λ _. strict_from xs k (All-cons Own k xs own_k (All-tail Own x xs own_more)) (All-tail (NotAfter k) x xs low) rest)
        (λ differ.
        let first : Before k x = strictly k x own_k (All-head Own x xs own_more) (All-head (NotAfter k) x xs low) differ in
        let all : All (Before k) (x ∷ xs) =
        All-cons (Before k) x xs first (λ j d within. below_next k.0 x.0 (get_or xs j d).0 first (from_x j d within)) in
        AllPairs-cons Before k (dedup_from same_sides x xs) (All-dedup same_sides (Before k) (x ∷ xs) all) (strict_from xs x own_more from_x rest))

    strict : (xs : List Pair) → All Own xs → AllPairs NotAfter xs → AllPairs Before (dedup same_sides xs)
    strict [] own up = λ i j d less within. absurd (let no : ⊥ = omega arith in no)
    strict (x ∷ xs) own up =
        strict_from xs x own (λ j d within. up zero (suc j) d (omega arith) (omega arith))
        (λ i j d less within. up (suc i) (suc j) d (omega arith) (omega arith))

  -- the rules, sorted, each of them once
  pub sorted_once : (rules moved sorted : List Pair) → HaveOneRightSide rules → IsPermutation rules moved
      → IsSortedBy (λ (p q : Pair). is_below p.0 q.0) moved → sorted ≡ dedup same_sides moved → IsSortedFrom below rules sorted
  sorted_once rules moved sorted one_right permuted up is =
      let P : List Pair → Type 0 = λ list. IsSortedFrom below rules list in
      let own : All (OneOf rules) rules = λ k d within. one_contained rules (get_or rules k d) (All-contains_itself rules k d within) in
      let key : Pair → List ℕ = λ p. p.0 in
      subst P (sym is) (record {
        each = λ rule one. one_contained rules rule
            (Contains-permutation moved rules rule (IsPermutation-sym rules moved permuted)
            (Contains-from_dedup same_sides moved rule (contains_one (dedup same_sides moved) rule one)));
        all = λ rule one. one_contained (dedup same_sides moved) rule
            (Contains-dedup same_sides_equiv same_pair moved rule
            (Contains-permutation rules moved rule permuted (contains_one rules rule one)));
        in_order = strict (OneOf rules) one_right moved (All-permutation (OneOf rules) rules moved permuted own)
            (λ i j d less within. not_below_test (get_or moved j d).0 (get_or moved i d).0
            (sorted_far (λ (p q : Pair). is_below p.0 q.0) (test_order key) moved up i j d (omega arith) within));
      })
