-- The parts of the presentation of a free abelian group.
use Rattle.std.proofs.Common.{◌≡◌, ◌≢◌, ◌∙◌, ℕ, zero, suc, ◌+◌, ◌-◌, ◌*◌, ◌<◌, ◌≤◌, inl, inr, Bool, true, false, IsTrue, IsFalse, Option, Some, None, List, [], ◌∷◌, ◌++◌, length, get_or, decimal, refl, sym, ap, subst, arith, append_assoc, length-append, slice_get, codes}
use Rattle.std.specs.List.{All, Contains}
use Rattle.std.specs.Option.{option_and_then}
use Rattle.std.proofs.lemmas.Bool.{cases_lt}
use Rattle.std.proofs.lemmas.Fmt.{decimal_injective}
use Rattle.std.proofs.lemmas.List.{get_or_append_left, get_or-append_right}
use Rattle.std.proofs.lemmas.List.Elements.{All-append, All-cons, All-push, Contains-append_cases, Contains-push_cases}
use Rattle.std.proofs.lemmas.Option.{same_Some, slice_get-get_or, slice_get_past, slice_get_within, get_or_from_slice_get}
use Rattle.kb_word.specs.Words.{Pair, OneOf}
use Rattle.kb_word.specs.Relations.{IsOver, IsPresentation, inverse_letter}
use Rattle.kb_word.specs.declared.word_order.WordOrder.TheVariants.{ShortLex}
use Rattle.kb_cmd_completion.specs.FreeAbelian.{commutes, commutes_with_next, commuting, generator_names, generator_inverses}

-- ---- names

names_count : (n : ℕ) → length (generator_names n) ≡ 2 * n
names_count zero = refl
names_count (suc i) =
    let before = names_count i in
    let more : List (List ℕ) = (codes "x" ++ decimal (suc i)) ∷ (codes "X" ++ decimal (suc i)) ∷ [] in
    let both = length-append (generator_names i) more in
    omega (arith, before, both)

none_in_empty : (name : List ℕ) → ¬ Contains {X = List ℕ} [] name
none_in_empty name here = omega (arith, here.1)

same_tail : (b c : ℕ) (bytes others : List ℕ) → b ∷ bytes ≡ c ∷ others → bytes ≡ others
same_tail b c bytes others is = cc

same_head : (b c : ℕ) (bytes others : List ℕ) → b ∷ bytes ≡ c ∷ others → b ≡ c
same_head b c bytes others is = cc

-- a name with a later number stands nowhere
not_numbered : (b c i n : ℕ) → i < n → n ≤ 40 → b ∷ decimal i ≢ c ∷ decimal n
not_numbered b c i n before few is =
    let same = decimal_injective i n (omega arith) (omega arith) (same_tail b c (decimal i) (decimal n) is) in
    omega (arith, before, same)

pub no_later : (i c n : ℕ) → i < n → n ≤ 40 → ¬ Contains (generator_names i) (c ∷ decimal n)
no_later zero c n before few here = none_in_empty (c ∷ decimal n) here
no_later (suc i) c n before few here =
    let small : List ℕ = codes "x" ++ decimal (suc i) in
    let great : List ℕ = codes "X" ++ decimal (suc i) in
    elim (Contains-append_cases (generator_names i) (small ∷ great ∷ []) (c ∷ decimal n) here) [
      | inl first ↦ no_later i c n (omega (arith, before)) few first
      | inr last ↦ elim (Contains-push_cases (small ∷ []) great (c ∷ decimal n) last) [
        | inl one ↦ elim (Contains-push_cases [] small (c ∷ decimal n) one) [
          | inl none ↦ none_in_empty (c ∷ decimal n) none
          | inr is ↦ not_numbered 120 c (suc i) n before few is
        ]
        | inr is ↦ not_numbered 88 c (suc i) n before few is
      ]
    ]

-- nor does the name of an inverse that stands behind its generator's
pub no_inverse : (i : ℕ) → i < 40 → ¬ Contains (generator_names i ++ (codes "x" ++ decimal (suc i)) ∷ []) (codes "X" ++ decimal (suc i))
no_inverse i few here =
    elim (Contains-push_cases (generator_names i) (codes "x" ++ decimal (suc i)) (codes "X" ++ decimal (suc i)) here) [
      | inl first ↦ no_later i 88 (suc i) (omega arith) (omega (arith, few)) first
      | inr is ↦ let same = same_head 120 88 (decimal (suc i)) (decimal (suc i)) is in omega (arith, same)
    ]

-- a name that isn't there is appended
pub pushed : (before after : List (List ℕ)) (name : List ℕ) (new : Bool)
    → (IsTrue new → (¬ Contains before name) × (after ≡ before ++ name ∷ []))
    → (IsFalse new → Contains before name × (after ≡ before)) → (¬ Contains before name) → after ≡ before ++ name ∷ []
pushed before after name true when_new when_known new = (when_new refl).1
pushed before after name false when_new when_known new = absurd (new (when_known refl).0)

module _ (i : ℕ) (before between : List (List ℕ)) (name : List ℕ) (new : Bool) (few : i < 40) (are : before ≡ generator_names i) where
  pub names_few : length before < 65534
  names_few =
      let count : length before ≡ 2 * i = ap length are ∙ names_count i in
      omega (arith, few, count)

  -- the generator's name is appended
  module _ (named : name ≡ codes "x" ++ decimal (i + 1)) (when_new : IsTrue new → (¬ Contains before name) × (between ≡ before ++ name ∷ []))
      (when_known : IsFalse new → Contains before name × (between ≡ before)) where
    first_pushed : between ≡ generator_names i ++ (codes "x" ++ decimal (suc i)) ∷ []
    first_pushed =
        let number : i + 1 ≡ suc i = omega arith in
        let own : name ≡ codes "x" ++ decimal (suc i) = named ∙ ap (λ n. codes "x" ++ decimal n) number in
        let absent : ¬ Contains before name = λ here. no_later i 120 (suc i) (omega arith) (omega (arith, few))
        (subst (Contains (generator_names i)) own (subst (λ names. Contains names name) are here)) in
        pushed before between name new when_new when_known absent ∙ ap (λ names. names ++ name ∷ []) are ∙ ap (λ own_name. generator_names i ++ own_name ∷ []) own

    pub names_few_more : length between < 65534
    names_few_more =
        let count : length between ≡ length (generator_names i) + 1 =
        ap length first_pushed ∙ length-append (generator_names i) ((codes "x" ++ decimal (suc i)) ∷ []) in
        let before_count = names_count i in
        omega (arith, few, count, before_count)

    -- and that of its inverse
    pub names_pushed : (after : List (List ℕ)) (other : List ℕ) (new_too : Bool) → other ≡ codes "X" ++ decimal (i + 1)
        → (IsTrue new_too → (¬ Contains between other) × (after ≡ between ++ other ∷ []))
        → (IsFalse new_too → Contains between other × (after ≡ between)) → after ≡ generator_names (i + 1)
    names_pushed after other new_too other_named yes_too no_too =
        let number : i + 1 ≡ suc i = omega arith in
        let own : other ≡ codes "X" ++ decimal (suc i) = other_named ∙ ap (λ n. codes "X" ++ decimal n) number in
        let absent : ¬ Contains between other = λ here. no_inverse i few
        (subst (Contains (generator_names i ++ (codes "x" ++ decimal (suc i)) ∷ [])) own (subst (λ names. Contains names other) first_pushed here)) in
        pushed between after other new_too yes_too no_too absent ∙ ap (λ names. names ++ other ∷ []) first_pushed
        ∙ append_assoc (generator_names i) ((codes "x" ++ decimal (suc i)) ∷ []) (other ∷ [])
        ∙ ap (λ own_name. generator_names i ++ (codes "x" ++ decimal (suc i)) ∷ own_name ∷ []) own
        ∙ ap generator_names (sym number)

-- ---- inverses

inverses_count : (n : ℕ) → length (generator_inverses n) ≡ 2 * n
inverses_count zero = refl
inverses_count (suc i) =
    let before = inverses_count i in
    let more : List (Option ℕ) = Some (2 * i + 2) ∷ Some (2 * i + 1) ∷ [] in
    let both = length-append (generator_inverses i) more in
    omega (arith, before, both)

module _ (i : ℕ) where
  last_two : List (Option ℕ)
  last_two = Some (2 * i + 2) ∷ Some (2 * i + 1) ∷ []

  last_at : (k place : ℕ) → place < 2 → k ≡ 2 * i + place → slice_get (generator_inverses (suc i)) k ≡ Some (get_or last_two place None)
  unfolding last_two
  last_at k place within at =
      let before = inverses_count i in
      let long = inverses_count (suc i) in
      let behind : get_or (generator_inverses i ++ last_two) k None ≡ get_or last_two (k - 2 * i) None =
      get_or-append_right (generator_inverses i) last_two (2 * i) k None before (omega (arith, at)) in
      let back : k - 2 * i ≡ place = omega (arith, at) in
      slice_get-get_or (generator_inverses (suc i)) k None (omega (arith, within, long, at))
      ∙ ap Some (behind ∙ ap (λ j. get_or last_two j None) back)

  first_at : (k : ℕ) → k < 2 * i → slice_get (generator_inverses (suc i)) k ≡ slice_get (generator_inverses i) k
  unfolding last_two
  first_at k within =
      let before = inverses_count i in
      let long = inverses_count (suc i) in
      slice_get-get_or (generator_inverses (suc i)) k None (omega (arith, within, long))
      ∙ ap Some (get_or_append_left (generator_inverses i) last_two None k (omega (arith, within, before)))
      ∙ sym (slice_get-get_or (generator_inverses i) k None (omega (arith, within, before)))

  -- the inverses of the first letters, and of the last two
  first_inverse : (k : ℕ) → k < 2 * i → inverse_letter (generator_inverses (suc i)) (suc k) ≡ inverse_letter (generator_inverses i) (suc k)
  first_inverse k within = ap (option_and_then (λ inverse. inverse)) (first_at k within)

  small_inverse : (k : ℕ) → k ≡ 2 * i → inverse_letter (generator_inverses (suc i)) (suc k) ≡ Some (2 * i + 2)
  unfolding last_two
  small_inverse k at = ap (option_and_then (λ inverse. inverse)) (last_at k 0 (omega arith) (omega (arith, at)))

  great_inverse : (k : ℕ) → k ≡ 2 * i + 1 → inverse_letter (generator_inverses (suc i)) (suc k) ≡ Some (2 * i + 1)
  unfolding last_two
  great_inverse k at = ap (option_and_then (λ inverse. inverse)) (last_at k 1 (omega arith) at)

no_inverse_past : (n k y : ℕ) → 2 * n ≤ k → inverse_letter (generator_inverses n) (suc k) ≢ Some y
no_inverse_past n k y past is =
    let count = inverses_count n in
    let none : inverse_letter (generator_inverses n) (suc k) ≡ None =
    ap (option_and_then (λ inverse. inverse)) (slice_get_past (generator_inverses n) k (omega (arith, past, count))) in
    let no : None ≡ Some y = sym none ∙ is in cc

-- a letter with an inverse is one of the first
has_inverse : (n k y : ℕ) → inverse_letter (generator_inverses n) (suc k) ≡ Some y → k < 2 * n
has_inverse n k y is = elim (cases_lt k (2 * n)) [
  | inl within ↦ within
  | inr past ↦ absurd (no_inverse_past n k y past is)
]

AreMutualAt : ℕ → ℕ → ℕ → Type 0
AreMutualAt n x y = inverse_letter (generator_inverses n) x ≡ Some y → inverse_letter (generator_inverses n) y ≡ Some x

-- inverses of the first letters stay so
mutual_first : (i k y : ℕ) → k < 2 * i → AreMutualAt i (suc k) y → AreMutualAt (suc i) (suc k) y
unfolding AreMutualAt
mutual_first i k zero within paired is =
    let back = paired (sym (first_inverse i k within) ∙ is) in
    absurd cc
mutual_first i k (suc j) within paired is =
    let back : inverse_letter (generator_inverses i) (suc j) ≡ Some (suc k) = paired (sym (first_inverse i k within) ∙ is) in
    first_inverse i j (has_inverse i j (suc k) back) ∙ back

-- and the last two are inverse to one another
mutual_small : (i k y : ℕ) → k ≡ 2 * i → AreMutualAt (suc i) (suc k) y
unfolding AreMutualAt
mutual_small i k y at is =
    let value : 2 * i + 2 ≡ y = same_Some _ _ (sym (small_inverse i k at) ∙ is) in
    let other : suc (2 * i + 1) ≡ y = omega (arith, value) in
    let one : 2 * i + 1 ≡ suc k = omega (arith, at) in
    subst (λ z. inverse_letter (generator_inverses (suc i)) z ≡ Some (suc k)) other (great_inverse i (2 * i + 1) refl ∙ ap Some one)

mutual_great : (i k y : ℕ) → k ≡ 2 * i + 1 → AreMutualAt (suc i) (suc k) y
unfolding AreMutualAt
mutual_great i k y at is =
    let value : 2 * i + 1 ≡ y = same_Some _ _ (sym (great_inverse i k at) ∙ is) in
    let other : suc (2 * i) ≡ y = omega (arith, value) in
    let one : 2 * i + 2 ≡ suc k = omega (arith, at) in
    subst (λ z. inverse_letter (generator_inverses (suc i)) z ≡ Some (suc k)) other (small_inverse i (2 * i) refl ∙ ap Some one)

mutual_last : (i k y : ℕ) → 2 * i ≤ k → AreMutualAt (suc i) (suc k) y
unfolding AreMutualAt
mutual_last i k y past is =
    let within = has_inverse (suc i) k y is in
    elim (cases_lt k (2 * i + 1)) [
      | inl small ↦ mutual_small i k y (omega (arith, past, small)) is
      | inr great ↦ mutual_great i k y (omega (arith, great, within)) is
    ]

mutual_at : (n k y : ℕ) → AreMutualAt n (suc k) y
unfolding AreMutualAt
mutual_at zero k y is = let within = has_inverse zero k y is in absurd (omega (arith, within))
mutual_at (suc i) k y is = elim (cases_lt k (2 * i)) [
  | inl within ↦ mutual_first i k y within (mutual_at i k y) is
  | inr past ↦ mutual_last i k y past is
]

pub are_mutual : (n x y : ℕ) → inverse_letter (generator_inverses n) x ≡ Some y → inverse_letter (generator_inverses n) y ≡ Some x
unfolding AreMutualAt
are_mutual n zero y is = absurd cc
are_mutual n (suc k) y is = mutual_at n k y is

-- ---- equations

none_all : {X : Type 0} (P : X → Type 0) → All P []
none_all P k d within = absurd (omega (arith, within))

-- both sides are over the letters 1 to m
AreOver : ℕ → Pair → Type 0
AreOver m pair = IsOver m pair.0 × IsOver m pair.1

product_over : (m a b : ℕ) → 0 < a → a ≤ m → 0 < b → b ≤ m → IsOver m (a ∷ b ∷ [])
product_over m a b one first two second =
    let P : ℕ → Type 0 = λ x. (0 < x) × (x ≤ m) in
    All-cons P a (b ∷ []) (one, first) (All-cons P b [] (two, second) (none_all P))

commutes_over : (m i j : ℕ) → 2 * i + 1 ≤ m → 2 * j + 1 ≤ m → AreOver m (commutes i j)
unfolding AreOver
commutes_over m i j first second = (
  product_over m (2 * j + 1) (2 * i + 1) (omega arith) second (omega arith) first,
  product_over m (2 * i + 1) (2 * j + 1) (omega arith) first (omega arith) second,
)

next_over : (m i count : ℕ) → 2 * (i + count) + 1 ≤ m → All (AreOver m) (commutes_with_next i count)
next_over m i zero within = none_all (AreOver m)
next_over m i (suc count) within =
    All-push (AreOver m) (commutes_with_next i count) (commutes i (i + suc count)) (next_over m i count (omega (arith, within)))
    (commutes_over m i (i + suc count) (omega (arith, within)) within)

commuting_over : (m i count : ℕ) → 2 * (i + count) ≤ m → All (AreOver m) (commuting i count)
commuting_over m zero count within = none_all (AreOver m)
commuting_over m (suc i) count within =
    All-append (AreOver m) (commuting i (suc count)) (commutes_with_next i count) (commuting_over m i (suc count) (omega (arith, within)))
    (next_over m i count (omega (arith, within)))

-- one more equation is appended
pub next_appended : (i j n : ℕ) (before so_far after : List Pair) (pair : Pair) → i < j → j < n
    → so_far ≡ before ++ commutes_with_next i (j - (i + 1)) → pair ≡ commutes i j → after ≡ so_far ++ pair ∷ []
    → (i < j + 1) × (j + 1 ≤ n) × (after ≡ before ++ commutes_with_next i (j + 1 - (i + 1)))
next_appended i j n before so_far after pair behind within are is appended =
    let count : ℕ = j - (i + 1) in
    let place : j ≡ i + suc count = omega (arith, behind) in
    let more : suc count ≡ j + 1 - (i + 1) = omega (arith, behind) in (
      omega (arith, behind),
      omega (arith, within),
      appended ∙ ap (λ list. list ++ pair ∷ []) are ∙ append_assoc before (commutes_with_next i count) (pair ∷ [])
          ∙ ap (λ equation. before ++ (commutes_with_next i count ++ equation ∷ [])) (is ∙ ap (commutes i) place)
          ∙ ap (λ number. before ++ commutes_with_next i number) more,
    )

one_over : (m : ℕ) (pairs : List Pair) (pair : Pair) → All (AreOver m) pairs → OneOf pairs pair → AreOver m pair
one_over m pairs pair all is =
    subst (AreOver m) (get_or_from_slice_get pairs is.0 pair pair is.1) (all is.0 pair (slice_get_within pairs is.0 pair is.1))

-- ---- the presentation

pub is_presentation : (n : ℕ) → IsPresentation (2 * n) ShortLex (generator_names n) (generator_inverses n) (commuting n 0)
unfolding AreOver
is_presentation n = record {
  one_weight_each = λ weights is. absurd cc;
  one_name_each = names_count n;
  one_inverse_each = inverses_count n;
  mutual_inverses = are_mutual n;
  letters = λ pair is. one_over (2 * n) (commuting n 0) pair (commuting_over (2 * n) n 0 (omega arith)) is;
}

pub presents : (n : ℕ) (names : List (List ℕ)) (inverses : List (Option ℕ)) (equations : List Pair) → names ≡ generator_names n
    → inverses ≡ generator_inverses n → equations ≡ commuting n 0 → IsPresentation (2 * n) ShortLex names inverses equations
presents n names inverses equations are_names are_inverses are_equations =
    subst (λ l. IsPresentation (2 * n) ShortLex l inverses equations) (sym are_names)
    (subst (λ l. IsPresentation (2 * n) ShortLex (generator_names n) l equations) (sym are_inverses)
    (subst (λ l. IsPresentation (2 * n) ShortLex (generator_names n) (generator_inverses n) l) (sym are_equations) (is_presentation n)))
