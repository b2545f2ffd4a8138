-- Parts of lists that a test picks, and lists whose elements differ.
use Rattle.std.proofs.Common.{◌≡◌, ◌≢◌, ℕ, zero, suc, ◌+◌, ◌-◌, ◌<◌, ◌≤◌, ◌⊎◌, inl, inr, Bool, true, false, eqb, ltb, leb, List, [], ◌∷◌, ◌++◌, length, take, drop, map, get_or, refl, sym, ap, ◌∙◌, subst, arith, length-append, length-take, length-drop}
use Rattle.std.specs.List.{All, AllPairs, AllWithin, Contains, filter, swap}
use Rattle.std.specs.List.Sorted.{IsPermutation, IsPartitionPoint}
use Rattle.std.proofs.lemmas.Bool.{cases_eq, cases_lt, cases_Bool, ltb-true, ltb-false, leb-true, leb-false, eq-eqb, ne_eqb}
use Rattle.std.proofs.lemmas.List.{append-nil, take-append-drop, get_or-take, get_or-drop, get_or_append_left, get_or-append_right, get_or_default}
use Rattle.std.proofs.lemmas.List.Edits.{Swapped, swapped_from_swap, length-swap}
use Rattle.std.proofs.lemmas.List.Elements.{All-tail, All-map, All-filter, All-contains, All-contains_itself, filter_passes, filter-append}
use Rattle.std.proofs.lemmas.List.Kept.{AllPairs-cons}
use Rattle.std.proofs.lemmas.List.Sorted.{IsPermutation-keeps}

module _ {X : Type 0} (p : X → Bool) where
  filter_none : (xs : List X) → All (λ x. p x ≡ false) xs → filter p xs ≡ []
  filter_none [] none = refl
  filter_none (x ∷ xs) none =
      let head : p x ≡ false = none zero x (omega arith) in
      let rest : filter p xs ≡ [] = filter_none xs (All-tail (λ y. p y ≡ false) x xs none) in
      rw head rest

  filter_every : (xs : List X) → All (λ x. p x ≡ true) xs → filter p xs ≡ xs
  filter_every [] every = refl
  filter_every (x ∷ xs) every =
      let head : p x ≡ true = every zero x (omega arith) in
      let rest : filter p xs ≡ xs = filter_every xs (All-tail (λ y. p y ≡ true) x xs every) in
      rw (head, rest) refl

  pub of_filter : (xs : List X) (x : X) → Contains (filter p xs) x → Contains xs x × (p x ≡ true)
  of_filter xs x holds = (
    All-contains (Contains xs) (filter p xs) x (All-filter p (Contains xs) xs (All-contains_itself xs)) holds,
    All-contains (λ y. p y ≡ true) (filter p xs) x (filter_passes p xs) holds,
  )

  contains_more : (y : X) (xs : List X) (x : X) → Contains xs x → Contains (y ∷ xs) x
  contains_more y xs x (k, low, e) = (suc k, omega arith, e)

  pub in_filter : (xs : List X) (x : X) → Contains xs x → p x ≡ true → Contains (filter p xs) x
  in_filter [] x (k, low, e) passes = absurd (let no : ⊥ = omega arith in no)
  in_filter (y ∷ xs) x (zero, low, e) passes =
      let here : p y ≡ true = ap p e ∙ passes in
      rw here (zero, omega arith, e)
  in_filter (y ∷ xs) x (suc k, low, e) passes =
      let rest : Contains (filter p xs) x = in_filter xs x (k, omega arith, e) passes in
      elim (cases_Bool (p y)) [
        | inl passed ↦ rw passed (contains_more y (filter p xs) x rest)
        | inr failed ↦ rw failed rest
      ]

all_of_front : {X : Type 0} (P : X → Type 0) (xs : List X) (n : ℕ) → AllWithin P xs zero n → All P (take n xs)
all_of_front P xs n all k d within =
    let low : k < n = omega (arith, length-take n xs) in
    let e : get_or (take n xs) k d ≡ get_or xs k d = get_or-take n xs k d low in
    rw e (all k d (omega arith) low)

all_of_rest : {X : Type 0} (P : X → Type 0) (xs : List X) (n : ℕ) → AllWithin P xs n (length xs) → All P (drop n xs)
all_of_rest P xs n all k d within =
    rw get_or-drop (all (n + k) d (omega arith) (omega (arith, length-drop n xs)))

-- the elements of one key lie between the place where the lower keys end and that where the higher ones begin
pub key_part : {X : Type 0} (key : X → ℕ) (sought : ℕ) (xs : List X) (start count : ℕ)
    → IsPartitionPoint (λ x. ltb (key x) sought ≡ true) (λ x. ltb (key x) sought ≡ false) xs start
    → IsPartitionPoint (λ x. leb (key x) sought ≡ true) (λ x. leb (key x) sought ≡ false) (drop start xs) count
    → count ≤ length (drop start xs) → take count (drop start xs) ≡ filter (λ x. eqb (key x) sought) xs
key_part {X} key sought xs start count lower higher fits =
    let p : X → Bool = λ x. eqb (key x) sought in
    let rest = drop start xs in
    let before : filter p (take start xs) ≡ [] = filter_none p (take start xs)
    (all_of_front (λ x. p x ≡ false) xs start
    (λ k d low high. let less : key (get_or xs k d) < sought = ltb-true _ _ (lower.0 k d low high) in ne_eqb _ _ (λ e. omega arith))) in
    let after : filter p (drop count rest) ≡ [] = filter_none p (drop count rest)
    (all_of_rest (λ x. p x ≡ false) rest count
    (λ k d low high. let more : sought < key (get_or rest k d) = leb-false _ _ (higher.1 k d low high) in ne_eqb _ _ (λ e. omega arith))) in
    let not_lower : All (λ x. sought ≤ key x) rest = all_of_rest (λ x. sought ≤ key x) xs start
    (λ k d low high. ltb-false _ _ (lower.1 k d low high)) in
    let part : filter p (take count rest) ≡ take count rest = filter_every p (take count rest)
    (all_of_front (λ x. p x ≡ true) rest count
    (λ k d low high.
    let at_most : key (get_or rest k d) ≤ sought = leb-true _ _ (higher.0 k d low high) in
    let at_least : sought ≤ key (get_or rest k d) = not_lower k d (omega arith) in
    eq-eqb _ _ (omega arith))) in
    let split : filter p xs ≡ filter p (take start xs) ++ filter p rest =
    ap (filter p) (sym (take-append-drop start xs)) ∙ filter-append p (take start xs) rest in
    let split_rest : filter p rest ≡ filter p (take count rest) ++ filter p (drop count rest) =
    ap (filter p) (sym (take-append-drop count rest)) ∙ filter-append p (take count rest) (drop count rest) in
    let last : take count rest ++ [] ≡ take count rest = append-nil (take count rest) in
    cc

-- the same where what is left of the list stands under another name
pub key_part_of : {X : Type 0} (key : X → ℕ) (sought : ℕ) (xs rest : List X) (start count : ℕ) → rest ≡ drop start xs
    → IsPartitionPoint (λ x. ltb (key x) sought ≡ true) (λ x. ltb (key x) sought ≡ false) xs start
    → IsPartitionPoint (λ x. leb (key x) sought ≡ true) (λ x. leb (key x) sought ≡ false) rest count
    → count ≤ length rest → take count rest ≡ filter (λ x. eqb (key x) sought) xs
key_part_of {X} key sought xs rest start count e lower =
    let P : List X → Type 0 = λ part. IsPartitionPoint (λ x. leb (key x) sought ≡ true) (λ x. leb (key x) sought ≡ false) part count
    → count ≤ length part → take count part ≡ filter (λ x. eqb (key x) sought) xs in
    subst P (sym e) (key_part key sought xs start count lower)

module _ {X : Type 0} (R : X → X → Type 0) where
  pub pairs_append : (xs ys : List X) → AllPairs R xs → AllPairs R ys → All (λ x. All (R x) ys) xs → AllPairs R (xs ++ ys)
  pairs_append xs ys front back across i j d less within =
      let long = length-append xs ys in
      elim (cases_lt j (length xs)) [
        | inl inside ↦
            let at_i : get_or (xs ++ ys) i d ≡ get_or xs i d = get_or_append_left xs ys d i (omega arith) in
            let at_j : get_or (xs ++ ys) j d ≡ get_or xs j d = get_or_append_left xs ys d j inside in
            rw (at_i, at_j) (front i j d less inside)
        | inr past ↦
            let at_j : get_or (xs ++ ys) j d ≡ get_or ys (j - length xs) d = get_or-append_right xs ys (length xs) j d refl past in
            elim (cases_lt i (length xs)) [
              | inl inside ↦
                  let at_i : get_or (xs ++ ys) i d ≡ get_or xs i d = get_or_append_left xs ys d i inside in
                  rw (at_i, at_j) (across i d inside (j - length xs) d (omega arith))
              | inr also ↦
                  let at_i : get_or (xs ++ ys) i d ≡ get_or ys (i - length xs) d = get_or-append_right xs ys (length xs) i d refl also in
                  rw (at_i, at_j) (back (i - length xs) (j - length xs) d (omega arith) (omega arith))
            ]
      ]

  pub pairs_map : {Z : Type 0} (f : Z → X) (zs : List Z) → AllPairs (λ x y. R (f x) (f y)) zs → AllPairs R (map f zs)
  pairs_map f [] pairs = λ i j d less within. absurd (let no : ⊥ = omega arith in no)
  pairs_map f (z ∷ zs) pairs =
      AllPairs-cons R (f z) (map f zs) (All-map (R (f z)) f zs (λ k d within. pairs zero (suc k) d (omega arith) (omega arith)))
      (pairs_map f zs (λ i j d less within. pairs (suc i) (suc j) d (omega arith) (omega arith)))

-- where a swap of a and b took the element at m from
abbrev From : ℕ → ℕ → ℕ → ℕ → Type 0
From a b m k = ((m ≡ a) × (k ≡ b)) ⊎ (((m ≡ b) × (k ≡ a)) ⊎ ((m ≢ a) × (m ≢ b) × (k ≡ m)))

origin : {X : Type 0} (f g : ℕ → X) (a b m : ℕ) → Swapped f g a b → (m ≡ a) ⊎ (m ≢ a) → (m ≡ b) ⊎ (m ≢ b)
    → (k : ℕ) × From a b m k × (g m ≡ f k)
origin f g a b m s (inl e) y = (b, inl (e, refl), ap g e ∙ s.0)
origin f g a b m s (inr n) (inl e) = (a, inr (inl (e, refl)), ap g e ∙ s.1)
origin f g a b m s (inr n) (inr o) = (m, inr (inr (n, o, refl)), s.2 m n o)

module _ {X Y : Type 0} (f : X → Y) where
  -- no two elements have the same value of f
  abbrev pub Apart : List X → Type 0
  Apart = AllPairs (λ x y. f x ≢ f y)

  pub one_index : (xs : List X) → Apart xs → (i j : ℕ) (d : X) → i < length xs → j < length xs
      → f (get_or xs i d) ≡ f (get_or xs j d) → i ≡ j
  one_index xs apart i j d low high e =
      let not_below : i < j → ⊥ = λ less. apart i j d less high e in
      let not_above : j < i → ⊥ = λ less. apart j i d less low (sym e) in
      omega arith

  pub one_element : (xs : List X) → Apart xs → (x y : X) → Contains xs x → Contains xs y → f x ≡ f y → x ≡ y
  one_element xs apart x y (i, low, is_x) (j, high, is_y) e =
      let at_j : get_or xs j x ≡ y = get_or_default xs j x y high ∙ is_y in
      let same : i ≡ j = one_index xs apart i j x low high (ap f is_x ∙ e ∙ ap f (sym at_j)) in
      sym is_x ∙ ap (λ k. get_or xs k x) same ∙ at_j

  apart_swap : (xs : List X) (a b : ℕ) → a < length xs → b < length xs → Apart xs → Apart (swap xs a b)
  apart_swap xs a b p q apart i j d less within e =
      let len = length-swap xs a b in
      let s = swapped_from_swap xs (swap xs a b) a b d p q refl in
      let x = origin _ _ a b i s (cases_eq i a) (cases_eq i b) in
      let y = origin _ _ a b j s (cases_eq j a) (cases_eq j b) in
      let same = one_index xs apart x.0 y.0 d (omega (arith, x.1)) (omega (arith, y.1)) (ap f (sym x.2) ∙ e ∙ ap f y.2) in
      omega (arith, x.1, y.1)

  pub apart_permuted : (xs ys : List X) → IsPermutation xs ys → Apart xs → Apart ys
  apart_permuted xs ys moved apart = IsPermutation-keeps xs Apart apart apart_swap ys moved
