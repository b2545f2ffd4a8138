-- Sets of numbers as ascending lists.
use Rattle.std.proofs.Common.{◌≡◌, ◌↔◌, ◌⊎◌, ℕ, zero, suc, ◌<◌, List, [], ◌∷◌, length, get_or, eqb, nat_cmp, refl, sym, ap, ◌∙◌, subst, inl, inr, arith}
use Rattle.std.specs.List.{All, Contains, dedup}
use Rattle.std.specs.List.Sorted.{IsPermutation, IsSorted}
use Rattle.std.proofs.lemmas.Bool.{cases_order, lt-ltb, le-ltb, eq-eqb, ne_eqb}
use Rattle.std.proofs.lemmas.List.Elements.{All-contains, All-nil, Contains-get_or}
use Rattle.std.proofs.lemmas.List.Kept.{AllPairs-cons, AllPairs-from_increasing, Contains-dedup_nat, Contains-from_dedup}
use Rattle.std.proofs.lemmas.List.Sorted.{Contains-permutation, IsPermutation-sym}
use Rattle.std.proofs.lemmas.Map.Keys.{IsStrictlyIncreasing-dedup}
use Rattle.kb_fsadet.specs.SubsetConstruction.{IsAscending, insert, set_of}

-- ---- elements

pub Contains-none : {X : Type 0} (x : X) → ¬ Contains [] x
Contains-none x at = let within = at.1 in omega arith

pub Contains-here : {X : Type 0} (x : X) (xs : List X) → Contains (x ∷ xs) x
Contains-here x xs = (0, omega arith, refl)

pub Contains-there : {X : Type 0} (x : X) (xs : List X) (y : X) → Contains xs y → Contains (x ∷ xs) y
Contains-there x xs y at = (suc at.0, omega (arith, at.1), at.2)

pub Contains-cons_cases : {X : Type 0} (x : X) (xs : List X) (y : X) → Contains (x ∷ xs) y → (x ≡ y) ⊎ Contains xs y
Contains-cons_cases x xs y at = by at.0 at.1 at.2
  where
    by : (k : ℕ) → k < suc (length xs) → get_or (x ∷ xs) k y ≡ y → (x ≡ y) ⊎ Contains xs y
    by zero within is = inl is
    by (suc k) within is = inr (k, omega arith, is)

-- what holds of each thing in the list
pub All-from_contains : {X : Type 0} (P : X → Type 0) (xs : List X) → ((x : X) → Contains xs x → P x) → All P xs
All-from_contains P xs each k d within = each (get_or xs k d) (Contains-get_or xs k d within)

-- ---- ascending lists

pub IsAscending-nil : IsAscending []
IsAscending-nil i j d low high = absurd (let no : ⊥ = omega arith in no)

pub IsAscending-tail : (x : ℕ) (xs : List ℕ) → IsAscending (x ∷ xs) → IsAscending xs
IsAscending-tail x xs ascends i j d low high = ascends (suc i) (suc j) d (omega arith) (omega arith)

-- what comes later is greater
pub IsAscending-head : (x : ℕ) (xs : List ℕ) (y : ℕ) → IsAscending (x ∷ xs) → Contains xs y → x < y
IsAscending-head x xs y ascends at =
    All-contains (λ z. x < z) xs y (λ k d within. ascends 0 (suc k) d (omega arith) (omega arith)) at

-- ascending lists of the same numbers are one list
pub same_from_members : (xs ys : List ℕ) → IsAscending xs → IsAscending ys → ((z : ℕ) → Contains xs z ↔ Contains ys z) → xs ≡ ys
same_from_members [] [] one two same = refl
same_from_members [] (y ∷ ys) one two same = absurd (Contains-none y ((same y).1 (Contains-here y ys)))
same_from_members (x ∷ xs) [] one two same = absurd (Contains-none x ((same x).0 (Contains-here x xs)))
same_from_members (x ∷ xs) (y ∷ ys) one two same =
    let head : x ≡ y = elim (cases_order x y) [
      | inl alike ↦ alike
      | inr apart ↦ elim apart [
        | inl less ↦ absurd (first_less x xs y ys two less (λ z. (same z).0))
        | inr more ↦ absurd (first_less y ys x xs one more (λ z. (same z).1))
      ]
    ] in
    let rest = same_from_members xs ys (IsAscending-tail x xs one) (IsAscending-tail y ys two) (λ z. (
      later x xs y ys z one head (λ w. (same w).0),
      later y ys x xs z two (sym head) (λ w. (same w).1),
    )) in
    ap (λ z. z ∷ xs) head ∙ ap (λ zs. y ∷ zs) rest
  where
    first_less : (a : ℕ) (others : List ℕ) (b : ℕ) (bs : List ℕ) → IsAscending (b ∷ bs) → a < b
        → ((z : ℕ) → Contains (a ∷ others) z → Contains (b ∷ bs) z) → ⊥
    first_less a others b bs up less within =
        elim (Contains-cons_cases b bs a (within a (Contains-here a others))) [
          | inl is ↦ let no : ⊥ = omega arith in no
          | inr there ↦ let above = IsAscending-head b bs a up there in let no : ⊥ = omega arith in no
        ]

    later : (a : ℕ) (others : List ℕ) (b : ℕ) (bs : List ℕ) (z : ℕ) → IsAscending (a ∷ others) → a ≡ b
        → ((w : ℕ) → Contains (a ∷ others) w → Contains (b ∷ bs) w) → Contains others z → Contains bs z
    later a others b bs z up alike within there =
        elim (Contains-cons_cases b bs z (within z (Contains-there a others z there))) [
          | inl is ↦ let above = IsAscending-head a others z up there in absurd (let no : ⊥ = omega arith in no)
          | inr at ↦ at
        ]

-- ---- insertion

insert_before : (x y : ℕ) (ys : List ℕ) → x < y → insert x (y ∷ ys) ≡ x ∷ y ∷ ys
insert_before x y ys less = rw (lt-ltb x y less) refl

insert_same : (x y : ℕ) (ys : List ℕ) → x ≡ y → insert x (y ∷ ys) ≡ y ∷ ys
insert_same x y ys same = rw (le-ltb x y (omega arith), eq-eqb x y same) refl

insert_after : (x y : ℕ) (ys : List ℕ) → y < x → insert x (y ∷ ys) ≡ y ∷ insert x ys
insert_after x y ys more = rw (le-ltb x y (omega arith), ne_eqb x y (λ same. omega arith)) refl

-- the three cases of an insertion
insert_cases : (P : List ℕ → Type 0) (x y : ℕ) (ys : List ℕ) → (x < y → P (x ∷ y ∷ ys)) → (x ≡ y → P (y ∷ ys))
    → (y < x → P (y ∷ insert x ys)) → P (insert x (y ∷ ys))
insert_cases P x y ys before same after =
    elim (cases_order x y) [
      | inl alike ↦ subst P (sym (insert_same x y ys alike)) (same alike)
      | inr apart ↦ elim apart [
        | inl less ↦ subst P (sym (insert_before x y ys less)) (before less)
        | inr more ↦ subst P (sym (insert_after x y ys more)) (after more)
      ]
    ]

Contains-insert_new : (x : ℕ) (ys : List ℕ) → Contains (insert x ys) x
Contains-insert_new x [] = Contains-here x []
Contains-insert_new x (y ∷ ys) =
    insert_cases (λ zs. Contains zs x) x y ys (λ less. Contains-here x (y ∷ ys))
    (λ same. let P : ℕ → Type 0 = λ z. Contains (z ∷ ys) x in subst P same (Contains-here x ys))
    (λ more. Contains-there y (insert x ys) x (Contains-insert_new x ys))

Contains-insert_old : (x : ℕ) (ys : List ℕ) (z : ℕ) → Contains ys z → Contains (insert x ys) z
Contains-insert_old x [] z at = Contains-there x [] z at
Contains-insert_old x (y ∷ ys) z at =
    insert_cases (λ zs. Contains zs z) x y ys (λ less. Contains-there x (y ∷ ys) z at) (λ same. at) (λ more.
    elim (Contains-cons_cases y ys z at) [
      | inl is ↦ let P : ℕ → Type 0 = λ w. Contains (w ∷ insert x ys) z in subst P (sym is) (Contains-here z (insert x ys))
      | inr there ↦ Contains-there y (insert x ys) z (Contains-insert_old x ys z there)
    ])

Contains-insert_cases : (x : ℕ) (ys : List ℕ) (z : ℕ) → Contains (insert x ys) z → (x ≡ z) ⊎ Contains ys z
Contains-insert_cases x [] z at = Contains-cons_cases x [] z at
Contains-insert_cases x (y ∷ ys) z at =
    insert_cases (λ zs. Contains zs z → (x ≡ z) ⊎ Contains (y ∷ ys) z) x y ys (λ less there. Contains-cons_cases x (y ∷ ys) z there)
    (λ same there. inr there) (λ more there. elim (Contains-cons_cases y (insert x ys) z there) [
      | inl is ↦ let P : ℕ → Type 0 = λ w. Contains (w ∷ ys) z in inr (subst P (sym is) (Contains-here z ys))
      | inr further ↦ elim (Contains-insert_cases x ys z further) [ inl new ↦ inl new | inr old ↦ inr (Contains-there y ys z old) ]
    ]) at

IsAscending-insert : (x : ℕ) (ys : List ℕ) → IsAscending ys → IsAscending (insert x ys)
IsAscending-insert x [] ascends = AllPairs-cons (λ a b. a < b) x [] (All-nil (λ b. x < b)) IsAscending-nil
IsAscending-insert x (y ∷ ys) ascends =
    insert_cases IsAscending x y ys
    (λ less. AllPairs-cons (λ a b. a < b) x (y ∷ ys) (All-from_contains (λ b. x < b) (y ∷ ys) (λ z at.
    elim (Contains-cons_cases y ys z at) [
      | inl is ↦ omega arith
      | inr there ↦ let above = IsAscending-head y ys z ascends there in omega arith
    ])) ascends)
    (λ same. ascends)
    (λ more. AllPairs-cons (λ a b. a < b) y (insert x ys) (All-from_contains (λ b. y < b) (insert x ys) (λ z at.
    elim (Contains-insert_cases x ys z at) [
      | inl is ↦ omega arith
      | inr there ↦ IsAscending-head y ys z ascends there
    ])) (IsAscending-insert x ys (IsAscending-tail y ys ascends)))

-- ---- sets

pub IsAscending-set_of : (xs : List ℕ) → IsAscending (set_of xs)
IsAscending-set_of [] = IsAscending-nil
IsAscending-set_of (x ∷ xs) = IsAscending-insert x (set_of xs) (IsAscending-set_of xs)

pub Contains-set_of : (xs : List ℕ) (z : ℕ) → Contains (set_of xs) z ↔ Contains xs z
Contains-set_of [] z = (λ at. at, λ at. at)
Contains-set_of (x ∷ xs) z = (
  λ at. elim (Contains-insert_cases x (set_of xs) z at) [
    | inl is ↦ let P : ℕ → Type 0 = λ w. Contains (w ∷ xs) z in subst P (sym is) (Contains-here z xs)
    | inr there ↦ Contains-there x xs z ((Contains-set_of xs z).0 there)
  ],
  λ at. elim (Contains-cons_cases x xs z at) [
    | inl is ↦ let P : ℕ → Type 0 = λ w. Contains (insert w (set_of xs)) z in subst P (sym is) (Contains-insert_new z (set_of xs))
    | inr there ↦ Contains-insert_old x (set_of xs) z ((Contains-set_of xs z).1 there)
  ],
)

-- the set of a list is that of any other with the same numbers
pub same_set : (xs ys : List ℕ) → ((z : ℕ) → Contains xs z ↔ Contains ys z) → set_of xs ≡ set_of ys
same_set xs ys same =
    same_from_members (set_of xs) (set_of ys) (IsAscending-set_of xs) (IsAscending-set_of ys) (λ z. (
      λ at. (Contains-set_of ys z).1 ((same z).0 ((Contains-set_of xs z).0 at)),
      λ at. (Contains-set_of xs z).1 ((same z).1 ((Contains-set_of ys z).0 at)),
    ))

-- a sort that drops what is there already gives the set
pub set_from_sort : (xs sorted : List ℕ) → IsPermutation xs sorted → IsSorted nat_cmp sorted → dedup eqb sorted ≡ set_of xs
set_from_sort xs sorted permuted in_order =
    same_from_members (dedup eqb sorted) (set_of xs) (AllPairs-from_increasing (dedup eqb sorted) (IsStrictlyIncreasing-dedup sorted in_order))
    (IsAscending-set_of xs) (λ z. (
      λ at. (Contains-set_of xs z).1
          (Contains-permutation sorted xs z (IsPermutation-sym xs sorted permuted) (Contains-from_dedup eqb sorted z at)),
      λ at. Contains-dedup_nat sorted z (Contains-permutation xs sorted z permuted ((Contains-set_of xs z).0 at)),
    ))
