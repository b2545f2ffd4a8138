-- Lists into which an element is put, and from which one is taken.
use Rattle.std.proofs.Common.{◌≡◌, ◌⊎◌, ℕ, zero, suc, ◌<◌, List, [], ◌∷◌, ◌++◌, length, All, refl, inl, inr, subst, arith}
use Rattle.std.specs.Prelude.{slice_index_or}
use Rattle.std.specs.List.{AllPairs, Contains}
use Rattle.std.proofs.lemmas.List.Elements.{All-contains, Contains-get_or, Contains-append_left, Contains-append_right, Contains-append_cases}
use Rattle.std.proofs.lemmas.List.Kept.{AllPairs-cons}
use Rattle.std.proofs.lemmas.List.Quantifiers.{all_pairs_push}

-- ---- membership

pub contains_head : {X : Type 0} (x : X) (xs : List X) → Contains (x ∷ xs) x
contains_head x xs = (0, omega arith, refl)

pub contains_tail : {X : Type 0} (y : X) (xs : List X) (x : X) → Contains xs x → Contains (y ∷ xs) x
contains_tail y xs x has = let within = has.1 in (suc has.0, omega arith, has.2)

contains_at : {X : Type 0} (y : X) (xs : List X) (x : X) (k : ℕ) → k < length (y ∷ xs) → slice_index_or (y ∷ xs) k x ≡ x
    → (y ≡ x) ⊎ Contains xs x
contains_at y xs x zero within e = inl e
contains_at y xs x (suc k) within e = inr (k, omega arith, e)

pub contains_cons_cases : {X : Type 0} (y : X) (xs : List X) (x : X) → Contains (y ∷ xs) x → (y ≡ x) ⊎ Contains xs x
contains_cons_cases y xs x has = contains_at y xs x has.0 has.1 has.2

-- the element in the middle
pub contains_middle : {X : Type 0} (xs : List X) (y : X) (ys : List X) → Contains (xs ++ y ∷ ys) y
contains_middle xs y ys = Contains-append_right xs (y ∷ ys) y (contains_head y ys)

-- the others
pub contains_around : {X : Type 0} (xs : List X) (y : X) (ys : List X) (x : X) → Contains (xs ++ ys) x
    → Contains (xs ++ y ∷ ys) x
contains_around xs y ys x has = elim (Contains-append_cases xs ys x has) [
  | inl left ↦ Contains-append_left xs (y ∷ ys) x left
  | inr right ↦ Contains-append_right xs (y ∷ ys) x (contains_tail y ys x right)
]

pub contains_middle_cases : {X : Type 0} (xs : List X) (y : X) (ys : List X) (x : X) → Contains (xs ++ y ∷ ys) x
    → Contains (xs ++ ys) x ⊎ (y ≡ x)
contains_middle_cases xs y ys x has = elim (Contains-append_cases xs (y ∷ ys) x has) [
  | inl left ↦ inl (Contains-append_left xs ys x left)
  | inr rest ↦ elim (contains_cons_cases y ys x rest) [
    | inl here ↦ inr here
    | inr right ↦ inl (Contains-append_right xs ys x right)
  ]
]

-- what holds of whatever a list contains holds of each element
pub all_contained : {X : Type 0} (P : X → Type 0) (xs : List X) → ((x : X) → Contains xs x → P x) → All P xs
all_contained P xs h = λ k d within. h (slice_index_or xs k d) (Contains-get_or xs k d within)

-- ---- pairs

pairs_head : {X : Type 0} (R : X → X → Type 0) (x : X) (xs : List X) → AllPairs R (x ∷ xs) → All (R x) xs
pairs_head R x xs pairs = λ k d within. pairs 0 (suc k) d (omega arith) (omega arith)

pairs_tail : {X : Type 0} (R : X → X → Type 0) (x : X) (xs : List X) → AllPairs R (x ∷ xs) → AllPairs R xs
pairs_tail R x xs pairs = λ i j d less within. pairs (suc i) (suc j) d (omega arith) (omega arith)

all_around : {X : Type 0} (P : X → Type 0) (xs : List X) (y : X) (ys : List X) → All P (xs ++ y ∷ ys) → All P (xs ++ ys)
all_around P xs y ys all =
    all_contained P (xs ++ ys) (λ x has. All-contains P (xs ++ y ∷ ys) x all (contains_around xs y ys x has))

all_middle : {X : Type 0} (P : X → Type 0) (xs : List X) (y : X) (ys : List X) → All P (xs ++ ys) → P y
    → All P (xs ++ y ∷ ys)
all_middle P xs y ys all here = all_contained P (xs ++ y ∷ ys) (λ x has. elim (contains_middle_cases xs y ys x has) [
  | inl other ↦ All-contains P (xs ++ ys) x all other
  | inr same ↦ subst P same here
])

-- without the element in the middle
pub pairs_around : {X : Type 0} (R : X → X → Type 0) (xs : List X) (y : X) (ys : List X) → AllPairs R (xs ++ y ∷ ys)
    → AllPairs R (xs ++ ys)
pairs_around R [] y ys pairs = pairs_tail R y ys pairs
pairs_around R (x ∷ xs) y ys pairs =
    AllPairs-cons R x (xs ++ ys) (all_around (R x) xs y ys (pairs_head R x (xs ++ y ∷ ys) pairs))
    (pairs_around R xs y ys (pairs_tail R x (xs ++ y ∷ ys) pairs))

-- with an element put into the middle
pub pairs_middle : {X : Type 0} (R : X → X → Type 0) (xs : List X) (y : X) (ys : List X) → AllPairs R (xs ++ ys)
    → ((x : X) → Contains xs x → R x y) → ((x : X) → Contains ys x → R y x) → AllPairs R (xs ++ y ∷ ys)
pairs_middle R [] y ys pairs before after = AllPairs-cons R y ys (all_contained (R y) ys after) pairs
pairs_middle R (x ∷ xs) y ys pairs before after =
    AllPairs-cons R x (xs ++ y ∷ ys)
    (all_middle (R x) xs y ys (pairs_head R x (xs ++ ys) pairs) (before x (contains_head x xs)))
    (pairs_middle R xs y ys (pairs_tail R x (xs ++ ys) pairs) (λ z has. before z (contains_tail x xs z has)) after)

-- what stands before the middle, and what stands after it
pub pairs_before : {X : Type 0} (R : X → X → Type 0) (xs : List X) (y : X) (ys : List X) → AllPairs R (xs ++ y ∷ ys)
    → (x : X) → Contains xs x → R x y
pairs_before R [] y ys pairs x has = let within = has.1 in absurd (omega arith)
pairs_before R (z ∷ xs) y ys pairs x has = elim (contains_cons_cases z xs x has) [
  | inl here ↦
      let P : _ → Type 0 = λ w. R w y in
      subst P here (All-contains (R z) (xs ++ y ∷ ys) y (pairs_head R z (xs ++ y ∷ ys) pairs) (contains_middle xs y ys))
  | inr rest ↦ pairs_before R xs y ys (pairs_tail R z (xs ++ y ∷ ys) pairs) x rest
]

pub pairs_after : {X : Type 0} (R : X → X → Type 0) (xs : List X) (y : X) (ys : List X) → AllPairs R (xs ++ y ∷ ys)
    → (x : X) → Contains ys x → R y x
pairs_after R [] y ys pairs x has = All-contains (R y) ys x (pairs_head R y ys pairs) has
pairs_after R (z ∷ xs) y ys pairs x has = pairs_after R xs y ys (pairs_tail R z (xs ++ y ∷ ys) pairs) x has

-- with one more at the end
pub pairs_push : {X : Type 0} (R : X → X → Type 0) (xs : List X) (y : X) → AllPairs R xs
    → ((x : X) → Contains xs x → R x y)
    → AllPairs R (xs ++ y ∷ [])
pairs_push R xs y pairs before = all_pairs_push R xs y pairs
    (λ k d within. before (slice_index_or xs k d) (Contains-get_or xs k d within))

-- ascending numbers don't have the middle one twice
pub ascending_once : (xs : List ℕ) (y : ℕ) (ys : List ℕ) → AllPairs (λ one other. one < other) (xs ++ y ∷ ys)
    → ¬ Contains (xs ++ ys) y
ascending_once xs y ys pairs has = elim (Contains-append_cases xs ys y has) [
  | inl left ↦ let less : y < y = pairs_before (λ one other. one < other) xs y ys pairs y left in absurd (omega arith)
  | inr right ↦ let less : y < y = pairs_after (λ one other. one < other) xs y ys pairs y right in absurd (omega arith)
]
