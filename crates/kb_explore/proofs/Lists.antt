-- Lists with an item more at the end.
use Rattle.std.proofs.Common.{◌≡◌, ◌⊎◌, ℕ, zero, suc, ◌<◌, List, [], ◌∷◌, ◌++◌, length, slice_get, Some, refl, sym, ap, inl, inr, arith}
use Rattle.std.specs.List.{AllZip}
use Rattle.std.proofs.lemmas.Option.{none-some, same_Some}
use Rattle.kb_explore.specs.Exploration.{numbered}

-- a list has an item at each place within it
pub item_within : {X : Type 0} (xs : List X) (place : ℕ) → place < length xs → (x : X) × (slice_get xs place ≡ Some x)
item_within [] place within = absurd (let no : ⊥ = omega arith in no)
item_within (x ∷ xs) zero within = (x, refl)
item_within (x ∷ xs) (suc place) within = item_within xs place (omega arith)

-- the items stay where they are
pub item_kept : {X : Type 0} (xs : List X) (y : X) (place : ℕ) (x : X) → slice_get xs place ≡ Some x → slice_get (xs ++ y ∷ []) place ≡ Some x
item_kept [] y place x at = absurd (none-some x at)
item_kept (z ∷ xs) y zero x at = at
item_kept (z ∷ xs) y (suc place) x at = item_kept xs y place x at

pub number_kept : {X : Type 0} (xs : List X) (y : X) (number : ℕ) (x : X) → numbered xs number ≡ Some x → numbered (xs ++ y ∷ []) number ≡ Some x
number_kept xs y zero x at = at
number_kept xs y (suc place) x at = item_kept xs y place x at

pub last_item : {X : Type 0} (xs : List X) (y : X) → slice_get (xs ++ y ∷ []) (length xs) ≡ Some y
last_item [] y = refl
last_item (x ∷ xs) y = last_item xs y

-- an item is one that was there, or the last one
pub item_cases : {X : Type 0} (xs : List X) (y : X) (place : ℕ) (x : X) → slice_get (xs ++ y ∷ []) place ≡ Some x
    → (slice_get xs place ≡ Some x) ⊎ ((place ≡ length xs) × (x ≡ y))
item_cases [] y zero x at = inr (refl, sym (same_Some y x at))
item_cases [] y (suc place) x at = absurd (none-some x at)
item_cases (z ∷ xs) y zero x at = inl at
item_cases (z ∷ xs) y (suc place) x at =
    elim (item_cases xs y place x at) [
      | inl old ↦ inl old
      | inr new ↦ inr (ap suc new.0, new.1)
    ]

pub number_cases : {X : Type 0} (xs : List X) (y : X) (number : ℕ) (x : X) → numbered (xs ++ y ∷ []) number ≡ Some x
    → (numbered xs number ≡ Some x) ⊎ ((number ≡ suc (length xs)) × (x ≡ y))
number_cases xs y zero x at = absurd (none-some x at)
number_cases xs y (suc place) x at =
    elim (item_cases xs y place x at) [
      | inl old ↦ inl old
      | inr new ↦ inr (ap suc new.0, new.1)
    ]

-- lists of things of two kinds, side by side

pub AllZip-kept : {A B : Type 0} (R R' : A → B → Type 0) (xs : List A) (ys : List B) → ((x : A) (y : B) → R x y → R' x y)
    → AllZip R xs ys → AllZip R' xs ys
AllZip-kept R R' [] [] more all = all
AllZip-kept R R' [] (y ∷ ys) more all = absurd all
AllZip-kept R R' (x ∷ xs) [] more all = absurd all
AllZip-kept R R' (x ∷ xs) (y ∷ ys) more all = (more x y all.0, AllZip-kept R R' xs ys more all.1)

pub AllZip-push : {A B : Type 0} (R : A → B → Type 0) (xs : List A) (ys : List B) (x : A) (y : B) → AllZip R xs ys → R x y
    → AllZip R (xs ++ x ∷ []) (ys ++ y ∷ [])
AllZip-push R [] [] x y all here = (here, tt)
AllZip-push R [] (b ∷ ys) x y all here = absurd all
AllZip-push R (a ∷ xs) [] x y all here = absurd all
AllZip-push R (a ∷ xs) (b ∷ ys) x y all here = (all.0, AllZip-push R xs ys x y all.1 here)
