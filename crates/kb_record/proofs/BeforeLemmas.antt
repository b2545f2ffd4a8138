-- Names that stand among the first of a list.
use Rattle.std.proofs.Common.{◌≡◌, ℕ, zero, suc, ◌<◌, List, [], ◌∷◌, take, length, slice_get, Some, refl, sym, arith}
use Rattle.std.specs.List.{Contains}
use Rattle.std.proofs.lemmas.Option.{none-some, slice_get_within, slice_get_read, get_or_from_slice_get}

pub has_place : (names : List (List ℕ)) (place : ℕ) (name : List ℕ) → slice_get names place ≡ Some name → Contains names name
has_place names place name at = (place, slice_get_within names place name at, get_or_from_slice_get names place name name at)

pub place_of : (names : List (List ℕ)) (name : List ℕ) (has : Contains names name) → slice_get names has.0 ≡ Some name
place_of names name has = slice_get_read names (length names) has.0 name refl has.1 (sym has.2)

-- one of the first k, and its place
pub record StandsBefore (names : List (List ℕ)) (k place : ℕ) (name : List ℕ) : Type 0 where
  pub before : place < k
  pub at : slice_get names place ≡ Some name

pub stands_before : (names : List (List ℕ)) (k place : ℕ) (name : List ℕ) → slice_get (take k names) place ≡ Some name → StandsBefore names k place name
stands_before names zero place name at = absurd (none-some name at)
stands_before [] (suc k) place name at = absurd (none-some name at)
stands_before (n ∷ names) (suc k) zero name at = record { before = omega arith; at = at }
stands_before (n ∷ names) (suc k) (suc place) name at =
    let rest = stands_before names k place name at in record { before = omega (arith, rest.before); at = rest.at }

pub among_first : (names : List (List ℕ)) (k place : ℕ) (name : List ℕ) → slice_get names place ≡ Some name → place < k → slice_get (take k names) place ≡ Some name
among_first [] k place name at before = absurd (none-some name at)
among_first (n ∷ names) zero place name at before = absurd (omega (arith, before))
among_first (n ∷ names) (suc k) zero name at before = at
among_first (n ∷ names) (suc k) (suc place) name at before = among_first names k place name at (omega (arith, before))
