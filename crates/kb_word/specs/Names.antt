-- Names of generators.
use Rattle.std.specs.Prelude.{◌≡◌, ℕ, zero, suc, List, Option, None, Some, slice_get}

-- the name of letter x, where place 0 holds that of letter 1
abbrev pub name_of : List (List ℕ) → ℕ → Option (List ℕ)
name_of names zero = None
name_of names (suc place) = slice_get names place

-- no name stands at two places
abbrev pub AreApart : List (List ℕ) → Type 0
AreApart names =
    (place other : ℕ) (name : List ℕ) → slice_get names place ≡ Some name
    → slice_get names other ≡ Some name → place ≡ other
