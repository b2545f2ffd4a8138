-- Lists that are made place by place.
use Rattle.std.specs.Prelude.{◌≡◌, ℕ, List, length, slice_get, Some}

-- the list has one for each of so many places, in their order, and each is what belongs at its place
pub record AreMadeInOrder {Made : Type 0} (places : ℕ) (Is : ℕ → Made → Type 0)
    (list : List Made) : Type 0 where
  pub count : length list ≡ places
  pub each : (place : ℕ) (one : Made) → slice_get list place ≡ Some one → Is place one
