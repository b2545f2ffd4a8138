-- Lists that agree.
use Rattle.std.specs.Prelude.{◌≡◌, ℕ, ◌<◌, List, length, slice_get}

-- the lists agree as far as both go
abbrev pub AgreeAsFar : List ℕ → List ℕ → Type 0
AgreeAsFar xs ys = (k : ℕ) → k < length xs → k < length ys → slice_get xs k ≡ slice_get ys k
