-- Lists side by side in one array.
use Rattle.std.specs.Prelude.{◌≡◌, ℕ, zero, suc, ◌≤◌, List, [], ◌∷◌}
use Rattle.std.specs.List.{slice_range}

-- the items from a place on, cut at each of the ends
abbrev pub cut : {A : Type 0} → ℕ → List ℕ → List A → List (List A)
cut start [] items = []
cut start (end ∷ ends) items = slice_range items start end ∷ cut end ends items

-- the ends ascend from a place to the number of items
abbrev pub AreEnds : ℕ → List ℕ → ℕ → Type 0
AreEnds start [] size = start ≡ size
AreEnds start (end ∷ ends) size = (start ≤ end) × AreEnds end ends size

-- where the piece at a place begins
abbrev pub begins_at : ℕ → List ℕ → ℕ → ℕ
begins_at start ends zero = start
begins_at start [] (suc place) = start
begins_at start (end ∷ ends) (suc place) = begins_at end ends place
