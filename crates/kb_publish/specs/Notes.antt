-- What a step on a book of notes tells.
use Rattle.std.specs.Prelude.{◌≡◌, ℕ, List, [], ◌∷◌, ◌++◌}
use mathlib.Core.Option.{Option, none, some}
use Rattle.atomic_table.specs.Table.{Me, Step}

-- the state of the version that a step announces, as a list of one
abbrev pub announced : {V S : Type 0} → (V → S) → Option V → List S
announced state none = []
announced state (some version) = state version ∷ []

-- the note goes on with the state of the version that the step announces
abbrev pub writes : {V S : Type 0} → (V → S) → Step V → Me V (List S) → ℕ → Me V (List S) → Type 0
writes state step before found after = after ≡ (before.0 ++ announced state step.said, before.1)
