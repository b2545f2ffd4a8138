-- Following the origins back from a state.
use Rattle.std.specs.Prelude.{◌≡◌, ℕ, List, ◌++◌, Some, reverse}
use Rattle.kb_explore.specs.Exploration.{numbered, IsTraced}

-- With the symbols collected on the way back from the start, it has come to a state with this origin.
pub record IsTracing (origins : List (ℕ × ℕ)) (start parent symbol : ℕ)
    (symbols : List ℕ) : Type 0 where
  pub state : ℕ
  pub origin : numbered origins state ≡ Some (parent, symbol)
  pub text : List ℕ
  pub traced : IsTraced origins state text
  pub rest : (before : List ℕ) → IsTraced origins state before
      → IsTraced origins start (before ++ reverse symbols)
