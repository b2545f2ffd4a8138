-- Marks of the symbols by which some of several automata has a move.
use Rattle.std.specs.Prelude.{◌≡◌, ◌≢◌, ℕ, Bool, true, false, List, All, get_or, take}
use Rattle.kb_fsa.specs.Table.{Moves, Table, step}
use Rattle.kb_fsa.specs.Language.{Automaton}
use Rattle.kb_minkb.specs.Rules.{has_state}
use Rattle.kb_minkb.specs.RuleMachine.{next_states}
use Rattle.kb_minkb.specs.Progress.{first_states}

-- the symbol has no mark; one past the list has
abbrev pub IsUnmarked : List Bool → ℕ → Type 0
IsUnmarked marks symbol = get_or marks symbol true ≡ false

-- no automaton has a move from its state by a symbol without a mark
abbrev pub AreAllMarked : List Automaton → List ℕ → List Bool → Type 0
AreAllMarked automata states marks = (symbol : ℕ) → IsUnmarked marks symbol
    → has_state (next_states automata states symbol) ≡ false

-- nor has any of the first few
abbrev pub AreFirstMarked : List Automaton → List ℕ → ℕ → List Bool → Type 0
AreFirstMarked automata states many marks = (symbol : ℕ) → IsUnmarked marks symbol
    → has_state (first_states automata states symbol many) ≡ false

-- what had a mark has it still, and so has each symbol of the state's moves
abbrev pub AreMovesMarked : Table → ℕ → List Bool → List Bool → Type 0
AreMovesMarked table state before after = (symbol : ℕ) → IsUnmarked after symbol
    → IsUnmarked before symbol × (step table state symbol ≡ 0)

-- and each symbol of the first few moves
abbrev pub AreFirstMovesMarked : Moves → ℕ → List Bool → List Bool → Type 0
AreFirstMovesMarked moves many before after = (symbol : ℕ) → IsUnmarked after symbol
    → IsUnmarked before symbol × All (λ move. move.0 ≢ symbol) (take many moves)
