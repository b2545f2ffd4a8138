-- Where multipliers are along a word that is read beside itself.
use Rattle.std.specs.Prelude.{◌≡◌, ℕ, suc, ◌<◌, ◌≤◌, List, [], length, get_or, take, Some, slice_get}
use Rattle.kb_fsa.specs.Table.{state_after}
use Rattle.kb_fsa.specs.Padding.{padded}
use Rattle.kb_fsa.specs.Language.{Automaton, generators}

-- the state in which the multiplier is when it has read so many first letters of the word beside themselves
abbrev pub state_beside_itself : Automaton → List ℕ → ℕ → ℕ
state_beside_itself multiplier word place = state_after multiplier.table
    (padded (generators multiplier.alphabet) (take place word) (take place word))

-- The states are a trail of the multiplier along the word: those in which it reads the word beside itself, from the
-- first one on, up to the word's end or to some place before.
pub record IsTrail (multiplier : Automaton) (word states : List ℕ) : Type 0 where
  pub within : length states ≤ suc (length word)
  pub each : (place : ℕ) → place < length states
      → get_or states place 0 ≡ state_beside_itself multiplier word place

-- each multiplier has a trail along the word
pub record AreTrails (multipliers : List Automaton) (word : List ℕ)
    (trails : List (List ℕ)) : Type 0 where
  pub one_each : length trails ≡ length multipliers
  pub each : (index : ℕ) (multiplier : Automaton) → slice_get multipliers index ≡ Some multiplier
      → IsTrail multiplier word (get_or trails index [])
