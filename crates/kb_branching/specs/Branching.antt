-- Branching machines: nondeterministic automata whose states are things of any kind.
use Rattle.std.specs.Prelude.{◌≡◌, ℕ, ◌<◌, ◌≤◌, Bool, IsTrue, List, [], ◌∷◌, length, All, Contains}
use Rattle.kb_fsa.specs.declared.alphabet.Alphabet.{Alphabet}
use Rattle.kb_fsa.specs.Language.{generators, IsTextOf}
use Rattle.kb_explore.specs.Progress.{AreDistinct}

-- What a machine reads, where it may start, which moves there are from a state, each a symbol with
-- the state to which it leads, and which states accept. Moves come in any order, several may have
-- one symbol, and lists may have a start or a move twice.
pub record Branching (S : Type 0) : Type 0 where
  pub alphabet : Alphabet
  pub starts : List S
  pub moves : S → List (ℕ × S)
  pub accepts : S → Bool

-- the text leads from the state to the other one
abbrev pub LeadsFrom : {S : Type 0} → Branching S → S → List ℕ → S → Type 0
LeadsFrom machine state [] other = state ≡ other
LeadsFrom {S} machine state (symbol ∷ text) other =
    (next : S) × Contains (machine.moves state) (symbol, next)
    × LeadsFrom machine next text other

-- the state is among those to which the text leads
pub record LeadsTo {S : Type 0} (machine : Branching S) (text : List ℕ) (state : S) : Type 0 where
  pub start : S
  pub is_start : Contains machine.starts start
  pub leads : LeadsFrom machine start text state

-- the text leads to a state that accepts
abbrev pub BranchingAccepts : {S : Type 0} → Branching S → List ℕ → Type 0
BranchingAccepts {S} machine text =
    (state : S) × LeadsTo machine text state × IsTrue (machine.accepts state)

-- what every branching machine keeps: each text that leads to a state is one of its alphabet, and
-- so are the symbols of the moves from there
pub record ReadsAlphabet {S : Type 0} (machine : Branching S) : Type 0 where
  pub generators : generators machine.alphabet ≤ 65534
  pub texts : (text : List ℕ) (state : S) → LeadsTo machine text state
      → IsTextOf machine.alphabet text

-- some text leads to the state
abbrev pub IsReached : {S : Type 0} → Branching S → S → Type 0
IsReached machine state = (text : List ℕ) × LeadsTo machine text state

-- there are more than m states to which texts lead
pub record HasMoreBranchStates {S : Type 0} (machine : Branching S) (m : ℕ) : Type 0 where
  pub states : List S
  pub many : m < length states
  pub distinct : AreDistinct states
  pub reached : All (IsReached machine) states
