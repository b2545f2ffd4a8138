-- Products of two tables: their states are pairs of states, and each symbol leads both on.
use Rattle.std.specs.Prelude.{◌≡◌, ◌≢◌, ◌↔◌, ◌⊎◌, ℕ, ◌<◌, ◌≤◌, Bool, true, false, not, ◌&&◌, ◌||◌, nat_eq, IsTrue, List, ◌++◌, All, Contains, Option, Some, None, if◌then◌else◌}
use Rattle.kb_fsa.specs.Table.{Table, Moves, IsRow, Ascends, lookup, target, step, is_accepting, state_after}
use Rattle.kb_fsa.specs.Language.{Automaton, AcceptsText}
use Rattle.kb_fsa.specs.Counted.{MoreThan, SameTwo}
use Rattle.kb_explore.specs.Machine.{Machine}
use Rattle.kb_fsabool.specs.declared.connective.Connective.{Connective}
use Rattle.kb_fsabool.specs.declared.connective.Connective.TheVariants.{And, Or, Xor}
use Rattle.kb_fsabool.specs.declared.connective.StatePair.{StatePair}

-- what the answers of the two give
abbrev pub holds : Connective → Bool → Bool → Bool
holds And one two = one && two
holds Or one two = one || two
holds Xor one true = not one
holds Xor one false = one

-- the two are a state of the product: `And` asks for a state of both, the others for a state of either
abbrev pub are_state : Connective → ℕ → ℕ → Bool
are_state And p q = not (nat_eq p 0) && not (nat_eq q 0)
are_state Or p q = not (nat_eq p 0) || not (nat_eq q 0)
are_state Xor p q = not (nat_eq p 0) || not (nat_eq q 0)

-- the same as a fact
abbrev pub AreState : Connective → ℕ → ℕ → Type 0
AreState And p q = (p ≢ 0) × (q ≢ 0)
AreState Or p q = (p ≢ 0) ⊎ (q ≢ 0)
AreState Xor p q = (p ≢ 0) ⊎ (q ≢ 0)

-- the state that the two make
abbrev pub paired : Connective → ℕ → ℕ → Option StatePair
paired connective p q =
    if are_state connective p q then Some (record { first = p; second = q }) else None

-- the machine of the product
abbrev pub product : Connective → Table → Table → Machine StatePair
product connective one two = record {
  start = paired connective one.initial two.initial;
  follow = λ state symbol.
      paired connective (step one state.first symbol) (step two state.second symbol);
  accepts = λ state.
      holds connective (is_accepting one state.first) (is_accepting two state.second);
}

-- more than m pairs of states to which one text leads
abbrev pub CountedPairs : Connective → Table → Table → ℕ → Type 0
CountedPairs connective one two =
    MoreThan (λ text. AreState connective (state_after one text) (state_after two text))
    (SameTwo one two)

-- the moves are those of two rows: by each symbol to the pair of their targets
pub record AreMerged (connective : Connective) (first second : Moves)
    (moves : List (ℕ × StatePair)) : Type 0 where
  pub ascends : Ascends moves
  pub lookup : (symbol : ℕ)
      → lookup moves symbol ≡ paired connective (target first symbol) (target second symbol)

-- a row has a move by the symbol, which is the least of the two rows
pub record IsLeastSymbol (first second : Moves) (symbol : ℕ) : Type 0 where
  pub in_row : ((state : ℕ) × Contains first (symbol, state))
      ⊎ ((state : ℕ) × Contains second (symbol, state))
  pub low_first : All (λ move. symbol ≤ move.0) first
  pub low_second : All (λ move. symbol ≤ move.0) second

-- the merging of two rows has come so far: the moves before, with those of what is left of the
-- rows, are those of the rows
pub record IsMerging (connective : Connective) (first second : Moves) (moves : List (ℕ × StatePair))
    (left_first left_second : Moves) : Type 0 where
  pub first_row : IsRow left_first
  pub second_row : IsRow left_second
  pub whole : (rest : List (ℕ × StatePair)) → AreMerged connective left_first left_second rest
      → AreMerged connective first second (moves ++ rest)

-- the automaton accepts the texts for which the answers of the two give yes
abbrev pub IsCombination : Connective → Automaton → Automaton → Automaton → Type 0
IsCombination connective one two result = (text : List ℕ) → AcceptsText result text ↔
    IsTrue (holds connective (is_accepting one.table (state_after one.table text))
    (is_accepting two.table (state_after two.table text)))

-- the number is that of the first accepting state
pub record IsFirstAccepting (table : Table) (state : ℕ) : Type 0 where
  pub accepts : IsTrue (is_accepting table state)
  pub first : (other : ℕ) → other < state → ¬ IsTrue (is_accepting table other)

-- no state accepts
abbrev pub NoneAccepts : Table → Type 0
NoneAccepts table = (state : ℕ) → ¬ IsTrue (is_accepting table state)
