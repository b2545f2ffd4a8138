-- Blocks of states and cords of moves, which split each other.
use Rattle.std.specs.Prelude.{◌≡◌, ◌≢◌, ℕ, suc, ◌+◌, ◌<◌, ◌≤◌, List, length, get_or, take, All, Contains}
use Rattle.kb_fsa.specs.Table.{Table}
use Rattle.kb_fsa.specs.Graphs.{source, end, AreLinked, IsWalk}
use Rattle.kb_fsa.specs.Moves.{AreBackward}
use Rattle.kb_labelled.specs.Labels.{AreAlike}
use Rattle.kb_fsamin.specs.Rounds.{class_of, IsClassing}
use Rattle.kb_fsamin.specs.Partitions.{part_of, first_of, IsPartition}
use Rattle.kb_fsamin.specs.declared.incoming.Incoming.{Incoming}
use Rattle.kb_fsamin.specs.declared.partition.Partition.{Partition}

-- The list numbers the first things, as many as are done, by what each is; equal ones have one number, their place
-- among the seen.
pub record AreNumbered (thing : ℕ → ℕ) (done : ℕ) (seen numbers : List ℕ) : Type 0 where
  pub one_each : length numbers ≡ done
  pub few : length seen ≤ done
  pub place : (k : ℕ) → k < done → (part_of numbers k < length seen)
      × (get_or seen (part_of numbers k) 0 ≡ thing k)
  pub distinct : (j k : ℕ) → j < length seen → k < length seen → get_or seen j 0 ≡ get_or seen k 0
      → j ≡ k

-- the list has the moves into the block
pub record AreEntering (edges : List (ℕ × ℕ)) (blocks : List ℕ) (block : ℕ)
    (listed : List ℕ) : Type 0 where
  pub sound : All
      (λ move. (move < length edges) × (part_of blocks (source edges move) ≡ block)) listed
  pub complete : (move : ℕ) → move < length edges → part_of blocks (source edges move) ≡ block
      → Contains listed move

-- the moves are linked by the states that they lead to, each below the count
abbrev pub AreIncoming : List (ℕ × ℕ) → ℕ → Incoming → Type 0
AreIncoming edges count incoming =
    AreLinked edges (length edges) count incoming.last.items incoming.earlier.items

-- the list has the moves that lead into these states
pub record AreGathered (edges : List (ℕ × ℕ)) (states listed : List ℕ) : Type 0 where
  pub sound : (move : ℕ) → Contains listed move
      → (move < length edges) × Contains states (source edges move)
  pub complete : (move : ℕ) → move < length edges → Contains states (source edges move)
      → Contains listed move

-- The list has the moves that lead into the first states, as many as are done. Of those that lead into the next one it
-- has the ones that come, along the links, before the one of the number.
pub record AreListing (edges : List (ℕ × ℕ)) (states : List ℕ) (done number : ℕ)
    (listed : List ℕ) : Type 0 where
  pub sound : (move : ℕ) → Contains listed move
      → (move < length edges) × Contains (take (done + 1) states) (source edges move)
  pub complete : (move : ℕ) → move < length edges → Contains (take done states) (source edges move)
      → Contains listed move
  pub walk : IsWalk edges (get_or states done 0) number (Contains listed)

-- a move of the cord leads from the state to one that leads to acceptance
pub record IsLeaving (edges : List (ℕ × ℕ)) (start cords : List ℕ) (cord state : ℕ) : Type 0 where
  pub move : ℕ
  pub within : move < length edges
  pub of_cord : part_of cords move ≡ cord
  pub live : class_of start (source edges move) ≢ 0
  pub state_is : end edges move ≡ state

-- the list has the states from which the cord's moves lead to acceptance
pub record AreLeaving (edges : List (ℕ × ℕ)) (start cords : List ℕ) (cord : ℕ)
    (listed : List ℕ) : Type 0 where
  pub sound : (state : ℕ) → Contains listed state → IsLeaving edges start cords cord state
  pub complete : (state : ℕ) → IsLeaving edges start cords cord state → Contains listed state

-- there are blocks of the states, and cords of the moves
pub record ArePaired (edges : List (ℕ × ℕ)) (start : List ℕ)
    (blocks cords : Partition) : Type 0 where
  pub blocks_are : IsPartition blocks
  pub cords_are : IsPartition cords
  pub block_each : length blocks.of.items ≡ length start
  pub cord_each : length cords.of.items ≡ length edges

-- Alike states are in one block, and moves by one symbol to such states in one cord. Blocks are within the classes
-- that they came from.
pub record IsSplitting (table : Table) (labels : List ℕ) (edges : List (ℕ × ℕ))
    (symbols start blocks cords : List ℕ) : Type 0 where
  pub one_block : (p q : ℕ) → p < length start → q < length start → AreAlike table labels p q
      → part_of blocks p ≡ part_of blocks q
  pub one_cord : (move other : ℕ) → move < length edges → other < length edges
      → get_or symbols move 0 ≡ get_or symbols other 0
      → AreAlike table labels (source edges move) (source edges other)
      → part_of cords move ≡ part_of cords other
  pub refines : (p q : ℕ) → p < length start → q < length start
      → part_of blocks p ≡ part_of blocks q
      → class_of start p ≡ class_of start q

-- for whatever table with labels has these moves and classes, the splitting goes on
abbrev pub KeepsSplitting : List (ℕ × ℕ) → List ℕ → List ℕ → Partition → Partition → Partition
    → Partition → Type 0
KeepsSplitting edges symbols start blocks cords blocks' cords' = (table : Table) (labels : List ℕ)
    → AreBackward table (suc (length table.rows)) 0 edges symbols → IsClassing table labels start
    → IsSplitting table labels edges symbols start blocks.of.items cords.of.items
    → IsSplitting table labels edges symbols start blocks'.of.items cords'.of.items

-- the first states, as many as are done, have the first states of their blocks for classes, but for those of class 0
pub record AreClassesOfBlocks (start : List ℕ) (blocks : Partition) (done : ℕ)
    (classes : List ℕ) : Type 0 where
  pub one_each : length classes ≡ done
  pub dead : (state : ℕ) → state < done → class_of start state ≡ 0 → class_of classes state ≡ 0
  pub live : (state : ℕ) → state < done → class_of start state ≢ 0
      → class_of classes state ≡ first_of blocks (part_of blocks.of.items state)
