-- How prime overlaps are found: left sides that end what is read, and ways on which no left side has ended yet.
use Rattle.std.specs.Prelude.{◌≡◌, ℕ, ◌+◌, ◌-◌, ◌<◌, ◌≤◌, ◌⊎◌, List, ◌++◌, length, take, drop}
use Rattle.std.specs.List.{Contains}
use Rattle.kb_word.specs.Words.{Pair, OneOf, EndsWith}
use Rattle.kb_word.specs.Rewriting.{IsIrreducible}
use Rattle.kb_word.specs.Overlap.{OverlapOf}
use Rattle.kb_trie.specs.States.{word}
use Rattle.kb_index.specs.Automata.{StandsFor}
use Rattle.kb_index.specs.Lefts.{left_at}
use Rattle.kb_overlap.specs.declared.left_sides.Overlap.{Overlap}
use Rattle.kb_overlap.specs.Composite.{BothStickOut, IsComposite}

-- the list gained exactly such elements
pub record Gains {A : Type 0} (Such : A → Type 0) (before after : List A) : Type 0 where
  pub kept : (one : A) → Contains before one → Contains after one
  pub gained : (one : A) → Such one → Contains after one
  pub only : (one : A) → Contains after one → Contains before one ⊎ Such one

-- the overlap with the rule at the place, unless that is the rule at the index, at place 0
pub record IsOther (index rule place : ℕ) (one : Overlap) : Type 0 where
  pub is_rule : one.rule ≡ rule
  pub at : one.place ≡ place
  pub other : one.rule ≡ index → 0 < one.place

-- an overlap at the place with a rule that has the left side
pub record HasLeft (rules : List Pair) (index : ℕ) (left : List ℕ) (place : ℕ)
    (one : Overlap) : Type 0 where
  pub within : one.rule < length rules
  pub is_left : left_at rules one.rule ≡ left
  pub at : one.place ≡ place
  pub other : one.rule ≡ index → 0 < one.place

-- w ends what is read, which is so long: an overlap with a left side that ends w and is longer than `beyond`
pub record EndsRead (rules : List Pair) (index : ℕ) (w : List ℕ) (read beyond : ℕ)
    (one : Overlap) : Type 0 where
  pub within : one.rule < length rules
  pub ends : EndsWith w (left_at rules one.rule)
  pub longer : beyond < length (left_at rules one.rule)
  pub upto : one.place + length (left_at rules one.rule) ≡ read
  pub other : one.rule ≡ index → 0 < one.place

-- an overlap with a left side that ends a prefix of l of at most so many letters
pub record EndsPrefix (rules : List Pair) (index : ℕ) (l : List ℕ) (most : ℕ)
    (one : Overlap) : Type 0 where
  pub read : ℕ
  pub within : read ≤ most
  pub ends : EndsRead rules index (take read l) read 0 one

-- an overlap with a left side that is contained in that of the rule at the index
pub record IsContained (rules : List Pair) (index : ℕ) (one : Overlap) : Type 0 where
  pub first : Pair
  pub second : Pair
  pub overlap : OverlapOf rules index one.rule one.place first second
  pub within : one.place + length second.0 ≤ length first.0

-- an overlap of the rule at the index in which both left sides stick out, and which isn't composite
pub record IsProper (rules : List Pair) (index : ℕ) (one : Overlap) : Type 0 where
  pub first : Pair
  pub second : Pair
  pub overlap : OverlapOf rules index one.rule one.place first second
  pub out : BothStickOut first.0 second.0 one.place
  pub prime : ¬ IsComposite rules first.0 second.0 one.place

-- A way of so many letters leads from the word `tail` to the state: no left side stands in `tail` and the way without
-- its last letter, and the state's word is longer than the way.
pub record IsReached (rules : List Pair) (words : List (List ℕ)) (tail : List ℕ)
    (count state : ℕ) : Type 0 where
  pub way : List ℕ
  pub count_is : length way ≡ count
  pub irreducible : IsIrreducible (OneOf rules) (tail ++ take (count - 1) way)
  pub stands : StandsFor words (tail ++ way) state
  pub longer : count < length (word words state)

-- these are exactly the states to which ways of so many letters lead
pub record AreReached (rules : List Pair) (words : List (List ℕ)) (tail : List ℕ) (count : ℕ)
    (level : List ℕ) : Type 0 where
  pub each : (state : ℕ) → Contains level state → IsReached rules words tail count state
  pub all : (state : ℕ) → IsReached rules words tail count state → Contains level state

-- a way of so many letters leads from the left side of the rule at the index, without its first letter, to a state at
-- which the other left side ends
pub record IsMet (rules : List Pair) (words : List (List ℕ)) (index count : ℕ)
    (one : Overlap) : Type 0 where
  pub state : ℕ
  pub reached : IsReached rules words (drop 1 (left_at rules index)) count state
  pub ends : EndsRead rules index (word words state) (length (left_at rules index) + count) count
      one
