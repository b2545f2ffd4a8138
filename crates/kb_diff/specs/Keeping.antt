-- Words that are kept in the order in which they were first seen, up to a limit.
use Rattle.std.specs.Prelude.{◌≡◌, ℕ, suc, ◌<◌, ◌≤◌, All, List, [], ◌∷◌, ◌++◌, length, Contains}
use Rattle.kb_word.specs.Words.{Pair}
use Rattle.kb_diff.specs.Groups.{Group}
use Rattle.kb_diff.specs.Differences.{IsDifference, AreFirstDifferences, last_place}
use Rattle.kb_diff.specs.declared.grow.Grow.{Grow}
use Rattle.kb_diff.specs.declared.grow.Grow.TheVariants.{Grew, Same, Full}

-- What is kept after words are seen one after another: one that is kept already stays where it is,
-- another one goes last.
pub data Keeps : List (List ℕ) → List (List ℕ) → List (List ℕ) → Type 0 where
  none_seen : {kept : List (List ℕ)} → Keeps kept [] kept
  known : {kept seen kept' : List (List ℕ)} {word : List ℕ} → Contains kept word
      → Keeps kept seen kept'
      → Keeps kept (word ∷ seen) kept'
  added : {kept seen kept' : List (List ℕ)} {word : List ℕ} → ¬ Contains kept word
      → Keeps (kept ++ word ∷ []) seen kept'
      → Keeps kept (word ∷ seen) kept'

-- some word had no more room
abbrev pub IsFull : Grow → Type 0
IsFull Grew = ⊥
IsFull Same = ⊥
IsFull (Full word place) = Unit {0}

-- what is answered to more than one: the last answer that isn't `Same`
abbrev pub both_answers : Grow → Grow → Grow
both_answers answer Same = answer
both_answers answer Grew = Grew
both_answers answer (Full word place) = Full word place

-- What is kept, and what is answered, after words are seen of which at most so many may be kept:
-- `Same` where all are kept already, `Grew` where others are kept too, and `Full` where the last
-- one is the first that finds no more room. It is named with its place among those that are seen,
-- from 1.
pub data Grows (most : ℕ) (seen old new : List (List ℕ)) : Grow → Type 0 where
  all_known : All (Contains old) seen → new ≡ old → Grows most seen old new Same
  grown : ¬ All (Contains old) seen → Keeps old seen new → length new ≤ most
      → Grows most seen old new Grew
  no_room : (before : List (List ℕ)) (word : List ℕ) → seen ≡ before ++ word ∷ []
      → Keeps old before new
      → length new ≡ most → ¬ Contains new word
      → Grows most seen old new (Full word (suc (length before)))

-- the differences of u and v at the places 1, 2, .. are kept: all of them, or those before the first that finds no room
pub record Adds (group : Group) (most : ℕ) (u v : List ℕ) (old new : List (List ℕ))
    (answer : Grow) : Type 0 where
  pub count : ℕ
  pub seen : List (List ℕ)
  pub are_differences : AreFirstDifferences group u v count seen
  pub grows : Grows most seen old new answer
  pub within : count ≤ last_place u v
  pub all : ¬ IsFull answer → count ≡ last_place u v

-- The word is the difference of u and v at the place, and it is missing among these words; those at
-- earlier places are not.
pub record IsFirstMissing (group : Group) (words : List (List ℕ)) (u v word : List ℕ)
    (place : ℕ) : Type 0 where
  pub is_difference : IsDifference group u v place word
  pub missing : ¬ Contains words word
  pub first : (earlier : ℕ) (d : List ℕ) → 0 < earlier → earlier < place
      → IsDifference group u v earlier d
      → Contains words d

-- `Full` names the first difference of u and v that is missing among these words
abbrev pub NamesMissing : Group → List (List ℕ) → List ℕ → List ℕ → Grow → Type 0
NamesMissing group words u v Grew = Unit {0}
NamesMissing group words u v Same = Unit {0}
NamesMissing group words u v (Full word place) = IsFirstMissing group words u v word place

-- the differences of each pair in turn are kept, and there is room for all
pub data AddsEach (group : Group) (most : ℕ) : List Pair → List (List ℕ) → List (List ℕ)
    → Type 0 where
  none_left : {words : List (List ℕ)} → AddsEach group most [] words words
  and_next : {pair : Pair} {rest : List Pair} {old between new : List (List ℕ)} (answer : Grow)
      → Adds group most pair.0 pair.1 old between answer → ¬ IsFull answer
      → AddsEach group most rest between new
      → AddsEach group most (pair ∷ rest) old new

-- The differences of each pair in turn are kept, up to the first one that finds no room for a word.
-- Its answer is given.
pub data AddsPairs (group : Group) (most : ℕ) (pairs : List Pair) (old new : List (List ℕ)) : Grow
    → Type 0 where
  each : AddsEach group most pairs old new → AddsPairs group most pairs old new Grew
  stopped : (before : List Pair) (pair : Pair) (after : List Pair) (between : List (List ℕ))
      (word : List ℕ) (place : ℕ)
      → pairs ≡ before ++ pair ∷ after → AddsEach group most before old between
      → Adds group most pair.0 pair.1 between new (Full word place)
      → AddsPairs group most pairs old new (Full word place)

-- the same of one word, seen at a place
pub data KeepsOne (most : ℕ) (word : List ℕ) (place : ℕ) (old new : List (List ℕ)) : Grow
    → Type 0 where
  one_known : Contains old word → new ≡ old → KeepsOne most word place old new Same
  one_added : ¬ Contains old word → length old < most → new ≡ old ++ word ∷ []
      → KeepsOne most word place old new Grew
  one_too_many : ¬ Contains old word → length old ≡ most → new ≡ old
      → KeepsOne most word place old new (Full word place)
