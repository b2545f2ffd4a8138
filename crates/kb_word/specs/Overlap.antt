-- Overlaps of left sides, critical pairs and confluence.
use Rattle.std.specs.Prelude.{◌≡◌, ◌≢◌, ℕ, ◌+◌, ◌-◌, ◌<◌, List, ◌++◌, length, take, drop, slice_get, Some}
use Rattle.kb_word.specs.Words.{Pair}
use Rattle.kb_word.specs.Rewriting.{NormalForm}

-- The words l and m overlap at a place of l: from there on the letters of l agree with m as far as both go.
-- Containment of m in l and equal words are overlaps too.
pub record Overlaps (l m : List ℕ) (place : ℕ) : Type 0 where
  pub within : place < length l
  pub agree : (k : ℕ) → place + k < length l → k < length m
      → slice_get l (place + k) ≡ slice_get m k

-- the word in which both stand: l, lengthened by what m has past its end
abbrev pub superposition : List ℕ → List ℕ → ℕ → List ℕ
superposition l m place = l ++ drop (length l - place) m

-- The critical pair of two rules at a place: the superposition with the first rule applied, and
-- with the second one. Book, Otto, String-Rewriting Systems, 2.3; Holt, Eick, O'Brien, Handbook of
-- Computational Group Theory, 12.2.
abbrev pub critical_pair : Pair → Pair → ℕ → Pair
critical_pair first second place = (
  first.1 ++ drop (length first.0 - place) second.0,
  take place first.0 ++ second.1
      ++ drop (place + length second.0) first.0,
)

-- an overlap of two rules of a list, which stand at these indices; a rule with itself at place 0 is none
pub record OverlapOf (rules : List Pair) (i j place : ℕ) (first second : Pair) : Type 0 where
  pub is_first : slice_get rules i ≡ Some first
  pub is_second : slice_get rules j ≡ Some second
  pub overlaps : Overlaps first.0 second.0 place
  pub proper : i ≡ j → 0 < place

-- both words have one normal form
pub record IsResolved (rules : List Pair) (pair : Pair) : Type 0 where
  pub joint : List ℕ
  pub left : NormalForm rules pair.0 joint
  pub right : NormalForm rules pair.1 joint

-- the words have different normal forms, u of the first word and v of the second
pub record IsUnresolved (rules : List Pair) (pair : Pair) (u v : List ℕ) : Type 0 where
  pub left : NormalForm rules pair.0 u
  pub right : NormalForm rules pair.1 v
  pub different : u ≢ v

-- the critical pair of each overlap joins
abbrev pub IsConfluent : List Pair → Type 0
IsConfluent rules = (i j place : ℕ) (first second : Pair) → OverlapOf rules i j place first second
    → IsResolved rules (critical_pair first second place)
