-- Lines by their numbers, and their rules.
use Rattle.std.specs.Prelude.{◌≡◌, ℕ, zero, suc, ◌<◌, List, map, Option, Some, None, slice_get}
use Rattle.kb_word.specs.Words.{Pair}
use Rattle.kb_word.specs.Overlap.{Overlaps, critical_pair}
use Rattle.kb_machine.specs.declared.line.Line.{Line}
use Rattle.kb_machine.specs.declared.origin.Origin.{Origin}
use Rattle.kb_machine.specs.declared.origin.Origin.TheVariants.{Relation, Overlap, Killed, Shortened}

-- the one of this number, where the numbers begin at 1
abbrev pub numbered : {X : Type 0} → List X → ℕ → Option X
numbered list zero = None
numbered list (suc index) = slice_get list index

-- the rule of a line
abbrev pub rule_of : Line → Pair
rule_of line = (line.left, line.right)

-- the rules of lines, in their order
abbrev pub rules_of : List Line → List Pair
rules_of lines = map rule_of lines

-- an overlap of two of the rules, which have these numbers; a rule with itself at place 0 is none
pub record OverlapOfNumbers (rules : List Pair) (i j place : ℕ) (first second : Pair) : Type 0 where
  pub is_first : numbered rules i ≡ Some first
  pub is_second : numbered rules j ≡ Some second
  pub overlaps : Overlaps first.0 second.0 place
  pub proper : i ≡ j → 0 < place

-- the pair is the critical pair of two of the rules at this place
pub record IsCriticalPair (rules : List Pair) (i j place : ℕ) (pair : Pair) : Type 0 where
  pub first : Pair
  pub second : Pair
  pub overlap : OverlapOfNumbers rules i j place first second
  pub is : pair ≡ critical_pair first second place

-- the pair of words that an origin names, among the relations and the rules of lines
abbrev pub IsPairOf : List Pair → List Pair → Origin → Pair → Type 0
IsPairOf relations rules (Relation k) pair = numbered relations k ≡ Some pair
IsPairOf relations rules (Overlap i j place) pair = IsCriticalPair rules i j place pair
IsPairOf relations rules (Killed k) pair = numbered rules k ≡ Some pair
IsPairOf relations rules (Shortened k) pair = numbered rules k ≡ Some pair

-- the line that an origin replaces
abbrev pub replaced : Origin → Option ℕ
replaced (Killed k) = Some k
replaced (Shortened k) = Some k
replaced _ = None
