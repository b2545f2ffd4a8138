-- Versions of a book.
use Rattle.std.specs.Prelude.{◌≡◌, ℕ, ◌<◌, List, [], ◌∷◌, ◌++◌, length, Some, slice_get}
use Rattle.kb_word.specs.Words.{Pair}
use Rattle.kb_word.specs.Overlap.{Overlaps}
use Rattle.kb_machine.specs.States.{State, live_rules}

-- a version: its number, the numbers of its lines, and their rules
pub record VersionParts : Type 0 where
  pub number : ℕ
  pub numbers : List ℕ
  pub rules : List Pair

-- the version that has the live lines of a state
abbrev pub version_of : State → VersionParts
version_of state =
    record { number = length state.versions; numbers = state.live; rules = live_rules state }

-- the version that was published last has the live lines
pub record IsPublished (state : State) : Type 0 where
  pub earlier : List (List ℕ)
  pub is : state.versions ≡ earlier ++ state.live ∷ []

-- the rule of the version's line with this number
pub record IsRuleOfLine (version : VersionParts) (k : ℕ) (rule : Pair) : Type 0 where
  pub index : ℕ
  pub at : slice_get version.numbers index ≡ Some k
  pub is_rule : slice_get version.rules index ≡ Some rule

-- an overlap of two of the version's lines; a line with itself at place 0 is none
pub record OverlapOfLines (version : VersionParts) (i j place : ℕ)
    (first second : Pair) : Type 0 where
  pub is_first : IsRuleOfLine version i first
  pub is_second : IsRuleOfLine version j second
  pub overlaps : Overlaps first.0 second.0 place
  pub proper : i ≡ j → 0 < place
