-- What is left to do while other lines are simplified by a new one.
use Rattle.std.specs.Prelude.{◌≡◌, ◌≢◌, ℕ, ◌<◌, ◌≤◌, ◌⊎◌, List, ◌++◌, Some, None, length, slice_index}
use Rattle.std.specs.List.{Contains}
use Rattle.kb_word.specs.Words.{Pair, IsFactor}
use Rattle.kb_machine.specs.Lines.{numbered, rules_of}
use Rattle.kb_machine.specs.declared.line.Line.{Line}
use Rattle.kb_machine.specs.States.{State}
use Rattle.kb_machine.specs.Machine.{IsLive}
use Rattle.kb_machine.specs.Course.{Course}
use Rattle.kb_share.specs.Finding.{side_of}
use Rattle.kb_share.specs.Interreduced.{IsFull}
use Rattle.kb_share.specs.Work.{GoesOn}
use Rattle.kb_share.specs.declared.finding.Side.{Side}
use Rattle.kb_share.specs.declared.finding.Side.TheVariants.{Left, Right}

-- the left side of live line k is a factor of this side of another live line, j
pub record HasFactorOf (side : Side) (state : State) (j k : ℕ) : Type 0 where
  pub is_live : IsLive state j
  pub one : Pair
  pub is_one : numbered (rules_of state.lines) j ≡ Some one
  pub other_is_live : IsLive state k
  pub other : Pair
  pub is_other : numbered (rules_of state.lines) k ≡ Some other
  pub another : k ≢ j
  pub factor : IsFactor (side_of side one) other.0

-- no live line has a live left side as a factor on this side
abbrev pub NoneHas : Side → State → Type 0
NoneHas side state = (j k : ℕ) → ¬ HasFactorOf side state j k

-- only these lines have
abbrev pub OnlyTheseHave : Side → State → List ℕ → Type 0
OnlyTheseHave side state lines = (j k : ℕ) → HasFactorOf side state j k → Contains lines j

-- the later state has the lines of the earlier one, or more, and of those none is live that wasn't
pub record Ages (before after : State) : Type 0 where
  pub made : List Line
  pub lines : after.lines ≡ before.lines ++ made
  pub old : (k : ℕ) → IsLive after k → k ≤ length before.lines → IsLive before k

-- lines were only taken away, and no halt was set
pub record Thins (before after : Course) : Type 0 where
  pub lines : after.state.lines ≡ before.state.lines
  pub fewer : (k : ℕ) → IsLive after.state k → IsLive before.state k
  pub halt : after.state.halt ≡ before.state.halt

-- the number is listed at the place or after it
pub record IsListedFrom (numbers : List ℕ) (place number : ℕ) : Type 0 where
  pub at : ℕ
  pub late : place ≤ at
  pub within : at < length numbers
  pub is : slice_index numbers at ≡ number

-- only the lines that are listed from the place on have a live left side as a factor on this side
abbrev pub OnlyRestHave : Side → State → List ℕ → ℕ → Type 0
OnlyRestHave side state lines place =
    (j k : ℕ) → HasFactorOf side state j k → IsListedFrom lines place j

-- no live right side has a left side as a factor, or the log is full
abbrev pub NoRightHasOrFull : Course → Type 0
NoRightHasOrFull course = NoneHas Right course.state ⊎ IsFull course

-- what the killing of lines keeps and does
pub record KillsRest (before after : Course) (lines : List ℕ) (place : ℕ) : Type 0 where
  pub goes_on : GoesOn before after
  pub thins : Thins before after
  pub lefts : OnlyTheseHave Left before.state lines → OnlyRestHave Left after.state lines place

-- what the shortening of lines keeps and does: where there was no halt, only a full log stops it
pub record ShortensRest (before after : Course) (lines : List ℕ) (place : ℕ) : Type 0 where
  pub goes_on : GoesOn before after
  pub ages : Ages before.state after.state
  pub halt : after.state.halt ≡ before.state.halt
  pub lefts : NoneHas Left before.state → NoneHas Left after.state
  pub rights : before.state.halt ≡ None → OnlyTheseHave Right before.state lines
      → OnlyRestHave Right after.state lines place ⊎ IsFull after
