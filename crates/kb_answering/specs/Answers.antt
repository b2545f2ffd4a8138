-- What a run means by its status that stores what belongs to a presentation and answers word lines, or shows a limit.
use Rattle.std.specs.Prelude.{◌≡◌, ℕ, ◌⊎◌, List, ◌++◌}
use Rattle.kb_io.specs.Bytes.{AppendsPrefix}
use Rattle.kb_io.specs.Outside.{Outside, IsUnchanged, IsUnread}
use Rattle.kb_word.specs.Presentations.{PresentationParts}
use Rattle.kb_lines.specs.Streams.{Streams, streams}
use Rattle.kb_lines.specs.Answered.{AllAnswered, Stops}
use Rattle.kb_lines.specs.declared.stop.Stop.{Stop}
use Rattle.kb_lines.specs.declared.stop.Stop.TheVariants as stops
use Rattle.kb_task.specs.Stores.{Text, HoldsTexts, StoresFirst, StopsAtText}
use Rattle.kb_task.specs.declared.status.Limit.{Limit}
use Rattle.kb_task.specs.declared.status.Refusal.TheVariants.{Line as RefusedLine, InputTooLong}
use Rattle.kb_task.specs.declared.status.Status.{Status}
use Rattle.kb_task.specs.declared.status.Status.TheVariants.{Yes, Refused, Undecided, Memory, Fault}
use Rattle.kb_task.specs.declared.status.Which.TheVariants.{Store, Input, Output}
use Rattle.kb_system.specs.Completed.{IsLeastIn}

-- which files belong to a presentation, and which files and line show a limit
abbrev pub Own : Type 1
Own = PresentationParts → List Text → Type 0

abbrev pub Shows : Type 1
Shows = PresentationParts → Limit → List Text → List ℕ → Type 0

-- the input and the output at one moment
abbrev pub streams_of : Outside → Streams
streams_of moment = streams moment.input moment.output

-- the files that belong to the presentation were stored, whole
abbrev pub HasStored : Own → PresentationParts → Outside → Outside → Type 0
HasStored own parts before after =
    (texts : List Text) × own parts texts × HoldsTexts texts before.shelf after.shelf

-- the same, and the answers to the word lines stopped so
abbrev pub LinesStop : Own → PresentationParts → Outside → Outside → Stop → Type 0
LinesStop own parts before after stop =
    HasStored own parts before after
    × Stops parts (IsLeastIn parts) (streams_of before) (streams_of after) stop

-- the files that show the limit were stored, and the line that says so was written
pub record ReachesLimit (shows : Shows) (parts : PresentationParts) (limit : Limit)
    (before after : Outside) : Type 0 where
  pub texts : List Text
  pub line : List ℕ
  pub are_shown : shows parts limit texts line
  pub holds : HoldsTexts texts before.shelf after.shelf
  pub unread : IsUnread before after
  pub written : after.output.written ≡ before.output.written ++ line

-- the files that show a limit were stored, and a front of the line that says so was written
pub record FrontOfLimit (shows : Shows) (parts : PresentationParts)
    (before after : Outside) : Type 0 where
  pub limit : Limit
  pub texts : List Text
  pub line : List ℕ
  pub are_shown : shows parts limit texts line
  pub holds : HoldsTexts texts before.shelf after.shelf
  pub unread : IsUnread before after
  pub front : AppendsPrefix before.output.written after.output.written line

-- these are the files that belong to the presentation, or show a limit
abbrev pub AreStored : Own → Shows → PresentationParts → List Text → Type 0
AreStored own shows parts texts =
    own parts texts ⊎ ((limit : Limit) × (line : List ℕ) × shows parts limit texts line)

-- what each status of a run that answers the word lines means
abbrev pub LinesMean : PresentationParts → Outside → Outside → Status → Type 0
LinesMean parts before after Yes =
    AllAnswered parts (IsLeastIn parts) (streams_of before) (streams_of after)
LinesMean parts before after (Refused (RefusedLine number fault)) =
    Stops parts (IsLeastIn parts) (streams_of before) (streams_of after)
    (stops.Refused number fault)
LinesMean parts before after (Refused InputTooLong) =
    Stops parts (IsLeastIn parts) (streams_of before) (streams_of after) stops.TooLong
LinesMean parts before after (Fault Input) =
    Stops parts (IsLeastIn parts) (streams_of before) (streams_of after) stops.Input
LinesMean parts before after (Fault Output) =
    Stops parts (IsLeastIn parts) (streams_of before) (streams_of after) stops.Output
LinesMean parts before after Memory =
    Stops parts (IsLeastIn parts) (streams_of before) (streams_of after) stops.Memory
LinesMean parts before after _ = ⊥

-- What each status means once the presentation has been read.
abbrev pub AnswersMean : Own → Shows → PresentationParts → Outside → Outside → Status → Type 0
AnswersMean own shows parts before after Yes =
    HasStored own parts before after
    × AllAnswered parts (IsLeastIn parts) (streams_of before) (streams_of after)
AnswersMean own shows parts before after (Undecided limit) =
    ReachesLimit shows parts limit before after
AnswersMean own shows parts before after (Refused (RefusedLine number fault)) =
    LinesStop own parts before after (stops.Refused number fault)
AnswersMean own shows parts before after (Refused InputTooLong) =
    LinesStop own parts before after stops.TooLong
AnswersMean own shows parts before after (Fault Input) =
    LinesStop own parts before after stops.Input
AnswersMean own shows parts before after (Fault Output) =
    FrontOfLimit shows parts before after ⊎ LinesStop own parts before after stops.Output
AnswersMean own shows parts before after (Fault (Store name)) =
    (texts : List Text) × AreStored own shows parts texts × StopsAtText texts name before after
AnswersMean own shows parts before after Memory =
    IsUnchanged before after
    ⊎ (((texts : List Text) × AreStored own shows parts texts × StoresFirst texts before after)
    ⊎ LinesStop own parts before after stops.Memory)
AnswersMean own shows parts before after _ = ⊥
