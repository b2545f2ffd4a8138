-- What settling a book does, and what it answers.
use Rattle.std.specs.Prelude.{◌≡◌, ◌≢◌, [], Some, None}
use Rattle.kb_machine.specs.Course.{Course}
use Rattle.kb_machine.specs.declared.halt.Halt.{Halt}
use Rattle.kb_book.specs.Answers.{IsCopyOf}
use Rattle.kb_share.specs.Later.{IsLater}
use Rattle.kb_share.specs.declared.settled.Settled.{Settled}
use Rattle.kb_share.specs.declared.settled.Settled.TheVariants as settled

-- a later stage at which no further version is published; overlaps may have become pending, to balance new lines
pub record Settles (before after : Course) : Type 0 where
  pub later : IsLater before after
  pub versions : after.state.versions ≡ before.state.versions

-- the course is halted, and this is a copy of its halt
pub record GivesHalt (course : Course) (halt : Halt) : Type 0 where
  pub own : Halt
  pub is : course.state.halt ≡ Some own
  pub copied : IsCopyOf own halt

-- what `settle` answers
abbrev pub SettleSays : Course → Course → Settled → Type 0
SettleSays before after settled.Nothing =
    (before.state.pending ≡ []) × (after ≡ before) × (after.state.halt ≡ None)
SettleSays before after settled.Done =
    (before.state.pending ≢ []) × (after.state.pending ≡ []) × (after.state.halt ≡ None)
SettleSays before after (settled.Halted halt) = (before.state.pending ≢ []) × GivesHalt after halt
