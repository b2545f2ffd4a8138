-- What a run of `wordreduce` by the presentation's relations means by its status.
use Rattle.std.specs.Prelude.{ℕ, ◌⊎◌, List}
use Rattle.kb_io.specs.Outside.{Outside, IsUnchanged}
use Rattle.kb_word.specs.Presentations.{PresentationParts}
use Rattle.kb_task.specs.Effects.{Writes, WritesFront}
use Rattle.kb_task.specs.Loads.{EndsAtLoad}
use Rattle.kb_task.specs.Presentations.{HoldsPresentation, IsPresentationFault}
use Rattle.kb_task.specs.declared.status.Cert.TheVariants.{NotConfluent}
use Rattle.kb_task.specs.declared.status.Refusal.TheVariants.{Line, InputTooLong}
use Rattle.kb_task.specs.declared.status.Status.{Status}
use Rattle.kb_task.specs.declared.status.Status.TheVariants.{Yes, Refused, No, Memory, Fault}
use Rattle.kb_task.specs.declared.status.Which.TheVariants.{Input, Output}
use Rattle.kb_lines.specs.Streams.{Streams, streams}
use Rattle.kb_lines.specs.Answered.{AllAnswered, Stops}
use Rattle.kb_lines.specs.declared.stop.Stop.{Stop}
use Rattle.kb_lines.specs.declared.stop.Stop.TheVariants as stops
use Rattle.kb_cmd_words.specs.Confluence.{IsLeastIn, OrientedAreConfluent, OrientedAreNotConfluent, no_line}

-- nothing is stored
abbrev pub StoresNothing : List ℕ → Type 0
StoresNothing name = ⊥

-- the input and the output at one moment
abbrev pub streams_of : Outside → Streams
streams_of moment = streams moment.input moment.output

-- the oriented relations are confluent, and the answers to the word lines stopped so
abbrev pub LinesStop : PresentationParts → Outside → Outside → Stop → Type 0
LinesStop parts before after stop =
    OrientedAreConfluent parts
    × Stops parts (IsLeastIn parts) (streams_of before) (streams_of after) stop

-- a front of the line that a no writes was written
pub record FrontOfNo (parts : PresentationParts) (before after : Outside) : Type 0 where
  pub u : List ℕ
  pub v : List ℕ
  pub not_confluent : OrientedAreNotConfluent parts u v
  pub front : WritesFront (no_line parts.names u v) before after

-- What each status means once the file has been read as this presentation.
abbrev pub AnswersMean : PresentationParts → Outside → Outside → Status → Type 0
AnswersMean parts before after Yes =
    OrientedAreConfluent parts
    × AllAnswered parts (IsLeastIn parts) (streams_of before) (streams_of after)
AnswersMean parts before after (No (NotConfluent u v)) =
    OrientedAreNotConfluent parts u v × Writes (no_line parts.names u v) before after
AnswersMean parts before after (Refused (Line number fault)) =
    LinesStop parts before after (stops.Refused number fault)
AnswersMean parts before after (Refused InputTooLong) = LinesStop parts before after stops.TooLong
AnswersMean parts before after (Fault Input) = LinesStop parts before after stops.Input
AnswersMean parts before after (Fault Output) =
    FrontOfNo parts before after ⊎ LinesStop parts before after stops.Output
AnswersMean parts before after Memory =
    IsUnchanged before after ⊎ LinesStop parts before after stops.Memory
AnswersMean parts before after _ = ⊥

-- What each status means: the run ended at the load of the file, or the file holds a presentation.
abbrev pub ByRelationsMean : List ℕ → Outside → Outside → Status → Type 0
ByRelationsMean file before after status =
    (EndsAtLoad (IsPresentationFault before.shelf.holds file) file status
    × IsUnchanged before after)
    ⊎ ((parts : PresentationParts) × HoldsPresentation before.shelf.holds file parts
    × AnswersMean parts before after status)
