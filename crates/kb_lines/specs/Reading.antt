-- What has been read and answered between two reads.
use Rattle.std.specs.Prelude.{◌≡◌, ℕ, List, [], length}
use Rattle.kb_word.specs.Presentations.{PresentationParts}
use Rattle.kb_lines.specs.Progress.{IsFresh, Advances}
use Rattle.kb_lines.specs.Streams.{Streams, Takes}
use Rattle.kb_lines.specs.declared.progress.Progress.{Progress}

-- `count` bytes were taken, and the lines that ended among them were answered
pub record IsReading (parts : PresentationParts) (Answers : List ℕ → List ℕ → Type 0)
    (before now : Streams)
    (progress : Progress) (count : ℕ) : Type 0 where
  pub taken : List ℕ
  pub takes : Takes taken before now
  pub counted : count ≡ length taken
  pub start : Progress
  pub fresh : IsFresh start
  pub advances : Advances parts Answers taken [] start progress before.output now.output
