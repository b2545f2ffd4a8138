-- What was answered when the reading of word lines ended.
use Rattle.std.specs.Prelude.{◌≡◌, ℕ, ◌<◌, ◌≤◌, List, [], ◌∷◌, ◌++◌, length, take}
use Rattle.std.specs.List.{AllByRecursion}
use Rattle.kb_io.specs.Bytes.{newline}
use Rattle.kb_word.specs.Presentations.{PresentationParts}
use Rattle.kb_record.specs.declared.error.WordError.{WordError}
use Rattle.kb_lines.specs.WordLines.{most_input, IsOneLine, ended, Cuts, LinesGive, IsFirstRefused}
use Rattle.kb_lines.specs.Streams.{Streams, Takes, Sends}
use Rattle.kb_lines.specs.declared.stop.Stop.{Stop}
use Rattle.kb_lines.specs.declared.stop.Stop.TheVariants.{Refused, TooLong, Input, Output, Memory}

-- the input was read to its end, it is no longer than may be, and each line of it was answered
pub record AllAnswered (parts : PresentationParts) (Answers : List ℕ → List ℕ → Type 0)
    (before after : Streams) : Type 0 where
  pub ended : after.input.left ≡ []
  pub short : length before.input.left ≤ most_input
  pub lines : List (List ℕ)
  pub last : List ℕ
  pub cuts : Cuts before.input.left lines last
  pub given : List ℕ
  pub answered : LinesGive parts Answers (lines ++ last ∷ []) given
  pub sent : Sends given before after

-- all lines that end within these bytes were answered, and nothing else
pub record EndedAnswered (parts : PresentationParts)
    (Answers : List ℕ → List ℕ → Type 0) (bytes : List ℕ)
    (before after : Streams) : Type 0 where
  pub lines : List (List ℕ)
  pub rest : List ℕ
  pub cuts : Cuts bytes lines rest
  pub given : List ℕ
  pub answered : LinesGive parts Answers lines given
  pub sent : Sends given before after

-- a front of what lines at the front of the input give was sent
pub record FrontAnswered (parts : PresentationParts) (Answers : List ℕ → List ℕ → Type 0)
    (before after : Streams) : Type 0 where
  pub lines : List (List ℕ)
  pub each : AllByRecursion IsOneLine lines
  pub rest : List ℕ
  pub at_front : before.input.left ++ newline ∷ [] ≡ ended lines ++ rest
  pub given : List ℕ
  pub answered : LinesGive parts Answers lines given
  pub sent : List ℕ
  pub unsent : List ℕ
  pub front : given ≡ sent ++ unsent
  pub sends : Sends sent before after

-- the line of this number is the first that is refused, it was taken, and the lines before it were answered
pub record RefusedAt (parts : PresentationParts) (Answers : List ℕ → List ℕ → Type 0) (number : ℕ)
    (fault : WordError)
    (taken : List ℕ) (before after : Streams) : Type 0 where
  pub refused : IsFirstRefused parts Answers before.input.left number fault
  pub seen : length (ended refused.lines ++ refused.line) ≤ length taken
  pub sent : Sends refused.given before after

-- What is true after each stop, where these bytes were taken.
abbrev pub StopMeans : PresentationParts → (List ℕ → List ℕ → Type 0) → List ℕ → Streams → Streams
    → Stop → Type 0
StopMeans parts Answers taken before after (Refused number fault) =
    RefusedAt parts Answers number fault taken before after
StopMeans parts Answers taken before after TooLong =
    (most_input < length taken)
    × EndedAnswered parts Answers (take most_input before.input.left) before after
StopMeans parts Answers taken before after Input =
    (length taken ≤ most_input) × EndedAnswered parts Answers taken before after
StopMeans parts Answers taken before after Output = FrontAnswered parts Answers before after
StopMeans parts Answers taken before after Memory = FrontAnswered parts Answers before after

-- what is true after a stop: these bytes were taken of the input, the others are left, and what was answered
pub record Stops (parts : PresentationParts) (Answers : List ℕ → List ℕ → Type 0)
    (before after : Streams)
    (stop : Stop) : Type 0 where
  pub taken : List ℕ
  pub takes : Takes taken before after
  pub means : StopMeans parts Answers taken before after stop

-- where the stop is a failure of the input or of the output, it is counted
abbrev pub StopIsCounted : Streams → Streams → Stop → Type 0
StopIsCounted before after Input = before.input.faults < after.input.faults
StopIsCounted before after Output = before.output.faults < after.output.faults
StopIsCounted before after (Refused number fault) = Unit {0}
StopIsCounted before after TooLong = Unit {0}
StopIsCounted before after Memory = Unit {0}
