-- The line that has begun and the answers that aren't sent yet, and how they go on.
use Rattle.std.specs.Prelude.{◌≡◌, ◌⊎◌, ℕ, suc, ◌+◌, ◌<◌, List, [], ◌∷◌, ◌++◌, length, IsTrue}
use Rattle.std.specs.List.{AllByRecursion}
use Rattle.kb_io.specs.Bytes.{newline}
use Rattle.kb_io.specs.States.{SinkState}
use Rattle.kb_word.specs.Presentations.{PresentationParts}
use Rattle.kb_record.specs.declared.error.WordError.{WordError}
use Rattle.kb_lines.specs.WordLines.{IsOneLine, ended, LineGives, LineHasFault, LinesGive}
use Rattle.kb_lines.specs.declared.progress.Progress.{Progress}
use Rattle.kb_lines.specs.declared.stop.Stop.{Stop}
use Rattle.kb_lines.specs.declared.stop.Stop.TheVariants.{Refused, Output, Memory}

-- no line has begun, and nothing is pending
pub record IsFresh (progress : Progress) : Type 0 where
  pub line : progress.line.items ≡ []
  pub pending : progress.pending.items ≡ []
  pub number : progress.number ≡ 0

-- fewer bytes of answers than this are pending behind each line or block of lines that was answered
abbrev pub most_pending : ℕ
most_pending = 65536

-- All that was answered was sent, and what is held is at most a line that has begun: so each line that ended was
-- answered. Only then is more of the input asked for.
pub record IsCaughtUp (progress : Progress) : Type 0 where
  pub sent : progress.pending.items ≡ []
  pub open_line : IsOneLine progress.line.items

-- the sink tells its bytes, and what has come of the next line has no newline
pub record IsReady (progress : Progress) (sink : SinkState) : Type 0 where
  pub told : IsTrue sink.told
  pub open_line : IsOneLine progress.line.items

-- these bytes were added behind those that were pending; a front of both was sent, and the others are pending
pub record PendingGoesOn (given pending pending' : List ℕ) (before after : SinkState) : Type 0 where
  pub sent : List ℕ
  pub appended : after.written ≡ before.written ++ sent
  pub held : pending ++ given ≡ sent ++ pending'

-- the line was answered, and no other has begun
pub record LineEnds (parts : PresentationParts) (Answers : List ℕ → List ℕ → Type 0)
    (line : List ℕ) (old new : Progress)
    (before after : SinkState) : Type 0 where
  pub given : List ℕ
  pub answered : LineGives parts Answers line given
  pub fresh : new.line.items ≡ []
  pub number : new.number ≡ old.number + 1
  pub pending : PendingGoesOn given old.pending.items new.pending.items before after

-- a front of what was pending was sent, with what the line gives behind it or without that
pub record LineFront (parts : PresentationParts) (Answers : List ℕ → List ℕ → Type 0)
    (line pending : List ℕ) (before after : SinkState) : Type 0 where
  pub given : List ℕ
  pub answered : (given ≡ []) ⊎ LineGives parts Answers line given
  pub unsent : List ℕ
  pub goes_on : PendingGoesOn given pending unsent before after

-- the line behind so many others is refused, and what was pending was sent
pub record LineRefused (parts : PresentationParts) (line : List ℕ) (others : ℕ) (pending : List ℕ)
    (before after : SinkState) (number : ℕ) (fault : WordError) : Type 0 where
  pub counted : number ≡ others + 1
  pub faulty : LineHasFault parts line fault
  pub sent : after.written ≡ before.written ++ pending

-- what is true where the line behind so many others stops the answers
abbrev pub LineStops : PresentationParts → (List ℕ → List ℕ → Type 0) → List ℕ → ℕ → List ℕ
    → SinkState → SinkState → Stop → Type 0
LineStops parts Answers line others pending before after (Refused number fault) =
    LineRefused parts line others pending before after number fault
LineStops parts Answers line others pending before after Output =
    LineFront parts Answers line pending before after
LineStops parts Answers line others pending before after Memory =
    LineFront parts Answers line pending before after
LineStops parts Answers line others pending before after _ = ⊥

-- of these bytes, which go on with the line that had begun, the rest is still to come: each line that ended before it
-- was answered
pub record Advances (parts : PresentationParts) (Answers : List ℕ → List ℕ → Type 0)
    (bytes rest : List ℕ)
    (old new : Progress) (before after : SinkState) : Type 0 where
  pub lines : List (List ℕ)
  pub whole : old.line.items ++ bytes ≡ ended lines ++ (new.line.items ++ rest)
  pub each : AllByRecursion IsOneLine lines
  pub open_line : IsOneLine new.line.items
  pub number : new.number ≡ old.number + length lines
  pub given : List ℕ
  pub answered : LinesGive parts Answers lines given
  pub pending : PendingGoesOn given old.pending.items new.pending.items before after

-- a front was sent of what was pending, and of what lines at the front of the bytes give
pub record FrontIn (parts : PresentationParts) (Answers : List ℕ → List ℕ → Type 0)
    (bytes : List ℕ) (old : Progress)
    (before after : SinkState) : Type 0 where
  pub lines : List (List ℕ)
  pub each : AllByRecursion IsOneLine lines
  pub rest : List ℕ
  pub at_front : old.line.items ++ bytes ≡ ended lines ++ rest
  pub given : List ℕ
  pub answered : LinesGive parts Answers lines given
  pub unsent : List ℕ
  pub pending : PendingGoesOn given old.pending.items unsent before after

-- a line that ends within the bytes is refused, and all before it was answered and sent
pub record RefusesIn (parts : PresentationParts) (Answers : List ℕ → List ℕ → Type 0)
    (bytes : List ℕ) (old : Progress)
    (before after : SinkState) (number : ℕ) (fault : WordError) : Type 0 where
  pub lines : List (List ℕ)
  pub line : List ℕ
  pub behind : List ℕ
  pub whole : old.line.items ++ bytes ≡ (ended lines ++ line) ++ newline ∷ behind
  pub each : AllByRecursion IsOneLine lines
  pub one : IsOneLine line
  pub counted : number ≡ old.number + suc (length lines)
  pub given : List ℕ
  pub answered : LinesGive parts Answers lines given
  pub faulty : LineHasFault parts line fault
  pub sent : after.written ≡ before.written ++ (old.pending.items ++ given)

-- what is true where a line among the bytes stops the answers
abbrev pub StopsIn : PresentationParts → (List ℕ → List ℕ → Type 0) → List ℕ → Progress → SinkState
    → SinkState
    → Stop → Type 0
StopsIn parts Answers bytes old before after (Refused number fault) =
    RefusesIn parts Answers bytes old before after number fault
StopsIn parts Answers bytes old before after Output = FrontIn parts Answers bytes old before after
StopsIn parts Answers bytes old before after Memory = FrontIn parts Answers bytes old before after
StopsIn parts Answers bytes old before after _ = ⊥

-- lines stop by a fault of a line, by a failure of the output, which is counted, or for want of memory
abbrev pub LineStopIsCounted : SinkState → SinkState → Stop → Type 0
LineStopIsCounted before after Output = before.faults < after.faults
LineStopIsCounted before after (Refused number fault) = Unit {0}
LineStopIsCounted before after Memory = Unit {0}
LineStopIsCounted before after _ = ⊥
