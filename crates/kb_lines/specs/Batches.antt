-- Lines that are taken, and then answered together.
use Rattle.std.specs.Prelude.{◌≡◌, ℕ, ◌+◌, ◌<◌, ◌≤◌, nat_eq, if◌then◌else◌, List, [], ◌∷◌, ◌++◌, length, get_or}
use Rattle.std.specs.List.{AllByRecursion}
use Rattle.kb_draw.specs.Made.{AreMadeInOrder}
use Rattle.kb_io.specs.Bytes.{newline}
use Rattle.kb_io.specs.States.{SinkState}
use Rattle.kb_word.specs.Presentations.{PresentationParts}
use Rattle.kb_record.specs.declared.error.WordError.{WordError}
use Rattle.kb_lines.specs.WordLines.{IsOneLine, ended, Cuts, LinesGive, LineHasFault}
use Rattle.kb_lines.specs.Progress.{IsFresh, IsCaughtUp, Advances}
use Rattle.kb_lines.specs.Streams.{Streams, Takes}
use Rattle.kb_lines.specs.declared.batch.Batch.{Batch}
use Rattle.kb_lines.specs.declared.progress.Progress.{Progress}
use Rattle.kb_lines.specs.declared.together.BlockAnswer.{BlockAnswer}
use Rattle.kb_lines.specs.declared.together.BlockAnswer.TheVariants.{Given, Faulty}

-- the bytes are lines, each with its newline
pub record AreLines (bytes : List ℕ) : Type 0 where
  pub lines : List (List ℕ)
  pub cuts : Cuts bytes lines []

-- the blocks, one behind the other
abbrev pub joined : List (List ℕ) → List ℕ
joined [] = []
joined (block ∷ blocks) = block ++ joined blocks

-- the lines that end in the bytes are so many, and they give the text
pub record BlockGives (parts : PresentationParts) (Answers : List ℕ → List ℕ → Type 0)
    (bytes : List ℕ) (count : ℕ) (text : List ℕ) : Type 0 where
  pub lines : List (List ℕ)
  pub rest : List ℕ
  pub cuts : Cuts bytes lines rest
  pub counted : count ≡ length lines
  pub answered : LinesGive parts Answers lines text

-- so many lines at the front of the bytes give the text, and the line behind them is refused
pub record BlockRefused (parts : PresentationParts) (Answers : List ℕ → List ℕ → Type 0)
    (bytes : List ℕ) (count : ℕ) (text : List ℕ) (fault : WordError) : Type 0 where
  pub lines : List (List ℕ)
  pub line : List ℕ
  pub behind : List ℕ
  pub whole : bytes ≡ (ended lines ++ line) ++ newline ∷ behind
  pub each : AllByRecursion IsOneLine lines
  pub one : IsOneLine line
  pub counted : count ≡ length lines
  pub answered : LinesGive parts Answers lines text
  pub faulty : LineHasFault parts line fault

-- what the lines of the bytes give, up to the first that is refused
abbrev pub IsBlockAnswer : PresentationParts → (List ℕ → List ℕ → Type 0) → List ℕ → BlockAnswer
    → Type 0
IsBlockAnswer parts Answers bytes (Given count text) =
    BlockGives parts Answers bytes count text.items
IsBlockAnswer parts Answers bytes (Faulty count text fault) =
    BlockRefused parts Answers bytes count text.items fault

-- how many lines the answer speaks of
abbrev pub lines_in : BlockAnswer → ℕ
lines_in (Given count text) = count
lines_in (Faulty count text fault) = count + 1

-- each of the blocks has its answer, in their order
abbrev pub AreBlockAnswers : PresentationParts → (List ℕ → List ℕ → Type 0) → List (List ℕ)
    → List BlockAnswer → Type 0
AreBlockAnswers parts Answers blocks answers =
    AreMadeInOrder (length blocks)
    (λ place. IsBlockAnswer parts Answers (get_or blocks place [])) answers

-- the bytes of the lines that were taken
abbrev pub taken : Batch → List ℕ
taken batch = joined batch.blocks.items ++ batch.block.items

-- the bytes that are held: the lines that were taken, and what has come of the next line
abbrev pub held : Batch → List ℕ
held batch = taken batch ++ batch.line.items

-- how many newlines are among the bytes
abbrev pub newlines : List ℕ → ℕ
newlines [] = 0
newlines (byte ∷ bytes) = (if nat_eq byte newline then 1 else 0) + newlines bytes

-- how many lines were taken and aren't answered yet
abbrev pub lines_held : Batch → ℕ
lines_held batch = newlines (held batch)

-- All that was answered was sent, and fewer lines are held than make a batch: where that is one line, nothing is held
-- but the line that has begun. Only then is more of the input asked for.
pub record IsShortOfBatch (size : ℕ) (batch : Batch) : Type 0 where
  pub caught_up : IsCaughtUp batch.progress
  pub fewer : lines_held batch < size

-- nothing was taken yet
pub record IsNew (batch : Batch) : Type 0 where
  pub blocks : batch.blocks.items ≡ []
  pub block : batch.block.items ≡ []
  pub line : batch.line.items ≡ []
  pub count : batch.count ≡ 0
  pub progress : IsFresh batch.progress

-- what is held are lines, as many as are counted, and of the lines that were answered nothing is pending
pub record IsHeld (batch : Batch) : Type 0 where
  pub each : AllByRecursion AreLines batch.blocks.items
  pub few : length batch.blocks.items ≤ length (joined batch.blocks.items)
  pub open_block : AreLines batch.block.items
  pub open_line : IsOneLine batch.line.items
  pub counted : batch.count ≡ lines_held batch
  pub fresh : batch.progress.line.items ≡ []
  pub sent : batch.progress.pending.items ≡ []

-- as many bytes were taken at least: one for each line that was answered, and those that are held
abbrev pub least_taken : Batch → ℕ
least_taken batch = batch.progress.number + length (held batch)

-- of these bytes, which go on with those that were held, the rest is still to come: the lines in front of what is held
-- now were answered
pub record BatchAdvances (parts : PresentationParts) (Answers : List ℕ → List ℕ → Type 0)
    (bytes rest : List ℕ)
    (old new : Batch) (before after : SinkState) : Type 0 where
  pub answered : List ℕ
  pub whole : held old ++ bytes ≡ answered ++ (held new ++ rest)
  pub advances : Advances parts Answers answered [] old.progress new.progress before after

-- `count` bytes were taken, and the lines in front of those that are held were answered
pub record IsHolding (parts : PresentationParts) (Answers : List ℕ → List ℕ → Type 0)
    (before now : Streams)
    (batch : Batch) (count : ℕ) : Type 0 where
  pub answered : List ℕ
  pub takes : Takes (answered ++ held batch) before now
  pub counted : count ≡ length (answered ++ held batch)
  pub start : Progress
  pub fresh : IsFresh start
  pub advances : Advances parts Answers answered [] start batch.progress before.output now.output
