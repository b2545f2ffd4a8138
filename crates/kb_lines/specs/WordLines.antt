-- Lines of words, and the answers to them.
use Rattle.std.specs.Prelude.{◌≡◌, ◌≢◌, ℕ, suc, ◌<◌, ◌≤◌, List, [], ◌∷◌, ◌++◌, length, Ok}
use Rattle.std.specs.List.{AllByRecursion}
use Rattle.kb_io.specs.Bytes.{newline}
use Rattle.kb_word.specs.Presentations.{PresentationParts}
use Rattle.kb_word.specs.Printed.{text_of_word}
use Rattle.kb_lexing.specs.Spelling.{after_gap}
use Rattle.kb_record.specs.Faults.{Meaning, HasWordFault}
use Rattle.kb_record.specs.declared.error.WordError.{WordError}
use Rattle.kb_record.specs.declared.error.WordError.TheVariants as word_errors

-- the most bytes of word lines that are read
abbrev pub most_input : ℕ
most_input = 67108864

-- no byte is a newline
abbrev pub IsOneLine : List ℕ → Type 0
IsOneLine line = AllByRecursion (λ byte. byte ≢ newline) line

-- lines, each with the newline that ends it
abbrev pub ended : List (List ℕ) → List ℕ
ended [] = []
ended (line ∷ lines) = line ++ newline ∷ ended lines

-- the bytes are these lines, and what has come of the next one
pub record Cuts (bytes : List ℕ) (lines : List (List ℕ)) (rest : List ℕ) : Type 0 where
  pub whole : bytes ≡ ended lines ++ rest
  pub each : AllByRecursion IsOneLine lines
  pub open_line : IsOneLine rest

-- each word has one answer at most
abbrev pub IsFunction : (List ℕ → List ℕ → Type 0) → Type 0
IsFunction Answers = (w m n : List ℕ) → Answers w m → Answers w n → m ≡ n

-- A line of blanks and comment alone gives nothing. Another line that is a word gives the word that answers it, and a
-- newline.
pub data LineGives (parts : PresentationParts) (Answers : List ℕ → List ℕ → Type 0)
    (line : List ℕ) : List ℕ
    → Type 0 where
  blank : after_gap line ≡ [] → LineGives parts Answers line []
  word : {w m : List ℕ} → after_gap line ≢ [] → Meaning line parts.names parts.inverses (Ok w)
      → Answers w m
      → LineGives parts Answers line (text_of_word parts.names m ++ newline ∷ [])

-- the line isn't blank, and has the fault
pub record LineHasFault (parts : PresentationParts) (line : List ℕ)
    (fault : WordError) : Type 0 where
  pub not_blank : after_gap line ≢ []
  pub faulty : HasWordFault line parts.names parts.inverses fault
  pub named : fault ≢ word_errors.Memory

-- what the lines give, in order
abbrev pub LinesGive : PresentationParts → (List ℕ → List ℕ → Type 0) → List (List ℕ) → List ℕ
    → Type 0
LinesGive parts Answers [] given = given ≡ []
LinesGive parts Answers (line ∷ lines) given =
    (first : List ℕ) × (others : List ℕ) × LineGives parts Answers line first
    × LinesGive parts Answers lines others
    × (given ≡ first ++ others)

-- the line that begins after `front` ends within the first `most` bytes: at its newline, or at the end of the input
abbrev pub EndsWithin : ℕ → List ℕ → List ℕ → Type 0
EndsWithin most front [] = length front ≤ most
EndsWithin most front (byte ∷ bytes) = (byte ≡ newline) × (length front < most)

-- Of the input the line of this number is the first that is refused: it has the fault, each line before it gives its
-- answer, and it ends within the bytes that may be read.
pub record IsFirstRefused (parts : PresentationParts)
    (Answers : List ℕ → List ℕ → Type 0) (input : List ℕ)
    (number : ℕ) (fault : WordError) : Type 0 where
  pub lines : List (List ℕ)
  pub line : List ℕ
  pub behind : List ℕ
  pub whole : input ≡ (ended lines ++ line) ++ behind
  pub each : AllByRecursion IsOneLine lines
  pub one : IsOneLine line
  pub ends : EndsWithin most_input (ended lines ++ line) behind
  pub counted : number ≡ suc (length lines)
  pub given : List ℕ
  pub answered : LinesGive parts Answers lines given
  pub faulty : LineHasFault parts line fault

-- what the line gives was added to what was pending
pub record AddsGiven (parts : PresentationParts) (Answers : List ℕ → List ℕ → Type 0)
    (line pending pending' : List ℕ) : Type 0 where
  pub given : List ℕ
  pub gives : LineGives parts Answers line given
  pub added : pending' ≡ pending ++ given
