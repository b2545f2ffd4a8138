-- Logs as they are printed.
use Rattle.std.specs.Prelude.{ℕ, ◌+◌, List, [], ◌∷◌, ◌++◌, map, codes, decimal, Option, None, Some}
use Rattle.std.specs.List.{join_with_byte}
use Rattle.kb_word.specs.Printed.{text_of_word}
use Rattle.kb_machine.specs.declared.line.Line.{Line}
use Rattle.kb_machine.specs.declared.line.LogStep.{LogStep}
use Rattle.kb_machine.specs.declared.origin.Origin.{Origin}
use Rattle.kb_machine.specs.declared.origin.Origin.TheVariants.{Relation, Overlap, Killed, Shortened}
use Rattle.kb_proof.specs.declared.log.Log.{Log}
use Rattle.kb_proof.specs.declared.log.Version.{Version}
use Rattle.kb_proof.specs.declared.log.Version.TheVariants.{One, Two}

-- where a line comes from: a letter for the kind, and the numbers joined by commas
abbrev pub text_of_origin : Origin → List ℕ
text_of_origin (Relation k) = codes "R" ++ decimal k
text_of_origin (Overlap first second place) =
    codes "M" ++ join_with_byte 44 (decimal first ∷ decimal second ∷ decimal place ∷ [])
text_of_origin (Killed k) = codes "K" ++ decimal k
text_of_origin (Shortened k) = codes "S" ++ decimal k

-- the place and the line's number, joined by `/`
abbrev pub text_of_step : LogStep → List ℕ
text_of_step step = join_with_byte 47 (decimal step.place ∷ decimal step.line ∷ [])

-- `-`, or the steps joined by commas
abbrev pub text_of_steps : List LogStep → List ℕ
text_of_steps [] = codes "-"
text_of_steps (step ∷ steps) = join_with_byte 44 (map text_of_step (step ∷ steps))

-- both derivations, each behind a colon between blanks
abbrev pub derivations_text : List LogStep → List LogStep → List ℕ
derivations_text first second =
    codes " : " ++ text_of_steps first ++ codes " : " ++ text_of_steps second

-- the fields of a line behind its number, each as its text
pub record FieldTexts : Type 0 where
  pub origin : List ℕ
  pub left : List ℕ
  pub right : List ℕ
  pub first : List ℕ
  pub second : List ℕ

abbrev pub field_texts : List (List ℕ) → Line → FieldTexts
field_texts names line = record {
  origin = text_of_origin line.origin;
  left = text_of_word names line.left;
  right = text_of_word names line.right;
  first = text_of_steps line.first_steps.items;
  second = text_of_steps line.second_steps.items;
}

-- the fields in their order, with a sign between the sides, and the derivations in version 2 only
abbrev pub listed : Version → List ℕ → FieldTexts → List (List ℕ)
listed One sign texts = texts.origin ∷ texts.left ∷ sign ∷ texts.right ∷ []
listed Two sign texts =
    texts.origin ∷ texts.left ∷ sign ∷ texts.right ∷ codes ":" ∷ texts.first ∷ codes ":"
    ∷ texts.second ∷ []

-- what stands behind the number or the word `open`
abbrev pub text_of_fields : Version → List (List ℕ) → List ℕ → Line → List ℕ
text_of_fields version names sign line =
    join_with_byte 32 (listed version sign (field_texts names line))

-- the line with number k, without its newline: the number and the fields, with blanks between them
abbrev pub text_of_line : Version → List (List ℕ) → ℕ → Line → List ℕ
text_of_line version names k line =
    join_with_byte 32 (decimal k ∷ listed version (codes "->") (field_texts names line))

-- the line of the pair that waits, without its newline
abbrev pub text_of_open : Version → List (List ℕ) → Line → List ℕ
text_of_open version names line =
    join_with_byte 32 (codes "open" ∷ listed version (codes "<>") (field_texts names line))

-- lines, the first of which has number k, each with a newline
abbrev pub text_of_lines : Version → List (List ℕ) → ℕ → List Line → List ℕ
text_of_lines version names k [] = []
text_of_lines version names k (line ∷ lines) =
    text_of_line version names k line ++ 10 ∷ text_of_lines version names (k + 1) lines

-- the last line, if a pair waits
abbrev pub text_of_waiting : Version → List (List ℕ) → Option Line → List ℕ
text_of_waiting version names None = []
text_of_waiting version names (Some line) = text_of_open version names line ++ 10 ∷ []

-- the first line, with its newline
abbrev pub header : Version → List ℕ
header One = codes "kblog 1\n"
header Two = codes "kblog 2\n"

-- what stands behind the first line
abbrev pub text_of_body : Version → List (List ℕ) → List Line → Option Line → List ℕ
text_of_body version names lines waiting =
    text_of_lines version names 1 lines ++ text_of_waiting version names waiting

-- the log as it is printed
abbrev pub text_of_log : List (List ℕ) → Log → List ℕ
text_of_log names log =
    header log.version ++ text_of_body log.version names log.lines.items log.waiting
