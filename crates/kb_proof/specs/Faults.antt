-- What the refusals of a log mean.
use Rattle.std.specs.Prelude.{◌≡◌, ◌≢◌, ℕ, ◌+◌, ◌<◌, ◌≤◌, ◌⊎◌, ℤ, pos, List, [], ◌∷◌, ◌++◌, length, All, codes}
use Rattle.std.specs.List.{AllByRecursion}
use Rattle.kb_lexing.specs.Spelling.{IsDigit, IsNumber}
use Rattle.kb_machine.specs.declared.line.Line.{Line}
use Rattle.kb_proof.specs.Printed.{text_of_line, text_of_open, text_of_lines, header}
use Rattle.kb_proof.specs.Printable.{IsPrintableLine}
use Rattle.kb_proof.specs.declared.log.Version.{Version}
use Rattle.kb_proof.specs.declared.error.LogError.{LogError}
use Rattle.kb_proof.specs.declared.error.LogError.TheVariants as errors

-- the first line of the bytes, up to a newline or the end
pub record IsFirstLine (bytes line : List ℕ) : Type 0 where
  pub whole : All (λ b. b ≢ 10) line
  pub ends : (bytes ≡ line) ⊎ ((rest : List ℕ) × (bytes ≡ line ++ 10 ∷ rest))

-- 1 to 18 digits
pub record AreFewDigits (digits : List ℕ) : Type 0 where
  pub some : 0 < length digits
  pub few : length digits ≤ 18
  pub each : AllByRecursion IsDigit digits

-- the number is that of a version that there isn't
pub record IsOtherVersion (number : List ℕ) : Type 0 where
  pub value : ℤ
  pub spelled : IsNumber number value
  pub not_one : value ≢ pos 1
  pub not_two : value ≢ pos 2

-- the first line is `kblog` and the number of another version
abbrev pub NamesOtherVersion : List ℕ → Type 0
NamesOtherVersion bytes =
    (number : List ℕ) × IsFirstLine bytes (codes "kblog " ++ number) × IsOtherVersion number

-- the first line is neither a header nor one of another version
pub record IsWrongHeader (bytes : List ℕ) : Type 0 where
  pub no_header : (version : Version) (body : List ℕ) → bytes ≢ header version ++ body
  pub no_other : ¬ NamesOtherVersion bytes

-- the first line of the rest is neither the printed line with number k nor that of a pair that waits
pub record BeginsWrong (version : Version) (names : List (List ℕ)) (k : ℕ)
    (rest : List ℕ) : Type 0 where
  pub some : rest ≢ []
  pub no_line : (line : Line) (more : List ℕ) → IsPrintableLine version names line
      → rest ≢ text_of_line version names k line ++ 10 ∷ more
  pub no_open : (line : Line) (more : List ℕ) → IsPrintableLine version names line
      → rest ≢ text_of_open version names line ++ 10 ∷ more

-- something stands behind the line of a pair that waits
pub record GoesOnPastOpen (version : Version) (names : List (List ℕ)) (rest : List ℕ) : Type 0 where
  pub line : Line
  pub more : List ℕ
  pub printable : IsPrintableLine version names line
  pub is_open : rest ≡ text_of_open version names line ++ 10 ∷ more
  pub some : more ≢ []

-- behind these printed lines a line is wrong, which has this number in the file; the header is the file's line 1
abbrev pub IsWrongBehind : Version → List (List ℕ) → List Line → List ℕ → ℕ → Type 0
IsWrongBehind version names lines rest number =
    (BeginsWrong version names (length lines + 1) rest × (number ≡ length lines + 2))
    ⊎ (GoesOnPastOpen version names rest × (number ≡ length lines + 3))

-- the first line behind the header that is not as it would be printed has this number in the file
pub record IsWrongBody (version : Version) (names : List (List ℕ)) (body : List ℕ)
    (number : ℕ) : Type 0 where
  pub lines : List Line
  pub rest : List ℕ
  pub printable : All (IsPrintableLine version names) lines
  pub whole : body ≡ text_of_lines version names 1 lines ++ rest
  pub wrong : IsWrongBehind version names lines rest number

-- the bytes have a header, and behind it a first line that is wrong
abbrev pub IsWrongBehindHeader : List (List ℕ) → List ℕ → ℕ → Type 0
IsWrongBehindHeader names bytes number =
    (version : Version) × (body : List ℕ) × (bytes ≡ header version ++ body)
    × IsWrongBody version names body number

-- the first line that is not as it would be printed is that with this number
abbrev pub IsWrongAt : List (List ℕ) → List ℕ → ℕ → Type 0
IsWrongAt names bytes number =
    (IsWrongHeader bytes × (number ≡ 1)) ⊎ IsWrongBehindHeader names bytes number

-- the first line has the fault that a refusal names
abbrev pub HasHeaderFault : List ℕ → LogError → Type 0
HasHeaderFault bytes errors.Version = NamesOtherVersion bytes
HasHeaderFault bytes (errors.Syntax line) = IsWrongHeader bytes × (line ≡ 1)
HasHeaderFault bytes errors.Memory = ⊥

-- what stands behind the header has the fault that a refusal names
abbrev pub HasBodyFault : Version → List (List ℕ) → List ℕ → LogError → Type 0
HasBodyFault version names body errors.Version = ⊥
HasBodyFault version names body (errors.Syntax line) = IsWrongBody version names body line
HasBodyFault version names body errors.Memory = Unit {0}

-- the bytes have the fault that a refusal names
abbrev pub HasLogFault : List (List ℕ) → List ℕ → LogError → Type 0
HasLogFault names bytes errors.Version = NamesOtherVersion bytes
HasLogFault names bytes (errors.Syntax line) = IsWrongAt names bytes line
HasLogFault names bytes errors.Memory = Unit {0}
