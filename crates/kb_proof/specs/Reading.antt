-- What it means to read the text of a value exactly.
use Rattle.std.specs.Prelude.{◌≡◌, ◌≢◌, ℕ, ◌≤◌, ◌==◌, List, [], ◌∷◌, ◌++◌, map, All, Option, None, Some}
use Rattle.std.specs.List.{AllByRecursion, join_with_byte, slice_split}
use Rattle.kb_machine.specs.declared.origin.Origin.{Origin}
use Rattle.kb_machine.specs.declared.origin.Origin.TheVariants.{Overlap}
use Rattle.kb_machine.specs.declared.line.Line.{Line}
use Rattle.kb_proof.specs.Printed.{FieldTexts, field_texts, listed, text_of_origin, text_of_body}
use Rattle.kb_proof.specs.Printable.{FitsOrigin, FitsLine, IsPrintable, IsPrintableLine}
use Rattle.kb_proof.specs.declared.fields.Fields.{Fields}
use Rattle.kb_proof.specs.declared.log.Log.{Log}
use Rattle.kb_proof.specs.declared.log.Version.{Version}
use Rattle.kb_proof.specs.declared.log.Version.TheVariants.{One, Two}

-- the value whose text the bytes are, among those that fit, and none exactly where there is no such value
abbrev pub Reads : {T : Type 0} → (T → List ℕ) → (T → Type 0) → List ℕ → Option T → Type 0
Reads {T} text Fits bytes None = (value : T) → Fits value → bytes ≢ text value
Reads text Fits bytes (Some value) = (bytes ≡ text value) × Fits value

-- the values, one at least, whose texts with a byte between them the bytes are
abbrev pub ReadsJoined : {T : Type 0} → ℕ → (T → List ℕ) → (T → Type 0) → List ℕ → Option (List T)
    → Type 0
ReadsJoined {T} byte text Fits bytes None =
    (value : T) (values : List T) → All Fits (value ∷ values)
    → bytes ≢ join_with_byte byte (map text (value ∷ values))
ReadsJoined byte text Fits bytes (Some values) =
    (bytes ≡ join_with_byte byte (map text values)) × All Fits values × (values ≢ [])

-- each byte is at least so large
abbrev pub AllFrom : ℕ → List ℕ → Type 0
AllFrom least bytes = AllByRecursion (λ b. least ≤ b) bytes

-- the parts between the places of a byte
abbrev pub parts : ℕ → List ℕ → List (List ℕ)
parts byte bytes = slice_split (λ b. b == byte) bytes

-- the bytes cut at the first place of a byte
pub record CutAt (byte : ℕ) (bytes front back : List ℕ) : Type 0 where
  pub whole : bytes ≡ front ++ byte ∷ back
  pub first : parts byte bytes ≡ front ∷ parts byte back
  pub alone : parts byte front ≡ front ∷ []

-- the overlap whose numbers the bytes are, with commas between them
abbrev pub ReadsOverlap : List ℕ → Option Origin → Type 0
ReadsOverlap bytes None =
    (first second place : ℕ) → FitsOrigin (Overlap first second place)
    → 77 ∷ bytes ≢ text_of_origin (Overlap first second place)
ReadsOverlap bytes (Some origin) = (77 ∷ bytes ≡ text_of_origin origin) × FitsOrigin origin

-- the texts that the fields are
abbrev pub texts_in : Fields → FieldTexts
texts_in fields = record {
  origin = fields.origin.now;
  left = fields.left.now;
  right = fields.right.now;
  first = fields.first.now;
  second = fields.second.now;
}

-- none of the texts has a blank
pub record HaveNoBlanks (texts : FieldTexts) : Type 0 where
  pub origin : parts 32 texts.origin ≡ texts.origin ∷ []
  pub left : parts 32 texts.left ≡ texts.left ∷ []
  pub right : parts 32 texts.right ≡ texts.right ∷ []
  pub first : parts 32 texts.first ≡ texts.first ∷ []
  pub second : parts 32 texts.second ≡ texts.second ∷ []

-- in version 1 the derivations have no steps
abbrev pub HaveNoSteps : Version → List ℕ → List ℕ → Type 0
HaveNoSteps One first second = (first ≡ 45 ∷ []) × (second ≡ 45 ∷ [])
HaveNoSteps Two first second = Unit {0}

-- the parts of the bytes between blanks are the right side and, in version 2, the derivations behind colons
abbrev pub IsListBehindSides : Version → List (List ℕ) → List ℕ → List ℕ → List ℕ → Type 0
IsListBehindSides One list right first second = list ≡ right ∷ []
IsListBehindSides Two list right first second =
    list ≡ right ∷ (58 ∷ []) ∷ first ∷ (58 ∷ []) ∷ second ∷ []

-- behind a colon and a blank stands the first part, up to a blank and the rest
pub record IsCutBehindColon (bytes first rest : List ℕ) : Type 0 where
  pub whole : parts 32 bytes ≡ (58 ∷ []) ∷ first ∷ parts 32 rest
  pub alone : parts 32 first ≡ first ∷ []

-- the bytes are the right side and the derivations of a line
pub record AreBehindSides (version : Version) (bytes right first second : List ℕ) : Type 0 where
  pub whole : IsListBehindSides version (parts 32 bytes) right first second
  pub right_alone : parts 32 right ≡ right ∷ []
  pub first_alone : parts 32 first ≡ first ∷ []
  pub second_alone : parts 32 second ≡ second ∷ []
  pub no_steps : HaveNoSteps version first second

-- the bytes are these fields of a line
pub record AreFields (version : Version) (sign bytes : List ℕ) (texts : FieldTexts) : Type 0 where
  pub whole : parts 32 bytes ≡ listed version sign texts
  pub no_blanks : HaveNoBlanks texts
  pub no_steps : HaveNoSteps version texts.first texts.second

-- the fields are the texts of the line's parts
pub record AreTextsOf (names : List (List ℕ)) (texts : FieldTexts) (line : Line) : Type 0 where
  pub origin : texts.origin ≡ (field_texts names line).origin
  pub left : texts.left ≡ (field_texts names line).left
  pub right : texts.right ≡ (field_texts names line).right
  pub first : texts.first ≡ (field_texts names line).first
  pub second : texts.second ≡ (field_texts names line).second

-- the line of which these are the texts, and none exactly where there is no such line
abbrev pub ReadsFields : List (List ℕ) → FieldTexts → Option Line → Type 0
ReadsFields names texts None = (line : Line) → FitsLine names line → ¬ AreTextsOf names texts line
ReadsFields names texts (Some line) = AreTextsOf names texts line × FitsLine names line

-- the printable line that stands first in the bytes, with its newline, and what stands behind it
pub record StandsFirst (version : Version) (names : List (List ℕ)) (text : Line → List ℕ)
    (bytes : List ℕ) (line : Line) (rest : List ℕ) : Type 0 where
  pub whole : bytes ≡ text line ++ 10 ∷ rest
  pub printable : IsPrintableLine version names line

-- no printable line stands first in the bytes
abbrev pub NoneStandsFirst : Version → List (List ℕ) → (Line → List ℕ) → List ℕ → Type 0
NoneStandsFirst version names text bytes =
    (line : Line) (rest : List ℕ) → IsPrintableLine version names line
    → bytes ≢ text line ++ 10 ∷ rest

-- the log has the version, and what stands behind the header is its text
pub record IsLogOf (version : Version) (names : List (List ℕ)) (body : List ℕ)
    (log : Log) : Type 0 where
  pub same : log.version ≡ version
  pub whole : body ≡ text_of_body version names log.lines.items log.waiting
  pub printable : IsPrintable names log
