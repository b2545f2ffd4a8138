-- The letters of names.
use Rattle.std.specs.Prelude.{◌≡◌, ℕ, ◌<◌, List, [], ◌∷◌, Option, Some, slice_get}
use Rattle.kb_record.specs.Meaning.{letter_from}

-- the first letter with this name
abbrev pub letter_of : List (List ℕ) → List ℕ → Option ℕ
letter_of names text = letter_from 1 names text

-- at the place of each ASCII byte stands the letter whose name is that byte alone
abbrev pub AreByteLetters : List (List ℕ) → List (Option ℕ) → Type 0
AreByteLetters names letters =
    (byte : ℕ) → byte < 128 → slice_get letters byte ≡ Some (letter_of names (byte ∷ []))
