-- Words as they are printed.
use Rattle.std.specs.Prelude.{ℕ, List, [], ◌∷◌, map, codes, unwrap_or}
use Rattle.std.specs.List.{join_with_byte}
use Rattle.kb_word.specs.Names.{name_of}

-- the name of letter x, and nothing where it has none
abbrev pub letter_name : List (List ℕ) → ℕ → List ℕ
letter_name names x = unwrap_or (name_of names x) []

-- `IdWord`, or the letters' names joined by `*`
abbrev pub text_of_word : List (List ℕ) → List ℕ → List ℕ
text_of_word names [] = codes "IdWord"
text_of_word names (x ∷ w) = join_with_byte 42 (map (letter_name names) (x ∷ w))
