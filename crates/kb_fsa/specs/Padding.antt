-- Pairs of words as texts: the shorter word is padded at its end, and each two letters make one symbol.
-- Epstein et al., Word Processing in Groups, 1.4.
use Rattle.std.specs.Prelude.{◌≡◌, ℕ, ◌+◌, nat_eq, if◌then◌else◌, List, [], ◌∷◌, ◌++◌}
use Rattle.kb_word.specs.Relations.{IsOver}
use Rattle.kb_fsa.specs.PairSymbols.{pair_symbol, first_letter, second_letter}

-- the text of a pair of words over n generators
abbrev pub padded : ℕ → List ℕ → List ℕ → List ℕ
padded n [] [] = []
padded n (x ∷ u) [] = pair_symbol n x (n + 1) ∷ padded n u []
padded n [] (y ∷ v) = pair_symbol n (n + 1) y ∷ padded n [] v
padded n (x ∷ u) (y ∷ v) = pair_symbol n x y ∷ padded n u v

-- the text is that of a pair of words
pub record IsPadded (n : ℕ) (text : List ℕ) : Type 0 where
  pub first : List ℕ
  pub second : List ℕ
  pub first_over : IsOver n first
  pub second_over : IsOver n second
  pub is_text : text ≡ padded n first second

-- the text is that of these two words over n generators
pub record IsTextOfPair (n : ℕ) (text first second : List ℕ) : Type 0 where
  pub first_over : IsOver n first
  pub second_over : IsOver n second
  pub is_text : text ≡ padded n first second

-- the letter of a number, or none for the padding
abbrev pub letters_of : ℕ → ℕ → List ℕ
letters_of n number = if nat_eq number (n + 1) then [] else number ∷ []

-- the letters that the symbols of a text have on the first track, and on the second
abbrev pub first_letters : ℕ → List ℕ → List ℕ
first_letters n [] = []
first_letters n (symbol ∷ text) = letters_of n (first_letter n symbol) ++ first_letters n text

abbrev pub second_letters : ℕ → List ℕ → List ℕ
second_letters n [] = []
second_letters n (symbol ∷ text) = letters_of n (second_letter n symbol) ++ second_letters n text
