-- The states of a trie, and their words.
use Rattle.std.specs.Prelude.{◌≡◌, ℕ, ◌<◌, List, [], ◌∷◌, ◌++◌, All, length, get_or, replicate}

-- what callers know of a trie: the words of its states, in their order, and the number that each keeps, or 0
pub record States : Type 0 where
  pub words : List (List ℕ)
  pub numbers : List ℕ

-- the word of a state
abbrev pub word : List (List ℕ) → ℕ → List ℕ
word words state = get_or words state []

-- the state's word is that of an earlier state with a letter more
pub record IsLonger (words : List (List ℕ)) (state : ℕ) : Type 0 where
  pub parent : ℕ
  pub letter : ℕ
  pub earlier : parent < state
  pub spelled : word words state ≡ word words parent ++ letter ∷ []

-- State 0 has the empty word, every other state that of an earlier one with a letter more, and no two states
-- have one word.
pub record AreWords (words : List (List ℕ)) : Type 0 where
  pub some : 0 < length words
  pub root : word words 0 ≡ []
  pub longer : (state : ℕ) → 0 < state → state < length words → IsLonger words state
  pub apart : (i j : ℕ) → i < length words → j < length words → word words i ≡ word words j → i ≡ j

-- the child's word is that of the state with the letter more
pub record IsChild (words : List (List ℕ)) (state letter child : ℕ) : Type 0 where
  pub within : child < length words
  pub spelled : word words child ≡ word words state ++ letter ∷ []

-- no state's word is that of the state with the letter more
abbrev pub IsNoChild : List (List ℕ) → ℕ → ℕ → Type 0
IsNoChild words state letter = (child : ℕ) → ¬ IsChild words state letter child

-- the state stands for the word
pub record HasWord (words : List (List ℕ)) (w : List ℕ) (state : ℕ) : Type 0 where
  pub within : state < length words
  pub is : word words state ≡ w

-- the word begins with u
pub record BeginsWith (w u : List ℕ) : Type 0 where
  pub rest : List ℕ
  pub whole : w ≡ u ++ rest

-- the states of before, and some more, whose words the word begins with
pub record Grows (w : List ℕ) (before after : States) : Type 0 where
  pub more : List (List ℕ)
  pub words : after.words ≡ before.words ++ more
  pub each : All (BeginsWith w) more
  pub numbers : after.numbers ≡ before.numbers ++ replicate (length more) 0
