-- Longest suffixes: steps and failure links.
use Rattle.std.specs.Prelude.{ℕ, ◌+◌, ◌*◌, ◌<◌, ◌≤◌, List, [], ◌∷◌, ◌++◌, length, get_or, drop}
use Rattle.kb_word.specs.Words.{EndsWith}
use Rattle.kb_trie.specs.States.{word}

-- u is the longest suffix of w that is a state's word, or at least ends with each suffix of w that is one
pub record IsLongestSuffix (words : List (List ℕ)) (w u : List ℕ) : Type 0 where
  pub ends : EndsWith w u
  pub longest : (state : ℕ) → state < length words → EndsWith w (word words state)
      → EndsWith u (word words state)

-- the state after a letter more: its word is the longest suffix that is a state's word
pub record IsStep (words : List (List ℕ)) (state letter after : ℕ) : Type 0 where
  pub within : after < length words
  pub longest : IsLongestSuffix words (word words state ++ letter ∷ []) (word words after)

-- a letter leads from the state to one whose word is longer than `beyond`
pub record IsStepBeyond (words : List (List ℕ)) (state beyond after : ℕ) : Type 0 where
  pub letter : ℕ
  pub step : IsStep words state letter after
  pub longer : beyond < length (word words after)

-- the state's failure link: the state of the longest proper suffix that is a state's word
pub record IsLink (words : List (List ℕ)) (state link : ℕ) : Type 0 where
  pub within : link < length words
  pub longest : IsLongestSuffix words (drop 1 (word words state)) (word words link)

-- each state's failure link
abbrev pub AreLinks : List (List ℕ) → List ℕ → Type 0
AreLinks words links =
    (state : ℕ) → state < length words → IsLink words state (get_or links state 0)

-- the steps from all states by the letters below the width, in rows of this width
pub record AreSteps (words : List (List ℕ)) (width : ℕ) (rows : List ℕ) : Type 0 where
  pub room : length words * width ≤ length rows
  pub each : (state letter : ℕ) → state < length words → letter < width
      → IsStep words state letter (get_or rows (state * width + letter) 0)
