-- The left sides of the rules of a list, by their places.
use Rattle.std.specs.Prelude.{◌≡◌, ℕ, ◌<◌, List, [], map, length, get_or, slice_get, Some}
use Rattle.kb_word.specs.Words.{Pair, EndsWith}
use Rattle.kb_trie.specs.States.{HasWord, word}

-- the left sides of rules, in their order
abbrev pub lefts_of : List Pair → List (List ℕ)
lefts_of rules = map (λ rule. rule.0) rules

-- the left side of the rule at a place
abbrev pub left_at : List Pair → ℕ → List ℕ
left_at rules place = (get_or rules place ([], [])).0

-- the left side stands at the place
abbrev pub StandsAt : List (List ℕ) → List ℕ → ℕ → Type 0
StandsAt lefts left place = slice_get lefts place ≡ Some left

-- the left side at the place ends the word
pub record EndsAt (lefts : List (List ℕ)) (w : List ℕ) (place : ℕ) : Type 0 where
  pub left : List ℕ
  pub stands : StandsAt lefts left place
  pub ends : EndsWith w left

-- each left side is a state's word, and none is empty
pub record AreStates (words : List (List ℕ)) (lefts : List (List ℕ)) : Type 0 where
  pub states : (place : ℕ) (left : List ℕ) → StandsAt lefts left place
      → (state : ℕ) × HasWord words left state
  pub some : (place : ℕ) → ¬ StandsAt lefts [] place

-- the state of the longest left side that ends the state's word, or state 0 where none does
pub record IsLongestLeft (words : List (List ℕ)) (lefts : List (List ℕ)) (state end : ℕ)
    : Type 0 where
  pub within : end < length words
  pub ends : EndsWith (word words state) (word words end)
  pub left : 0 < end → (place : ℕ) × StandsAt lefts (word words end) place
  pub longest : (place : ℕ) (left : List ℕ) → StandsAt lefts left place
      → EndsWith (word words state) left → EndsWith (word words end) left
