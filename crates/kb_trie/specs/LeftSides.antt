-- Left sides that come and go, each with a number.
use Rattle.std.specs.Prelude.{◌≡◌, ℕ, ◌<◌, ◌≤◌, List, [], Option, Some, None, length, get_or}
use Rattle.kb_word.specs.Words.{EndsWith}
use Rattle.kb_trie.specs.States.{HasWord, word}

-- what callers know of a lookup: the words of its states, and for each number its left side, or None where that went
pub record LeftSides : Type 0 where
  pub words : List (List ℕ)
  pub lefts : List (Option (List ℕ))

-- this is there under the number
abbrev pub HasAt : {A : Type 0} → List (Option A) → A → ℕ → Type 0
HasAt list x number = get_or list number None ≡ Some x

-- the left side with the number ends the word
pub record HasEnding (lefts : List (Option (List ℕ))) (w : List ℕ) (number : ℕ) : Type 0 where
  pub left : List ℕ
  pub has : HasAt lefts left number
  pub ends : EndsWith w left

-- the least of these numbers from this one on
pub record IsLeast (these : ℕ → Type 0) (from number : ℕ) : Type 0 where
  pub behind : from ≤ number
  pub is : these number
  pub least : (other : ℕ) → from ≤ other → these other → number ≤ other

-- the least of these numbers from this one on, or None where there is none
abbrev pub IsLeastOf : (ℕ → Type 0) → ℕ → Option ℕ → Type 0
IsLeastOf these from None = (number : ℕ) → from ≤ number → ¬ these number
IsLeastOf these from (Some number) = IsLeast these from number

-- the last of these numbers before the bound
pub record IsLast (these : ℕ → Type 0) (bound number : ℕ) : Type 0 where
  pub before : number < bound
  pub is : these number
  pub last : (other : ℕ) → other < bound → these other → other ≤ number

-- each left side is a state's word, and none is empty
pub record AreLefts (words : List (List ℕ)) (lefts : List (Option (List ℕ))) : Type 0 where
  pub states : (number : ℕ) (left : List ℕ) → HasAt lefts left number
      → (state : ℕ) × HasWord words left state
  pub some : (number : ℕ) → ¬ HasAt lefts [] number

-- the state of the longest left side that ends the state's word, or state 0 where none does
pub record IsLongestLeft (words : List (List ℕ)) (lefts : List (Option (List ℕ)))
    (state end : ℕ) : Type 0 where
  pub within : end < length words
  pub ends : EndsWith (word words state) (word words end)
  pub left : 0 < end → (number : ℕ) × HasAt lefts (word words end) number
  pub longest : (number : ℕ) (left : List ℕ) → HasAt lefts left number
      → EndsWith (word words state) left → EndsWith (word words end) left
