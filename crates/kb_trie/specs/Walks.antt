-- Walks down the failure tree.
use Rattle.std.specs.Prelude.{◌≡◌, ℕ, ◌<◌, ◌≤◌, ◌⊎◌, List, length, get_or, set}
use Rattle.kb_word.specs.Words.{EndsWith}
use Rattle.kb_trie.specs.declared.walk.Stop.{Stop}
use Rattle.kb_trie.specs.declared.walk.Stop.TheVariants.{Child, Nowhere, Numbered}
use Rattle.kb_trie.specs.States.{IsChild, word}

-- the number is one of the list's
pub record IsAmong (numbers : List ℕ) (number : ℕ) : Type 0 where
  pub place : ℕ
  pub within : place < length numbers
  pub is : get_or numbers place 0 ≡ number

-- the state keeps a number, and is what is noted
pub record IsNumbered (numbers : List ℕ) (state noted : ℕ) : Type 0 where
  pub keeps : 0 < get_or numbers state 0
  pub is : noted ≡ state

-- a walk stops at the state and notes a number: its child by the letter, or itself where it keeps a number and
-- is another state than this one, or never
abbrev pub Notes : List (List ℕ) → List ℕ → Stop → ℕ → ℕ → Type 0
Notes words numbers (Child letter) state noted = IsChild words state letter noted
Notes words numbers (Numbered except) state noted = IsNumbered (set numbers except 0) state noted
Notes words numbers Nowhere state noted = ⊥

-- a walk stops nowhere
abbrev pub NotesNothing : ℕ → ℕ → Type 0
NotesNothing state noted = ⊥

-- the state's word ends with the root's, and at no state between them, nor at either, a walk stops
pub record IsFree (words : List (List ℕ)) (notes : ℕ → ℕ → Type 0) (root state : ℕ) : Type 0 where
  pub within : state < length words
  pub ends : EndsWith (word words state) (word words root)
  pub none : (other noted : ℕ) → other < length words
      → EndsWith (word words state) (word words other)
      → EndsWith (word words other) (word words root) → ¬ notes other noted

-- a child in the failure tree
pub record IsFailureChild (count : ℕ) (links : List ℕ) (link state : ℕ) : Type 0 where
  pub some : 0 < state
  pub within : state < count
  pub linked : get_or links state 0 ≡ link

-- a walk stops at a child in the failure tree, and notes the number
pub record IsNoted (count : ℕ) (links : List ℕ) (notes : ℕ → ℕ → Type 0) (link noted : ℕ) : Type 0 where
  pub state : ℕ
  pub child : IsFailureChild count links link state
  pub note : notes state noted

-- a walk stops at the state, and what it notes is one of the list's
pub record IsStop (notes : ℕ → ℕ → Type 0) (stopped : List ℕ) (state : ℕ) : Type 0 where
  pub noted : ℕ
  pub note : notes state noted
  pub among : IsAmong stopped noted

-- what a walk gains at a state: its children in the failure tree, but for those up to the last one
pub record Gains (count : ℕ) (links : List ℕ) (notes : ℕ → ℕ → Type 0) (link upto : ℕ)
    (free stopped free' stopped' : List ℕ) : Type 0 where
  pub longer : length free ≤ length free'
  pub kept : (place : ℕ) → place < length free → get_or free' place 0 ≡ get_or free place 0
  pub gained : (place : ℕ) → length free ≤ place → place < length free'
      → IsFailureChild count links link (get_or free' place 0)
  pub unstopped : (place noted : ℕ) → length free ≤ place → place < length free'
      → ¬ notes (get_or free' place 0) noted
  pub stays : (noted : ℕ) → IsAmong stopped noted → IsAmong stopped' noted
  pub noted_there : (noted : ℕ) → IsAmong stopped' noted
      → IsAmong stopped noted ⊎ IsNoted count links notes link noted
  pub all : (state : ℕ) → upto < state → IsFailureChild count links link state
      → IsAmong free' state ⊎ IsStop notes stopped' state

-- A walk down the failure tree: the states that it reached and left, among them the root, and what it noted at
-- those at which it stopped. It has looked at all children of the states at the first places, as many as are
-- done.
pub record IsWalking (words : List (List ℕ)) (links : List ℕ) (notes : ℕ → ℕ → Type 0) (root : ℕ)
    (done : ℕ) (free stopped : List ℕ) : Type 0 where
  pub starts : IsAmong free root
  pub free_each : (state : ℕ) → IsAmong free state → IsFree words notes root state
  pub stopped_each : (noted : ℕ) → IsAmong stopped noted → (link : ℕ) × IsAmong free link
      × IsNoted (length words) links notes link noted
  pub all : (place state : ℕ) → place < done
      → IsFailureChild (length words) links (get_or free place 0) state
      → IsAmong free state ⊎ IsStop notes stopped state

-- a walk that has come to its end
abbrev pub IsWalk : List (List ℕ) → List ℕ → (ℕ → ℕ → Type 0) → ℕ → List ℕ → List ℕ → Type 0
IsWalk words links notes root free stopped =
    IsWalking words links notes root (length free) free stopped

-- the words of the states from a place on have this length at least
abbrev pub AreDeep : List (List ℕ) → ℕ → ℕ → List ℕ → Type 0
AreDeep words level from states = (place : ℕ) → from ≤ place → place < length states
    → level ≤ length (word words (get_or states place 0))

-- the numbers ascend, and some may be equal
abbrev pub Ascend : List ℕ → Type 0
Ascend numbers = (i j : ℕ) → i ≤ j → j < length numbers → get_or numbers i 0 ≤ get_or numbers j 0

-- a walk from a state that stops where there is a child by the letter; the children ascend
pub record IsChildWalk (words : List (List ℕ)) (links : List ℕ) (state letter : ℕ)
    (free children : List ℕ) : Type 0 where
  pub walk : IsWalk words links (λ at child. IsChild words at letter child) state free children
  pub ascend : Ascend children
