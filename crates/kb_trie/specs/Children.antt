-- The children of the states in the trie: for each state the list of its children, latest first.
use Rattle.std.specs.Prelude.{ℕ, ◌<◌, ◌≤◌, List, length, get_or}
use Rattle.std.specs.List.{Contains}
use Rattle.kb_trie.specs.declared.children.Children.{Children}
use Rattle.kb_trie.specs.States.{BeginsWith, IsChild, word}
use Rattle.kb_trie.specs.Steps.{IsStep}

-- a child in the trie: the state of the parent's word with a letter more
pub record IsTrieChild (words : List (List ℕ)) (parent state : ℕ) : Type 0 where
  pub letter : ℕ
  pub child : IsChild words parent letter state

-- the last child of the state before the bound, or 0 where there is none
pub record IsLastChild (words : List (List ℕ)) (state bound child : ℕ) : Type 0 where
  pub before : 0 < child → child < bound
  pub is : 0 < child → IsTrieChild words state child
  pub last : (other : ℕ) → other < bound → IsTrieChild words state other → other ≤ child

-- the last child of each state, and for each child the one before it
pub record AreChildren (words : List (List ℕ)) (lasts earlier : List ℕ) : Type 0 where
  pub last_room : length words ≤ length lasts
  pub earlier_room : length words ≤ length earlier
  pub last : (state : ℕ) → state < length words
      → IsLastChild words state (length words) (get_or lasts state 0)
  pub next : (parent state : ℕ) → parent < length words → IsTrieChild words parent state
      → IsLastChild words parent state (get_or earlier state 0)

abbrev pub HasChildren : List (List ℕ) → Children → Type 0
HasChildren words children = AreChildren words children.lasts.items children.earlier.items

-- a letter leads from the state to the other one
pub record IsLed (words : List (List ℕ)) (state after : ℕ) : Type 0 where
  pub letter : ℕ
  pub step : IsStep words state letter after

-- a letter leads from the state to a child of the parent
pub record LeadsToChild (words : List (List ℕ)) (state parent after : ℕ) : Type 0 where
  pub led : IsLed words state after
  pub child : IsTrieChild words parent after

-- a child of one of the list's states, at a place from the start up to the end
pub record IsChildOfOne (words : List (List ℕ)) (parents : List ℕ) (start end state : ℕ)
    : Type 0 where
  pub place : ℕ
  pub from : start ≤ place
  pub upto : place < end
  pub child : IsTrieChild words (get_or parents place 0) state

-- the state's word begins with that of one of the list's states
pub record IsBelowOne (words : List (List ℕ)) (roots : List ℕ) (state : ℕ) : Type 0 where
  pub within : state < length words
  pub root : ℕ
  pub among : Contains roots root
  pub begins : BeginsWith (word words state) (word words root)

-- exactly the states whose words begin with that of one of the list's states
pub record AreBelow (words : List (List ℕ)) (roots states : List ℕ) : Type 0 where
  pub each : (state : ℕ) → Contains states state → IsBelowOne words roots state
  pub all : (state : ℕ) → IsBelowOne words roots state → Contains states state
