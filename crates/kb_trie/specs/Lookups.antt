-- How left sides are kept by the states of their words.
use Rattle.std.specs.Prelude.{◌≡◌, ℕ, zero, suc, ◌+◌, ◌<◌, ◌^◌, List, Option, Some, None, length, get_or, map, option_map}
use Rattle.kb_trie.specs.declared.lookup.Entry.{Entry}
use Rattle.kb_trie.specs.States.{AreWords, States, word}
use Rattle.kb_trie.specs.LeftSides.{HasAt, IsLeastOf, LeftSides}

-- what is kept of a number: one more than it, or 0 where there is none
abbrev pub kept : ℕ → Option ℕ
kept zero = None
kept (suc number) = Some number

-- the states of the left sides
abbrev pub states_in : List (Option Entry) → List (Option ℕ)
states_in entries = map (option_map (λ entry. entry.state)) entries

-- the left sides: the words of these states
abbrev pub lefts_of : List (List ℕ) → List (Option ℕ) → List (Option (List ℕ))
lefts_of words states = map (option_map (word words)) states

-- what callers know of a trie and entries
abbrev pub left_sides : States → List (Option Entry) → LeftSides
left_sides trie entries =
    record { words = trie.words; lefts = lefts_of trie.words (states_in entries) }

-- The entry of a number has a state other than state 0, of which there are so many, and the least number after this
-- one that has the same state.
pub record IsEntry (count : ℕ) (states : List (Option ℕ)) (number : ℕ) (entry : Entry) : Type 0 where
  pub some : 0 < entry.state
  pub within : entry.state < count
  pub next : IsLeastOf (HasAt states entry.state) (number + 1) (kept entry.next)

abbrev pub AreEntries : ℕ → List (Option Entry) → Type 0
AreEntries count entries = (number : ℕ) (entry : Entry) → HasAt entries entry number
    → IsEntry count (states_in entries) number entry

-- each state of the trie keeps the least number that has this state
pub record IsLookup (trie : States) (entries : List (Option Entry)) : Type 0 where
  pub words : AreWords trie.words
  pub numbers : length trie.numbers ≡ length trie.words
  pub few : length entries + 1 < 2 ^ 32
  pub entries_are : AreEntries (length trie.words) entries
  pub firsts : (state : ℕ) → state < length trie.words
      → IsLeastOf (HasAt (states_in entries) state) 0 (kept (get_or trie.numbers state 0))
