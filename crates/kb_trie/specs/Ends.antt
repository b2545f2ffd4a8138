-- The numbers that states keep, and the ends of states.
use Rattle.std.specs.Prelude.{ℕ, ◌<◌, ◌≤◌, Bool, nat_lt, List, length, get_or}
use Rattle.kb_word.specs.Words.{EndsWith}
use Rattle.kb_trie.specs.declared.ends.Ends.{Ends}
use Rattle.kb_trie.specs.States.{word}

-- The end of a state: the state of the longest suffix of its word, the word itself among them, that keeps a number, or
-- state 0 where there is none.
pub record IsEnd (words : List (List ℕ)) (numbers : List ℕ) (state end : ℕ) : Type 0 where
  pub within : end < length words
  pub ends : EndsWith (word words state) (word words end)
  pub keeps : 0 < end → 0 < get_or numbers end 0
  pub longest : (other : ℕ) → other < length words → 0 < get_or numbers other 0
      → EndsWith (word words state) (word words other)
      → EndsWith (word words end) (word words other)

-- the numbers of all states, and the ends of all states
pub record HasEnds (words : List (List ℕ)) (ends : Ends) : Type 0 where
  pub number_room : length words ≤ length ends.numbers.items
  pub end_room : length words ≤ length ends.ends.items
  pub each : (state : ℕ) → state < length words
      → IsEnd words ends.numbers.items state (get_or ends.ends.items state 0)

-- whether the state keeps a number
abbrev pub keeps : List ℕ → ℕ → Bool
keeps numbers state = nat_lt 0 (get_or numbers state 0)
