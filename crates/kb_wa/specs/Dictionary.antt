-- The dictionary automaton of left sides as a machine whose states are those of their trie, by number.
-- Aho, Corasick, Efficient string matching (1975); Sims, Computation with Finitely Presented Groups, 3.5.
use Rattle.std.specs.Prelude.{◌≡◌, ℕ, zero, suc, ◌+◌, ◌<◌, ◌≤◌, ◌&&◌, nat_eq, nat_lt, nat_le, Bool, true, List, [], ◌∷◌, ◌++◌, length, All, Option, Some, None, unwrap_or, if◌then◌else◌}
use Rattle.std.specs.Cmp.Lexicographic.{pointwise}
use Rattle.kb_fsa.specs.Table.{lookup, Ascends}
use Rattle.kb_explore.specs.Machine.{Machine}
use Rattle.kb_trie.specs.States.{States, word}
use Rattle.kb_trie.specs.Ends.{keeps}

-- the state, among so many, that stands for the word
abbrev pub state_of : List (List ℕ) → ℕ → List ℕ → Option ℕ
state_of words zero w = None
state_of words (suc state) w =
    if pointwise nat_eq (word words state) w then Some state else state_of words state w

-- the state that stands for the longest suffix of the word for which some state stands
abbrev pub state_after : List (List ℕ) → List ℕ → ℕ
state_after words [] = 0
state_after words (x ∷ w) =
    unwrap_or (state_of words (length words) (x ∷ w)) (state_after words w)

-- the state, unless it keeps a number, and so stands for a left side
abbrev pub unless_left_side : States → ℕ → Option ℕ
unless_left_side trie state = if keeps trie.numbers state then None else Some state

-- the number is that of a state, and the symbol one of n letters
abbrev pub may_move : ℕ → States → ℕ → ℕ → Bool
may_move n trie state symbol =
    nat_lt state (length trie.words) && (nat_lt 0 symbol && nat_le symbol n)

-- the trie of left sides, which are words over n letters
pub record LeftSides : Type 0 where
  pub n : ℕ
  pub trie : States

-- the machine over n letters: each state but those that stand for left sides is one of its states, and accepts
abbrev pub dictionary : ℕ → States → Machine ℕ
dictionary n trie = record {
  start = Some 0;
  follow = λ state letter. if may_move n trie state letter
      then unless_left_side trie
      (state_after trie.words (word trie.words state ++ letter ∷ []))
      else None;
  accepts = λ state. true;
}

-- the moves by the letters below this one
pub record AreMovesBefore (n : ℕ) (trie : States) (state letter : ℕ) (moves : List (ℕ × ℕ))
    : Type 0 where
  pub within : letter ≤ n + 1
  pub ascends : Ascends moves
  pub letters : All (λ move. (0 < move.0) × (move.0 < letter)) moves
  pub follow : (other : ℕ) → other < letter
      → lookup moves other ≡ (dictionary n trie).follow state other
