-- The trie of the left sides of rules, whose states keep a number where they stand for a left side.
use Rattle.std.specs.Prelude.{◌≡◌, ℕ, ◌<◌, List, [], length, get_or}
use Rattle.kb_word.specs.Words.{Pair}
use Rattle.kb_trie.specs.States.{AreWords, BeginsWith, HasWord, States, word}

-- the left side of the rule at a place
abbrev pub left_at : List Pair → ℕ → List ℕ
left_at rules place = (get_or rules place ([], [])).0

-- one of the first so many left sides begins with the word
pub record BeginsLeft (rules : List Pair) (count : ℕ) (w : List ℕ) : Type 0 where
  pub place : ℕ
  pub within : place < count
  pub begins : BeginsWith (left_at rules place) w

-- one of the first so many left sides is the word
pub record IsLeft (rules : List Pair) (count : ℕ) (w : List ℕ) : Type 0 where
  pub place : ℕ
  pub within : place < count
  pub is : left_at rules place ≡ w

-- the state has the word, and keeps a number
pub record KeepsWord (trie : States) (w : List ℕ) : Type 0 where
  pub state : ℕ
  pub has : HasWord trie.words w state
  pub some : 0 < get_or trie.numbers state 0

-- The trie of the first so many left sides: each state but state 0 stands for a word with which one of them
-- begins, each of them is a state's word, and the states of exactly these words keep a number.
pub record IsTrieOf (rules : List Pair) (count : ℕ) (trie : States) : Type 0 where
  pub are : AreWords trie.words
  pub numbers : length trie.numbers ≡ length trie.words
  pub beginnings : (state : ℕ) → 0 < state → state < length trie.words
      → BeginsLeft rules count (word trie.words state)
  pub complete : (place : ℕ) → place < count → KeepsWord trie (left_at rules place)
  pub only : (state : ℕ) → 0 < get_or trie.numbers state 0
      → IsLeft rules count (word trie.words state)
