-- The states whose words have a state's word as a factor.
use Rattle.std.specs.Prelude.{ℕ, ◌<◌, List, length, get_or}
use Rattle.kb_word.specs.Words.{IsFactor}
use Rattle.kb_trie.specs.States.{word}

-- the state keeps a number, and its word has that of the other state as a factor
pub record IsNumberedOver (words : List (List ℕ)) (numbers : List ℕ) (part state : ℕ)
    : Type 0 where
  pub within : state < length words
  pub keeps : 0 < get_or numbers state 0
  pub factor : IsFactor (word words state) (word words part)
