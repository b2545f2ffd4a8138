-- The least pair of words: the least first word, and the least second word beside it.
use Rattle.std.specs.Prelude.{ℕ, List}
use Rattle.kb_word.specs.Words.{Less}
use Rattle.kb_word.specs.Relations.{IsOver}
use Rattle.kb_fsa.specs.Table.{AcceptsFrom}
use Rattle.kb_fsa.specs.Padding.{padded}
use Rattle.kb_fsa.specs.Language.{Automaton, AcceptsPair, generators}

-- the automaton accepts the pair of words over its generators
pub record IsAccepted (pairs : Automaton) (first second : List ℕ) : Type 0 where
  pub first_over : IsOver (generators pairs.alphabet) first
  pub second_over : IsOver (generators pairs.alphabet) second
  pub accepted : AcceptsPair pairs first second

-- from the state the pair of words leads the automaton to acceptance; the second one is over its generators
pub record IsEnd (pairs : Automaton) (state : ℕ) (first second : List ℕ) : Type 0 where
  pub second_over : IsOver (generators pairs.alphabet) second
  pub accepted : AcceptsFrom pairs.table state (padded (generators pairs.alphabet) first second)

-- the word is the least, in the shortlex order, for which the fact holds
pub record IsLeastWord (Holds : List ℕ → Type 0) (word : List ℕ) : Type 0 where
  pub holds : Holds word
  pub least : (other : List ℕ) → Holds other → ¬ Less other word

-- The fact holds of the two words, of no pair with a lesser first word, and of none with the same first word and a
-- lesser second one.
pub record IsLeastPair (Holds : List ℕ → List ℕ → Type 0) (first second : List ℕ) : Type 0 where
  pub holds : Holds first second
  pub least_first : (u v : List ℕ) → Holds u v → ¬ Less u first
  pub least_second : (v : List ℕ) → Holds first v → ¬ Less v second
