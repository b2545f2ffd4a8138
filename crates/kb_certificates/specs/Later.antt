-- Accepted pairs of words that aren't the first with their first word.
use Rattle.std.specs.Prelude.{ℕ, List}
use Rattle.kb_word.specs.Words.{Less}
use Rattle.kb_fsa.specs.Language.{Automaton}
use Rattle.kb_leastpair.specs.LeastPair.{IsAccepted}

-- the pair is accepted, and so is one with the same first word and a lesser second word
pub record IsLater (pairs : Automaton) (first second : List ℕ) : Type 0 where
  pub accepted : IsAccepted pairs first second
  pub lesser : List ℕ
  pub less : Less lesser second
  pub lesser_accepted : IsAccepted pairs first lesser

-- the first word has a later pair
pub record HasLater (pairs : Automaton) (first : List ℕ) : Type 0 where
  pub second : List ℕ
  pub later : IsLater pairs first second
