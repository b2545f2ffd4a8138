-- Pairs of words that lead an automaton of pairs and its follower to acceptance.
use Rattle.std.specs.Prelude.{ℕ, List}
use Rattle.kb_word.specs.Relations.{IsOver}
use Rattle.kb_fsa.specs.Padding.{padded}
use Rattle.kb_fsa.specs.Language.{Automaton, generators}
use Rattle.kb_certificates.specs.Cascade.{Follower, AcceptsLed}

-- the pair of words over the generators leads both to acceptance
pub record IsLedPair {X : Type 0} (pairs : Automaton) (follower : Follower X)
    (first second : List ℕ) : Type 0 where
  pub first_over : IsOver (generators pairs.alphabet) first
  pub second_over : IsOver (generators pairs.alphabet) second
  pub led : AcceptsLed pairs.table follower (padded (generators pairs.alphabet) first second)
