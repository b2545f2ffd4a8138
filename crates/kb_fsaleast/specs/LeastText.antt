-- The least text that a nondeterministic automaton accepts.
use Rattle.std.specs.Prelude.{ℕ, List}
use Rattle.kb_word.specs.Words.{Less}
use Rattle.kb_fsadet.specs.Nondeterministic.{Nondeterministic, AcceptsSomehow}

-- the text is the least, in the shortlex order, that the automaton accepts
pub record IsLeastAccepted (automaton : Nondeterministic) (text : List ℕ) : Type 0 where
  pub accepted : AcceptsSomehow automaton text
  pub least : (other : List ℕ) → AcceptsSomehow automaton other → ¬ Less other text
