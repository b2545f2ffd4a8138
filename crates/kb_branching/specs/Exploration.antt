-- What the exploration of a branching machine gives: the numbered automaton of the states that
-- texts lead to.
use Rattle.std.specs.Prelude.{◌≡◌, ◌↔◌, ℕ, List, length, Some}
use Rattle.kb_explore.specs.Exploration.{numbered}
use Rattle.kb_explore.specs.Progress.{AreDistinct}
use Rattle.kb_fsadet.specs.Nondeterministic.{Nondeterministic, LeadsSomehow, accepts_at}
use Rattle.kb_branching.specs.Branching.{Branching, LeadsTo, IsReached}

-- The automaton has the states that texts lead to in the machine, each once, and the same texts
-- lead to them.
pub record IsBranchExploration {S : Type 0} (machine : Branching S) (nfa : Nondeterministic)
    (states : List S) : Type 0 where
  pub alphabet : nfa.alphabet ≡ machine.alphabet
  pub one_row_each : length nfa.rows ≡ length states
  pub distinct : AreDistinct states
  pub leads_there : (text : List ℕ) (number : ℕ) (state : S) → numbered states number ≡ Some state
      → LeadsSomehow nfa text number ↔ LeadsTo machine text state
  pub has_number : (text : List ℕ) (state : S) → LeadsTo machine text state
      → (number : ℕ) × (numbered states number ≡ Some state)
  pub has_state : (text : List ℕ) (number : ℕ) → LeadsSomehow nfa text number
      → (state : S) × (numbered states number ≡ Some state)
  pub reached : (number : ℕ) (state : S) → numbered states number ≡ Some state
      → IsReached machine state
  pub accepts : (number : ℕ) (state : S) → numbered states number ≡ Some state
      → accepts_at nfa number ≡ machine.accepts state
