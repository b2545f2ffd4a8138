use Rattle.kb_fsarat.proofs.SuccessorLemmas.{IsAlong}
use Rattle.kb_fsarat.proofs.successor.states_along.Given as goal

-- the states so far are those along the word
abbrev pub invariant-loop-letter : goal.invariant-loop-letter
invariant-loop-letter l = IsAlong l.table l.letter-items l.states.items l.letter-index l.state
