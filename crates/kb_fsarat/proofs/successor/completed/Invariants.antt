use Rattle.kb_fsarat.proofs.SuccessorLemmas.{IsCompleting}
use Rattle.kb_fsarat.proofs.successor.completed.Given as goal

-- the letters so far are the least ones
abbrev pub invariant-loop-rest : goal.invariant-loop-rest
invariant-loop-rest l = IsCompleting l.layers.table l.length l.fn.state l.fn.word l.word l.rest l.state
