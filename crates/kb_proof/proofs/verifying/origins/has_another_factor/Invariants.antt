use Rattle.kb_machine.specs.Lines.{rules_of}
use Rattle.kb_proof.proofs.Factors.{NoneFrom}
use Rattle.kb_proof.proofs.verifying.origins.has_another_factor.Given as goal

-- none of the lines from this index on is one
abbrev pub invariant-loop-index : goal.invariant-loop-index
invariant-loop-index l = NoneFrom (rules_of l.lines) l.number l.own.left l.index
