use Rattle.std.proofs.Common.{take}
use Rattle.kb_word.specs.WordOrders.{Below}
use Rattle.kb_word.specs.Relations.{relations_of}
use Rattle.kb_machine.specs.Justified.{IsJustified}
use Rattle.kb_proof.specs.Checking.{Knows}
use Rattle.kb_proof.proofs.verifying.verify.Given as goal

-- the lines before this one are justified, and are those that the check knows
abbrev pub invariant-loop-index : goal.invariant-loop-index
invariant-loop-index l = record {
  knows : Knows l.presentation (take l.index l.lines) l.checker;
  justified : IsJustified (Below l.presentation.order) (relations_of l.presentation.inv l.presentation.eqs) (take l.index l.lines);
}
