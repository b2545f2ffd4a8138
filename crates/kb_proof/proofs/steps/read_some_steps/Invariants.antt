use Rattle.std.proofs.Common.{length}
use Rattle.kb_proof.specs.Printable.{FitsStep}
use Rattle.kb_proof.specs.Printed.{text_of_step}
use Rattle.kb_proof.proofs.PartLemmas.{Parted}
use Rattle.kb_proof.proofs.steps.read_some_steps.Given as goal

-- the steps so far were read of what stands before the rest
abbrev pub invariant-loop-text : goal.invariant-loop-text
invariant-loop-text l = Parted 44 text_of_step FitsStep l.bytes l.steps.items l.rest

abbrev pub decreases-loop-text : goal.decreases-loop-text
decreases-loop-text l = length l.rest
