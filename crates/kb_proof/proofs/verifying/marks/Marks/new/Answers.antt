use Rattle.kb_proof.proofs.Marking.{no_marks}
use Rattle.kb_proof.proofs.verifying.marks.Marks.new.Goals as goal

pub returns : goal.returns
returns c = no_marks (record { relations = c.new.result; lines = c.new-2.result }) (cc) (cc)
