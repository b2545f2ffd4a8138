use Rattle.kb_proof.proofs.HeaderLemmas.{first_line_all, first_line_cut}
use Rattle.kb_proof.proofs.header.first_line.Goals as goal

pub returns-in-Some : goal.returns-in-Some
returns-in-Some c = first_line_cut c.args.bytes.now c.in-Some.line.now _ c.in-Some.ensures.cut

pub returns-in-None : goal.returns-in-None
returns-in-None c = first_line_all c.args.bytes.now c.in-None.ensures.none
