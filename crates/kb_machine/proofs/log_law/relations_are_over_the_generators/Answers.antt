use Rattle.kb_machine.proofs.Relations.{relations_over}
use Rattle.kb_machine.proofs.log_law.relations_are_over_the_generators.Goals as goal

pub returns : goal.returns
returns c n order names inverses equations is = relations_over is
