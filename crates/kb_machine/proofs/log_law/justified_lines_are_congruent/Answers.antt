use Rattle.kb_machine.proofs.Logs.{justified_congruent}
use Rattle.kb_machine.proofs.log_law.justified_lines_are_congruent.Goals as goal

pub returns : goal.returns
returns c order relations lines index line justified is_line = justified_congruent justified index line is_line
