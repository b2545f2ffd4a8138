use Rattle.kb_machine.proofs.Letters.{justified_over}
use Rattle.kb_machine.proofs.log_law.justified_lines_bring_no_letters.Goals as goal

pub returns : goal.returns
returns c n order relations lines given justified = justified_over n relations lines given justified
