use Rattle.kb_record.proofs.OneFault.{no_text_fault}
use Rattle.kb_record.proofs.laws.a_text_that_is_read_has_no_fault.Goals as goal

pub returns : goal.returns
returns c bytes text error given shallow fault = no_text_fault bytes text error given shallow fault
