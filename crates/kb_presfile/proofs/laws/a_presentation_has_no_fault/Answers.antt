use Rattle.kb_presfile.proofs.OneFault.{no_fault}
use Rattle.kb_presfile.proofs.laws.a_presentation_has_no_fault.Goals as goal

pub returns : goal.returns
returns c given parts error h fault = no_fault given parts error h fault
