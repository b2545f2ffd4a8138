use Rattle.kb_proof.proofs.FaultLemmas.{log_right}
use Rattle.kb_proof.proofs.laws.a_printed_log_has_no_fault.Goals as goal

pub returns : goal.returns
returns c = log_right
