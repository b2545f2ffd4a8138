use Rattle.kb_proof.proofs.SameLemmas.{logs_same}
use Rattle.kb_proof.proofs.laws.a_text_is_of_one_log.Goals as goal

pub returns : goal.returns
returns c = logs_same
