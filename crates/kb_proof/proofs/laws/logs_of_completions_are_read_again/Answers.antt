use Rattle.kb_proof.proofs.Completions.{completion_read_again}
use Rattle.kb_proof.proofs.laws.logs_of_completions_are_read_again.Goals as goal

pub returns : goal.returns
returns c = completion_read_again
