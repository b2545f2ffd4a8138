use Rattle.std.proofs.lemmas.Bool.{false≢true}
use Rattle.kb_auto.proofs.asking.are_true.Goals as goal

pub check_truth-requires-clause-confluent : goal.check_truth-requires-clause-confluent
check_truth-requires-clause-confluent g c = λ confluent. absurd (false≢true confluent)
