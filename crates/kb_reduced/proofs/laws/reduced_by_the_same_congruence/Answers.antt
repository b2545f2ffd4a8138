use Rattle.kb_reduced.proofs.Complete.{reduced_same}
use Rattle.kb_reduced.proofs.laws.reduced_by_the_same_congruence.Goals as goal

pub returns : goal.returns
returns c order pairs others rules same reduced = reduced_same same reduced
