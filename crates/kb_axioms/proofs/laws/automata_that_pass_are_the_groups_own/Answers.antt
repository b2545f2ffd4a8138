use Rattle.kb_axioms.proofs.Own.{passing_is_own}
use Rattle.kb_axioms.proofs.laws.automata_that_pass_are_the_groups_own.Goals as goal

pub returns : goal.returns
returns c checked over passes true_to_group = passing_is_own checked over passes true_to_group
