use Rattle.kb_fsa.proofs.Paddings.{length-padded, padded-injective}
use Rattle.kb_count.proofs.laws.texts_of_pairs_stand_for_pairs.Goals as goal

pub returns-clause-one_pair : goal.returns-clause-one_pair
returns-clause-one_pair c = padded-injective

pub returns-clause-length : goal.returns-clause-length
returns-clause-length c = length-padded
