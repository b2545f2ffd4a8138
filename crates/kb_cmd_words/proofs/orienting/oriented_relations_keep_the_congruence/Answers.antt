use Rattle.kb_cmd_words.proofs.OrientLemmas.{oriented_congruence}
use Rattle.kb_cmd_words.proofs.orienting.oriented_relations_keep_the_congruence.Goals as goal

pub returns : goal.returns
returns c order = oriented_congruence
