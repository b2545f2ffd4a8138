use Rattle.kb_cmd_words.proofs.OrientLemmas.{oriented_decrease}
use Rattle.kb_cmd_words.proofs.orienting.oriented_rules_decrease.Goals as goal

pub returns : goal.returns
returns c order relations rules h = oriented_decrease h
