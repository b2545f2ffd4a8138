use Rattle.kb_cmd_words.proofs.LogLemmas.{decides_least}
use Rattle.kb_cmd_words.proofs.laws.lines_that_decide_give_least_words.Goals as goal

pub returns : goal.returns
returns c = decides_least
