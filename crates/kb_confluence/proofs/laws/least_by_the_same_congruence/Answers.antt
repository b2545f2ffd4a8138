use Rattle.kb_word.proofs.PathLemmas.{IsLeast-same}
use Rattle.kb_confluence.proofs.laws.least_by_the_same_congruence.Goals as goal

pub returns : goal.returns
returns c order pairs others w m same = IsLeast-same same w m
