use Rattle.kb_cmd_words.proofs.LogLemmas.{lines_generate}
use Rattle.kb_cmd_words.proofs.laws.lines_generate_the_congruence.Goals as goal

pub returns : goal.returns
returns c = lines_generate
