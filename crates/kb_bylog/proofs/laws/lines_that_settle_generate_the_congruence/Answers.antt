use Rattle.kb_bylog.proofs.LineLemmas.{lines_generate}
use Rattle.kb_bylog.proofs.laws.lines_that_settle_generate_the_congruence.Goals as goal

pub returns : goal.returns
returns c = lines_generate
