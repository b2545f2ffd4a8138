use Rattle.kb_bylog.proofs.LineLemmas.{lines_follow}
use Rattle.kb_bylog.proofs.laws.the_lines_of_a_justified_log_follow.Goals as goal

pub returns : goal.returns
returns c = lines_follow
