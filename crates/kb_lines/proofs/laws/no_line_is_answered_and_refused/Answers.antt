use Rattle.kb_lines.proofs.UniqueLemmas.{not_both}
use Rattle.kb_lines.proofs.laws.no_line_is_answered_and_refused.Goals as goal

pub returns : goal.returns
returns g c = λ line given fault gives refused. not_both fault gives refused
