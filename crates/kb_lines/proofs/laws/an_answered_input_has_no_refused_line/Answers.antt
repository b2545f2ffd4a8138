use Rattle.kb_lines.proofs.UniqueLemmas.{answered-unrefused}
use Rattle.kb_lines.proofs.laws.an_answered_input_has_no_refused_line.Goals as goal

pub returns : goal.returns
returns g c = answered-unrefused (g.A.Answerer.parts c.args._answerer.now) (g.A.Answerer.answers c.args._answerer.now)
