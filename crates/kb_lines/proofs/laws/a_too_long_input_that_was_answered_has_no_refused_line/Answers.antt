use Rattle.kb_lines.proofs.UniqueLemmas.{too_long-unrefused}
use Rattle.kb_lines.proofs.laws.a_too_long_input_that_was_answered_has_no_refused_line.Goals as goal

pub returns : goal.returns
returns g c = too_long-unrefused (g.A.Answerer.parts c.args._answerer.now) (g.A.Answerer.answers c.args._answerer.now)
