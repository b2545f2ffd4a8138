use Rattle.kb_lines.proofs.UniqueLemmas.{one-text}
use Rattle.kb_lines.proofs.laws.lines_give_one_text.Goals as goal

pub returns : goal.returns
returns g c = one-text (g.A.Answerer.parts c.args._answerer.now) (g.A.Answerer.answers c.args._answerer.now)
