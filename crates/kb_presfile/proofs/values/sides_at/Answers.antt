use Rattle.kb_presfile.proofs.EquationLemmas.{no_equation}
use Rattle.kb_presfile.proofs.values.sides_at.Goals as goal

pub returns-in_default-clause-none : goal.returns-in_default-clause-none
returns-in_default-clause-none c = no_equation c.args.place c.in_default.not-Text
