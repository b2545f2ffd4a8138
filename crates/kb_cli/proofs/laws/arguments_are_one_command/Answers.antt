use Rattle.kb_cli.proofs.HeadlineLemmas.{one_line}
use Rattle.kb_cli.proofs.laws.arguments_are_one_command.Goals as goal

pub returns : goal.returns
returns c = one_line
