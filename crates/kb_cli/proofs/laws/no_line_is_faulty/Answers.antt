use Rattle.kb_cli.proofs.LineLemmas.{line_or_not}
use Rattle.kb_cli.proofs.laws.no_line_is_faulty.Goals as goal

pub returns : goal.returns
returns c = line_or_not
