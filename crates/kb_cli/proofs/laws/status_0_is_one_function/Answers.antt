use Rattle.kb_cli.proofs.HeadlineLemmas.{headline_one_function}
use Rattle.kb_cli.proofs.laws.status_0_is_one_function.Goals as goal

pub returns : goal.returns
returns c = headline_one_function
