use Rattle.kb_cli.proofs.HeadlineLemmas.{headline_settled}
use Rattle.kb_cli.proofs.laws.one_answer_by_the_files.Goals as goal

pub returns : goal.returns
returns c = headline_settled
