use Rattle.kb_cli.proofs.HeadlineLemmas.{headline_answers}
use Rattle.kb_cli.proofs.laws.where_nothing_is_refused_there_is_an_answer.Goals as goal

pub returns : goal.returns
returns c = headline_answers
