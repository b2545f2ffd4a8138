use Rattle.kb_cli.proofs.HeadlineLemmas.{headline_refused}
use Rattle.kb_cli.proofs.laws.a_refused_file_has_the_first_fault.Goals as goal

pub returns : goal.returns
returns c arguments command before after name fault line means at_load =
    headline_refused arguments command before after name fault line means at_load
