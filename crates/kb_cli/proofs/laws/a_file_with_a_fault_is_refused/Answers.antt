use Rattle.kb_cli.proofs.HeadlineLemmas.{headline_exact}
use Rattle.kb_cli.proofs.laws.a_file_with_a_fault_is_refused.Goals as goal

pub returns : goal.returns
returns c arguments command before after status name fault line means refuses faultless =
    headline_exact c.files_are_refused_for_one_reason.ensures arguments command before after status name fault line means refuses faultless
