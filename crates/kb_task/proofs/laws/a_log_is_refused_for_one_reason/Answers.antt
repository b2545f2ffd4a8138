use Rattle.kb_task.proofs.OneReason.{one_derivations_fault}
use Rattle.kb_task.proofs.laws.a_log_is_refused_for_one_reason.Goals as goal

pub returns : goal.returns
returns c names files name one other readable a b =
    one_derivations_fault c.bytes_have_one_log_fault.ensures c.a_printed_log_has_no_fault.ensures names readable files name one other a b
