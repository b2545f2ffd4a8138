use Rattle.kb_task.proofs.OneReason.{one_presentation_fault}
use Rattle.kb_task.proofs.laws.a_presentation_is_refused_for_one_reason.Goals as goal

pub returns : goal.returns
returns c files name one other a b =
    one_presentation_fault c.a_presentation_file_has_one_fault.ensures files name one other a b
