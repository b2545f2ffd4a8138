use Rattle.kb_task.proofs.OneReason.{one_group_fault}
use Rattle.kb_task.proofs.laws.a_group_is_refused_for_one_reason.Goals as goal

pub returns : goal.returns
returns c files name one other a b =
    one_group_fault c.a_presentation_file_has_one_fault.ensures c.a_presentation_file_has_no_fault.ensures c.a_text_says_one_presentation.ensures files name one other a b
