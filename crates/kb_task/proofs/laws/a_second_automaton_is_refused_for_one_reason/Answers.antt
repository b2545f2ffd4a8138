use Rattle.kb_task.proofs.OneReason.{one_second_fault}
use Rattle.kb_task.proofs.laws.a_second_automaton_is_refused_for_one_reason.Goals as goal

pub returns : goal.returns
returns c kind names alphabet files name one other a b =
    one_second_fault c.an_automaton_file_has_one_fault.ensures c.an_automaton_file_has_no_fault.ensures kind c.a_text_says_one_automaton.ensures names alphabet files name one other a b
