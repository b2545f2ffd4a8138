use Rattle.kb_task.proofs.OneReason.{one_automaton_fault}
use Rattle.kb_task.proofs.laws.an_automaton_is_refused_for_one_reason.Goals as goal

pub returns : goal.returns
returns c kind files name one other a b =
    one_automaton_fault c.an_automaton_file_has_one_fault.ensures c.an_automaton_file_has_no_fault.ensures kind files name one other a b
