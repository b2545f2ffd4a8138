use Rattle.kb_cmd_words.specs.LogLineLaws.{one_finding}
use Rattle.kb_cmd_words.proofs.laws.the_lines_of_a_log_have_one_answer.Goals as goal

pub returns : goal.returns
returns c parts log same one other says = one_finding parts log same says one other
