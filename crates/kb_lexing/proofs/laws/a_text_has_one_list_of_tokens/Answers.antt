use Rattle.kb_lexing.proofs.OneToken.{one_list}
use Rattle.kb_lexing.proofs.laws.a_text_has_one_list_of_tokens.Goals as goal

pub returns : goal.returns
returns c = one_list
