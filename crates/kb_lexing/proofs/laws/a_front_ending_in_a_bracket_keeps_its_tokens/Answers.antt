use Rattle.kb_lexing.proofs.TokenFronts.{front_tokens}
use Rattle.kb_lexing.proofs.laws.a_front_ending_in_a_bracket_keeps_its_tokens.Goals as goal

pub returns : goal.returns
returns c = front_tokens
