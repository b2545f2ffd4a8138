use Rattle.kb_lexing.proofs.FrontTokens.{tokens_next}
use Rattle.kb_record.proofs.Ends.{ends_behind_token}
use Rattle.kb_record.proofs.next.next_in.Goals as goal

pub invariant_of-result : goal.invariant_of-result
invariant_of-result c = record {
  first = tokens_next c.args.text.now c.first_lexeme.result c.first_lexeme.ensures.first;
  ends = c.requires;
  behind = ends_behind_token c.args.whole.now c.args.text.now c.first_lexeme.result c.requires c.first_lexeme.ensures.first;
}
