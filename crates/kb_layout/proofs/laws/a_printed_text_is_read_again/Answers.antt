use Rattle.std.proofs.Common.{◌∷◌, ◌++◌, [], inr, refl}
use Rattle.kb_lexing.specs.Token.{name, assign, semicolon}
use Rattle.kb_record.specs.Tree.{record_value}
use Rattle.kb_record.specs.Grammar.{value_tokens}
use Rattle.kb_layout.proofs.PrintedTokens.{text_tokens}
use Rattle.kb_layout.proofs.laws.a_printed_text_is_read_again.Goals as goal

pub returns : goal.returns
returns c text named fields spelled = record {
  tokens = name text.title ∷ assign ∷ value_tokens (record_value text.fields) ++ semicolon ∷ [];
  spelled = text_tokens text named spelled;
  formed = (fields, inr refl);
}
