use Rattle.std.proofs.Common.{subst}
use Rattle.std.proofs.lemmas.List.{take_rest}
use Rattle.kb_lexing.specs.Spelling.{GoesOnAsName}
use Rattle.kb_lexing.specs.Lexemes.{IsLongestFront}
use Rattle.kb_lexing.proofs.FirstTokens.{word_ascii}
use Rattle.kb_lexing.proofs.lexer.name.Goals as goal

pub ascii-spelling-requires : goal.ascii-spelling-requires
ascii-spelling-requires c =
    let text = c.args.text.now in
    let n = c.name_rest_len-len.result in
    let h = subst (λ rest. IsLongestFront GoesOnAsName rest n) (take_rest text 1) c.name_rest_len-len.ensures in
    word_ascii text n c.requires h.formed
