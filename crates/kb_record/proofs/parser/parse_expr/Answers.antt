use Rattle.std.proofs.Common.{◌≡◌, List, Err, sym, ap, ◌∙◌, subst}
use Rattle.kb_record.specs.Nesting.{deepest}
use Rattle.kb_lexing.proofs.FrontTokens.{tokens_of}
use Rattle.kb_lexing.specs.Token.{Token}
use Rattle.kb_record.proofs.ByteFaults.{word_fault}
use Rattle.kb_record.specs.Reading.{Reads, remaining, read_word, finished}
use Rattle.kb_record.specs.View.{word_view}
use Rattle.kb_record.proofs.TokensToBytes.{LexedOf, word_read, word_shallow}
use Rattle.kb_record.proofs.parser.parse_expr.Goals as goal

pub returns-in-Ok-clause-read : goal.returns-in-Ok-clause-read
returns-in-Ok-clause-read c =
    let begun : remaining c.new-tokens.result ≡ tokens_of c.args.bytes.now = c.new-tokens.ensures in
    let facts : LexedOf c.args.bytes.now c.has_tokens.result = record { all = c.has_tokens.ensures.all; none = c.has_tokens.ensures.none } in
    word_read c.args.bytes.now c.has_tokens.result (word_view c.in-Ok.word) _ facts (ap (λ ts. finished c.has_tokens.result (read_word deepest ts)) (sym begun) ∙ c.in-Ok.ensures)

pub returns-in-Ok-clause-shallow : goal.returns-in-Ok-clause-shallow
returns-in-Ok-clause-shallow c = word_shallow c.has_tokens.result (remaining c.new-tokens.result) _ (word_view c.in-Ok.word) c.in-Ok.ensures

pub returns-in-Err-clause-fault : goal.returns-in-Err-clause-fault
returns-in-Err-clause-fault c =
    let begun : remaining c.new-tokens.result ≡ tokens_of c.args.bytes.now = c.new-tokens.ensures in
    let facts : LexedOf c.args.bytes.now c.has_tokens.result = record { all = c.has_tokens.ensures.all; none = c.has_tokens.ensures.none } in
    let P : List Token → Type 0 = λ ts. Reads (finished c.has_tokens.result (read_word deepest ts)) word_view (Err c.in-Err.stop) (remaining c.whole_word.new.tokens) in
    word_fault c.args.bytes.now c.has_tokens.result (remaining c.whole_word.new.tokens) c.passed.result c.in-Err.stop c.error_at.result facts (subst P begun c.in-Err.ensures) c.passed.ensures c.error_at.ensures
