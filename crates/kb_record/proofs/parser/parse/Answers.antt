use Rattle.std.proofs.Common.{◌≡◌, ◌≤◌, List, Err, sym, ap, ◌∙◌, subst}
use Rattle.kb_record.specs.Nesting.{deepest, text_nesting}
use Rattle.kb_record.specs.Grammar.{TextOf}
use Rattle.kb_record.specs.Tree.{TextTree}
use Rattle.kb_lexing.proofs.FrontTokens.{tokens_of}
use Rattle.kb_lexing.specs.Token.{Token}
use Rattle.kb_record.proofs.ByteFaults.{text_fault}
use Rattle.kb_record.specs.Reading.{Reads, remaining, read_ended, finished}
use Rattle.kb_record.specs.View.{rec_view}
use Rattle.kb_record.proofs.TokensToBytes.{LexedOf, text_read, text_shallow, text_alike}
use Rattle.kb_record.proofs.parser.parse.Goals as goal

pub returns-in-Ok-clause-read : goal.returns-in-Ok-clause-read
returns-in-Ok-clause-read c =
    let begun : remaining c.new-tokens.result ≡ tokens_of c.args.bytes.now = c.new-tokens.ensures in
    let facts : LexedOf c.args.bytes.now c.has_tokens.result = record { all = c.has_tokens.ensures.all; none = c.has_tokens.ensures.none } in
    let P : TextTree → Type 0 = λ text. TextOf c.args.bytes.now text in
    subst P (text_alike c.in-Ok.text) (text_read c.args.bytes.now c.has_tokens.result (rec_view c.in-Ok.text) _ facts (ap (λ ts. finished c.has_tokens.result (read_ended deepest ts)) (sym begun) ∙ c.in-Ok.ensures))

pub returns-in-Ok-clause-shallow : goal.returns-in-Ok-clause-shallow
returns-in-Ok-clause-shallow c =
    let P : TextTree → Type 0 = λ text. text_nesting text ≤ deepest in
    subst P (text_alike c.in-Ok.text) (text_shallow c.has_tokens.result (remaining c.new-tokens.result) _ (rec_view c.in-Ok.text) c.in-Ok.ensures)

pub returns-in-Err-clause-fault : goal.returns-in-Err-clause-fault
returns-in-Err-clause-fault c =
    let begun : remaining c.new-tokens.result ≡ tokens_of c.args.bytes.now = c.new-tokens.ensures in
    let facts : LexedOf c.args.bytes.now c.has_tokens.result = record { all = c.has_tokens.ensures.all; none = c.has_tokens.ensures.none } in
    let P : List Token → Type 0 = λ ts. Reads (finished c.has_tokens.result (read_ended deepest ts)) rec_view (Err c.in-Err.stop) (remaining c.whole_text.new.tokens) in
    text_fault c.args.bytes.now c.has_tokens.result (remaining c.whole_text.new.tokens) c.passed.result c.in-Err.stop c.error_at.result facts (subst P begun c.in-Err.ensures) c.passed.ensures c.error_at.ensures
