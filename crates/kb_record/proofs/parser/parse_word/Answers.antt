use Rattle.std.proofs.Common.{◌≡◌, List, sym, ap, ◌∙◌, subst, Err}
use Rattle.kb_record.specs.Nesting.{deepest}
use Rattle.kb_record.specs.Meaning.{word_meaning}
use Rattle.kb_record.specs.Tree.{Factors}
use Rattle.kb_lexing.specs.Token.{Token}
use Rattle.kb_lexing.proofs.FrontTokens.{tokens_of}
use Rattle.kb_record.specs.Reading.{Reads, remaining, read_word, finished}
use Rattle.kb_record.proofs.TokensToBytes.{LexedOf}
use Rattle.kb_record.proofs.Outcomes.{word_is, word_if_ok, fault_if_err, tree_fault, stopped}
use Rattle.kb_record.proofs.parser.parse_word.Goals as goal

pub returns-in-Ok-clause-read : goal.returns-in-Ok-clause-read
returns-in-Ok-clause-read c =
    let names = c.args.presentation.now.names in
    let inverses = c.args.presentation.now.inv in
    let begun : remaining c.new-tokens.result ≡ tokens_of c.args.bytes.now = c.new-tokens.ensures in
    let facts : LexedOf c.args.bytes.now c.has_tokens.result = record { all = c.has_tokens.ensures.all; none = c.has_tokens.ensures.none } in
    let tree = c.in-Ok.ensures.0 in
    word_if_ok names inverses c.args.bytes.now (word_meaning names inverses tree) c.in-Ok.outcome
    (word_is names inverses c.args.bytes.now c.has_tokens.result tree _ facts (ap (λ ts. finished c.has_tokens.result (read_word deepest ts)) (sym begun) ∙ c.in-Ok.ensures.1)) c.in-Ok.ensures.2

pub returns-in-Ok-clause-fault : goal.returns-in-Ok-clause-fault
returns-in-Ok-clause-fault c =
    let names = c.args.presentation.now.names in
    let inverses = c.args.presentation.now.inv in
    let begun : remaining c.new-tokens.result ≡ tokens_of c.args.bytes.now = c.new-tokens.ensures in
    let facts : LexedOf c.args.bytes.now c.has_tokens.result = record { all = c.has_tokens.ensures.all; none = c.has_tokens.ensures.none } in
    let tree = c.in-Ok.ensures.0 in
    fault_if_err names inverses c.args.bytes.now (word_meaning names inverses tree) c.in-Ok.outcome
    (word_is names inverses c.args.bytes.now c.has_tokens.result tree _ facts (ap (λ ts. finished c.has_tokens.result (read_word deepest ts)) (sym begun) ∙ c.in-Ok.ensures.1)) c.in-Ok.ensures.2

pub returns-in-Err-clause-fault : goal.returns-in-Err-clause-fault
returns-in-Err-clause-fault c =
    let begun : remaining c.new-tokens.result ≡ tokens_of c.args.bytes.now = c.new-tokens.ensures in
    let facts : LexedOf c.args.bytes.now c.has_tokens.result = record { all = c.has_tokens.ensures.all; none = c.has_tokens.ensures.none } in
    let P : List Token → Type 0 = λ ts. Reads (finished c.has_tokens.result (read_word deepest ts)) (λ (tree : Factors). tree) (Err c.in-Err.stop) (remaining c.whole_product.new.tokens) in
    tree_fault c.args.presentation.now.names c.args.presentation.now.inv c.args.bytes.now c.error_at.result c.from.result c.from.ensures
    (stopped c.args.bytes.now c.has_tokens.result (remaining c.whole_product.new.tokens) c.passed.result c.in-Err.stop c.error_at.result facts (subst P begun c.in-Err.ensures) c.passed.ensures c.error_at.ensures)
