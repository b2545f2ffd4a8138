use Rattle.std.proofs.Common.{◌≡◌, ◌∙◌, decimal, sym, ap, Ok, true≢false}
use Rattle.std.proofs.lemmas.Fmt.{parse-decimal}
use Rattle.kb_proof.proofs.TextLemmas.{decimal_utf8}
use Rattle.kb_proof.proofs.numbers.read_u64.Goals as goal

pub returns-in_default : goal.returns-in_default
returns-in_default c = λ n small e. c.in_default.ensures.cases.0 (decimal_utf8 n c.args.bytes.now small e)

pub returns-in_default-parse : goal.returns-in_default-parse
returns-in_default-parse c = λ n small e.
    let is : c.parse.result ≡ Ok n =
    parse-decimal 64 n c.in-Ok.digits.now c.parse.result small small (c.in-Ok.ensures.cases.0 ∙ e) c.parse.ensures.value.0 in
    absurd cc

pub returns-else-is_text_of : goal.returns-else-is_text_of
returns-else-is_text_of c = λ n small e.
    let is : c.parse.result ≡ Ok n =
    parse-decimal 64 n c.in-Ok.digits.now c.parse.result small small (c.in-Ok.ensures.cases.0 ∙ e) c.parse.ensures.value.0 in
    let same : n ≡ c.in-Ok-parse.number = cc in
    true≢false (sym (c.is_text_of.ensures.1 (e ∙ ap decimal same)) ∙ c.if-is_text_of.false)
