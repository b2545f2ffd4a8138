use Rattle.std.proofs.Common.{subst}
use Rattle.std.proofs.lemmas.Bool.{iff_false}
use Rattle.std.proofs.lemmas.List.{take_rest}
use Rattle.kb_lexing.specs.Lexemes.{IsLongestFront, AreFewDigits}
use Rattle.kb_lexing.proofs.LongestFronts.{longest_digits}
use Rattle.kb_lexing.proofs.ExpectedValues.{digits_begin, negative_of}
use Rattle.kb_lexing.proofs.place.number_front.Goals as goal

pub returns-then-begins_with : goal.returns-then-begins_with
returns-then-begins_with c =
    let text = c.args.bytes.now in
    let n = c.digits_len.result in
    let longest = subst (λ x. IsLongestFront AreFewDigits x n) (take_rest text 1) (longest_digits _ n c.digits_len.ensures) in
    negative_of text n (c.begins_with.ensures.0 c.if-begins_with.true) longest

pub returns-else-begins_with : goal.returns-else-begins_with
returns-else-begins_with c =
    let text = c.args.bytes.now in
    let n = c.digits_len-else-begins_with.result in
    digits_begin text n (iff_false c.begins_with.ensures c.if-begins_with.false) (longest_digits text n c.digits_len-else-begins_with.ensures)
