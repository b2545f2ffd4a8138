use Rattle.std.proofs.Common.{◌≡◌, ◌+◌, ◌-◌, ◌<◌, length, ◌-ℤ◌, pos, neg_ℤ, take, drop, to_z, of_z, w64, sym, ap, ◌∙◌, subst, arith}
use Rattle.std.proofs.lemmas.Int.{ints}
use Rattle.std.proofs.lemmas.List.{take_rest}
use Rattle.kb_lexing.specs.Spelling.{FirstToken, value_after, opposite}
use Rattle.kb_lexing.specs.Lexemes.{IsLongestFront, AreFewDigits}
use Rattle.kb_lexing.specs.Token as tree
use Rattle.kb_lexing.proofs.FirstTokens.{negative_first, negative_none, opposite_is}
use Rattle.kb_lexing.proofs.LongestFronts.{longest_digits}
use Rattle.kb_lexing.proofs.lexer.negative_number.Goals as goal

pub returns-then-len-eq0 : goal.returns-then-len-eq0
returns-then-len-eq0 c =
    let text = c.args.text.now in
    let h = longest_digits _ _ c.digits_len-len.ensures in
    let front : IsLongestFront AreFewDigits (drop 1 text) c.digits_len-len.result = subst (λ rest. IsLongestFront AreFewDigits rest c.digits_len-len.result) (take_rest text 1) h in
    negative_none text c.requires (subst (λ n. IsLongestFront AreFewDigits (drop 1 text) n) c.if-len-eq0.true front)

pub digits_value-requires : goal.digits_value-requires
digits_value-requires c = (longest_digits (take (length c.args.text.now - 1) (drop 1 c.args.text.now)) _ c.digits_len-len.ensures).formed

pub returns : goal.returns
returns c =
    let text = c.args.text.now in
    let n = c.digits_len-len.result in
    let h = longest_digits _ _ c.digits_len-len.ensures in
    let front : IsLongestFront AreFewDigits (drop 1 text) n = subst (λ rest. IsLongestFront AreFewDigits rest n) (take_rest text 1) h in
    let some : 0 < n = omega (arith, c.if-len-eq0.false) in
    let found = negative_first text n c.requires front some in
    let digits = value_after 0 (take n (take (length text - 1) (drop 1 text))) in
    let value : to_z w64 (of_z w64 (pos 0 -ℤ to_z w64 (of_z w64 c.digits_value.result))) ≡ neg_ℤ (pos digits) = omega (arith, ints, c.digits_value.ensures) in
    let spelled = value ∙ opposite_is digits ∙ ap (λ rest. opposite (value_after 0 (take n rest))) (take_rest text 1) in
    (subst (λ z. FirstToken text (tree.number z) (drop (1 + n) text)) (sym spelled) found.first, found.some, found.within)
