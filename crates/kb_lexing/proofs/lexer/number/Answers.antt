use Rattle.std.proofs.Common.{◌≡◌, pos, take, drop, to_z, of_z, w64, sym, subst, arith}
use Rattle.std.proofs.lemmas.Int.{ints}
use Rattle.kb_lexing.specs.Spelling.{FirstToken, value_after}
use Rattle.kb_lexing.specs.Token as tree
use Rattle.kb_lexing.proofs.FirstTokens.{digits_first}
use Rattle.kb_lexing.proofs.LongestFronts.{longest_digits}
use Rattle.kb_lexing.proofs.lexer.number.Goals as goal

pub digits_value-requires : goal.digits_value-requires
digits_value-requires c = (longest_digits c.args.text.now _ c.digits_len-len.ensures).formed

pub returns : goal.returns
returns c =
    let text = c.args.text.now in
    let n = c.digits_len-len.result in
    let found = digits_first text n c.requires (longest_digits text n c.digits_len-len.ensures) in
    let value : to_z w64 (of_z w64 c.digits_value.result) ≡ pos (value_after 0 (take n text)) = omega (arith, ints, c.digits_value.ensures) in
    (subst (λ z. FirstToken text (tree.number z) (drop n text)) (sym value) found.first, found.some, found.within)
