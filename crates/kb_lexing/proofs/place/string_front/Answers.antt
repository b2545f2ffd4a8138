use Rattle.std.proofs.Common.{◌-◌, ◌∙◌, length, take, drop, ap, subst}
use Rattle.std.specs.List.{AllByRecursion}
use Rattle.std.proofs.lemmas.Bool.{iff_false}
use Rattle.std.proofs.lemmas.List.{take_rest}
use Rattle.kb_lexing.specs.Spelling.{IsStringByte}
use Rattle.kb_lexing.specs.Lexemes.{BeginsWith, IsLongestFront}
use Rattle.kb_lexing.proofs.LongestFronts.{longest_string}
use Rattle.kb_lexing.proofs.ExpectedValues.{no_string_begins, string_unclosed, string_whole}
use Rattle.kb_lexing.proofs.place.string_front.Goals as goal

pub returns-then-not-begins_with : goal.returns-then-not-begins_with
returns-then-not-begins_with c = no_string_begins c.args.bytes.now (iff_false c.begins_with.ensures c.if-not-begins_with.true)

pub returns-then-begins_with : goal.returns-then-begins_with
returns-then-begins_with c =
    let text = c.args.bytes.now in
    let n = c.string_len-len.result in
    let longest = subst (λ x. IsLongestFront (AllByRecursion IsStringByte) x n) (take_rest text 1) (longest_string _ n c.string_len-len.ensures) in
    let behind = take_rest (take (length text - 1) (drop 1 text)) n ∙ ap (λ x. drop n x) (take_rest text 1) in
    string_whole text n (c.begins_with.ensures.0 c.if-not-begins_with.false) longest (subst (λ x. BeginsWith 34 x) behind (c.begins_with-2.ensures.0 c.if-begins_with.true))

pub returns-else-begins_with : goal.returns-else-begins_with
returns-else-begins_with c =
    let text = c.args.bytes.now in
    let n = c.string_len-len.result in
    let longest = subst (λ x. IsLongestFront (AllByRecursion IsStringByte) x n) (take_rest text 1) (longest_string _ n c.string_len-len.ensures) in
    let behind = take_rest (take (length text - 1) (drop 1 text)) n ∙ ap (λ x. drop n x) (take_rest text 1) in
    string_unclosed text n (c.begins_with.ensures.0 c.if-not-begins_with.false) longest (subst (λ x. ¬ BeginsWith 34 x) behind (iff_false c.begins_with-2.ensures c.if-begins_with.false))
