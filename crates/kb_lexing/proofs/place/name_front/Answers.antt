use Rattle.std.proofs.Common.{rules, ◌-◌, ◌∙◌, length, take, drop, get_or, ap, subst}
use Rattle.std.proofs.lemmas.Bool.{iff_false}
use Rattle.std.proofs.lemmas.List.{take_rest}
use Rattle.kb_lexing.specs.Spelling.{BeginsNames, GoesOnAsName}
use Rattle.kb_lexing.specs.Lexemes.{BeginsWith, IsLongestFront}
use Rattle.kb_lexing.proofs.ExpectedFronts.{name_dotted, name_undotted}
use Rattle.kb_lexing.proofs.place.name_front.Goals as goal

pub returns-then-begins_with : goal.returns-then-begins_with
returns-then-begins_with c =
    let text = c.args.bytes.now in
    let n = c.name_rest_len-len.result in
    let longest = subst (λ x. IsLongestFront GoesOnAsName x n) (take_rest text 1) c.name_rest_len-len.ensures in
    let at : BeginsNames (get_or text 0 0) = search rules in
    let behind = take_rest (take (length text - 1) (drop 1 text)) n ∙ ap (λ x. drop n x) (take_rest text 1) in
    name_dotted text n at longest (subst (λ x. BeginsWith 46 x) behind (c.begins_with.ensures.0 c.if-begins_with.true))

pub returns-else-begins_with : goal.returns-else-begins_with
returns-else-begins_with c =
    let text = c.args.bytes.now in
    let n = c.name_rest_len-len.result in
    let longest = subst (λ x. IsLongestFront GoesOnAsName x n) (take_rest text 1) c.name_rest_len-len.ensures in
    let at : BeginsNames (get_or text 0 0) = search rules in
    let behind = take_rest (take (length text - 1) (drop 1 text)) n ∙ ap (λ x. drop n x) (take_rest text 1) in
    name_undotted text n at longest (subst (λ x. ¬ BeginsWith 46 x) behind (iff_false c.begins_with.ensures c.if-begins_with.false))
