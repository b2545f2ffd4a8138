use Rattle.std.proofs.Common.{rules, ◌≡◌, ◌∷◌, ◌-◌, length, take, drop, get_or, Ok, Some, w64, SFits, to_z, of_z, sym, subst, ◌∙◌, arith}
use Rattle.std.proofs.lemmas.Int.{to_z-of_z}
use Rattle.kb_lexing.specs.Token.{number}
use Rattle.kb_lexing.specs.Spelling.{FirstToken, after_gap}
use Rattle.kb_record.specs.Meaning.{power_meaning}
use Rattle.kb_wordreader.specs.Factors.{PowerFront}
use Rattle.kb_wordreader.proofs.PassLemmas.{mark_split}
use Rattle.kb_wordreader.proofs.FactorLemmas.{no_power_added, some_power, adds_as, mark_shorter, token_shorter}
use Rattle.kb_wordreader.proofs.power.take_power.Goals as goal

pub returns-in_default-clause-takes : goal.returns-in_default-clause-takes
returns-in_default-clause-takes c =
    no_power_added c.args.presentation.now.names c.args.presentation.now.inv c.args.text.now c.args.word.now c.args.start

pub returns-clause-takes : goal.returns-clause-takes
returns-clause-takes c =
    let names = c.args.presentation.now.names in
    let inverses = c.args.presentation.now.inv in
    let text = c.behind_gap.result.now in
    let end = drop c.args.start c.args.word.now in
    let rest = c.in_ok-exponent.rest.now in
    let behind = take (length text - 1) (drop 1 text) in
    let z = c.in_ok-exponent.exponent in
    let fits : SFits w64 z = search rules in
    let first : FirstToken (after_gap behind) (number z) rest = subst (λ x. FirstToken x (number z) rest) c.behind_gap-2.ensures c.in_ok-exponent.ensures.some in
    let same : to_z w64 (of_z w64 z) ≡ z = to_z-of_z w64 z fits in
    let begun : get_or text 0 0 ≡ 94 = search rules in
    let at : after_gap c.args.text.now ≡ 94 ∷ take (length text - 1) (drop 1 text) = sym c.behind_gap.ensures ∙ mark_split 94 text (omega (arith, c.in-94.len_at_least)) begun in
    adds_as (λ letters. power_meaning names inverses (Some (to_z w64 (of_z w64 z))) end ≡ Ok letters) (PowerFront names inverses c.args.text.now rest end) (take c.args.start c.args.word.now) c.raise_end.new.word
    (λ letters means. some_power names inverses c.args.text.now (take (length text - 1) (drop 1 text)) rest end letters z at first (subst (λ y. power_meaning names inverses (Some y) end ≡ Ok letters) same means))
    c.in_ok-raise_end.ensures.raised

pub returns-clause-shorter : goal.returns-clause-shorter
returns-clause-shorter c =
    let text = c.behind_gap.result.now in
    let rest = c.in_ok-exponent.rest.now in
    let behind = take (length text - 1) (drop 1 text) in
    let z = c.in_ok-exponent.exponent in
    let first : FirstToken (after_gap behind) (number z) rest = subst (λ x. FirstToken x (number z) rest) c.behind_gap-2.ensures c.in_ok-exponent.ensures.some in
    let begun : get_or text 0 0 ≡ 94 = search rules in
    let at : after_gap c.args.text.now ≡ 94 ∷ behind = sym c.behind_gap.ensures ∙ mark_split 94 text (omega (arith, c.in-94.len_at_least)) begun in
    omega (arith, mark_shorter 94 c.args.text.now behind at, token_shorter (number z) behind rest first)
