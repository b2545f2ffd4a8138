use Rattle.std.proofs.Common.{rules, ◌≡◌, ◌∷◌, ◌-◌, ◌<◌, length, take, drop, get_or, sym, subst, ◌∙◌, arith}
use Rattle.std.specs.Prelude.{IfSome}
use Rattle.kb_lexing.specs.Token.{name}
use Rattle.kb_lexing.specs.Spelling.{after_gap}
use Rattle.kb_wordreader.specs.Factors.{Adds, NameFront, BaseFront, GroupFront}
use Rattle.kb_wordreader.proofs.PassLemmas.{mark_split}
use Rattle.kb_wordreader.proofs.FactorLemmas.{name_front, name_base, token_shorter, group_base, going_more, going_ends, adds_as, mark_shorter, if_some}
use Rattle.kb_wordreader.proofs.factors.+factors.Goals as goal

pub take_base-returns-in-Some-clause-takes : goal.take_base-returns-in-Some-clause-takes
take_base-returns-in-Some-clause-takes t c =
    let names = c.args.presentation.now.names in
    let text = c.args.text.now in
    let rest = c.in-Some.rest.now in
    let old = c.args.word.now in
    let new = c.take_short.new.word in
    adds_as (NameFront names text rest) (BaseFront names c.args.presentation.now.inv c.args.depth text rest) old new (name_base names c.args.presentation.now.inv c.args.depth text rest)
    (name_front names text rest old new c.in-Some.ensures.takes)

pub take_base-returns-in-Some-clause-shorter : goal.take_base-returns-in-Some-clause-shorter
take_base-returns-in-Some-clause-shorter t c =
    let taken = c.in-Some.ensures.takes in
    token_shorter (name taken.spelling) c.args.text.now c.in-Some.rest.now taken.first

pub take_base-returns-in-40-clause-takes : goal.take_base-returns-in-40-clause-takes
take_base-returns-in-40-clause-takes t c =
    let names = c.args.presentation.now.names in
    let inverses = c.args.presentation.now.inv in
    let depth = c.args.depth in
    let text = c.behind_gap.result.now in
    let inside = take (length text - 1) (drop 1 text) in
    let old = c.args.word.now in
    let new = c.take_group.new.word in
    let kept : c.take_short.new.word ≡ old = search rules in
    let begun : get_or text 0 0 ≡ 40 = search rules in
    let at : after_gap c.args.text.now ≡ 40 ∷ inside = sym c.behind_gap.ensures ∙ mark_split 40 text (omega (arith, c.in-40.len_at_least)) begun in
    if_some c.take_group.result (λ rest. Adds (GroupFront names inverses depth inside rest.now) old new) (λ rest. Adds (BaseFront names inverses depth c.args.text.now rest.now) old new)
    (λ rest. adds_as (GroupFront names inverses depth inside rest.now) (BaseFront names inverses depth c.args.text.now rest.now) old new (λ letters. group_base names inverses depth c.args.text.now inside rest.now letters at))
    (subst (λ w. IfSome c.take_group.result (λ rest. Adds (GroupFront names inverses depth inside rest.now) w new)) kept c.take_group.ensures.takes)

pub take_base-returns-in-40-clause-shorter : goal.take_base-returns-in-40-clause-shorter
take_base-returns-in-40-clause-shorter t c =
    let text = c.behind_gap.result.now in
    let inside = take (length text - 1) (drop 1 text) in
    let begun : get_or text 0 0 ≡ 40 = search rules in
    let at : after_gap c.args.text.now ≡ 40 ∷ inside = sym c.behind_gap.ensures ∙ mark_split 40 text (omega (arith, c.in-40.len_at_least)) begun in
    let less = mark_shorter 40 c.args.text.now inside at in
    if_some c.take_group.result (λ rest. length rest.now < length inside) (λ rest. length rest.now < length c.args.text.now) (λ rest h. omega (arith, less, h)) c.take_group.ensures.shorter

pub take_base-returns-clause-takes : goal.take_base-returns-clause-takes
take_base-returns-clause-takes t c =
    let names = c.args.presentation.now.names in
    let inverses = c.args.presentation.now.inv in
    let old = c.args.word.now in
    let new = c.take_letter.new.word in
    let kept : c.take_short.new.word ≡ old = search rules in
    if_some c.take_letter.result (λ rest. Adds (NameFront names c.args.text.now rest.now) old new) (λ rest. Adds (BaseFront names inverses c.args.depth c.args.text.now rest.now) old new)
    (λ rest. adds_as (NameFront names c.args.text.now rest.now) (BaseFront names inverses c.args.depth c.args.text.now rest.now) old new (λ letters. name_base names inverses c.args.depth c.args.text.now rest.now letters))
    (subst (λ w. IfSome c.take_letter.result (λ rest. Adds (NameFront names c.args.text.now rest.now) w new)) kept c.take_letter.ensures.takes)

pub take_factors-loop-rest-smaller : goal.take_factors-loop-rest-smaller
take_factors-loop-rest-smaller t c =
    let text = c.behind_gap.result.now in
    let next = take (length text - 1) (drop 1 text) in
    let begun : get_or text 0 0 ≡ 42 = search rules in
    let at : after_gap c.in_ok-rest.rest.now ≡ 42 ∷ next = sym c.behind_gap.ensures ∙ mark_split 42 text (omega (arith, c.in-42.len_at_least)) begun in
    omega (arith, mark_shorter 42 c.in_ok-rest.rest.now next at, c.in_ok-rest.ensures.shorter)

pub take_factors-loop-rest-preserved : goal.take_factors-loop-rest-preserved
take_factors-loop-rest-preserved t c =
    let l = c.loop-rest in
    let text = c.behind_gap.result.now in
    let next = take (length text - 1) (drop 1 text) in
    let begun : get_or text 0 0 ≡ 42 = search rules in
    let at : after_gap c.in_ok-rest.rest.now ≡ 42 ∷ next = sym c.behind_gap.ensures ∙ mark_split 42 text (omega (arith, c.in-42.len_at_least)) begun in
    record {
      going = going_more c.args.presentation.now.names c.args.presentation.now.inv c.args.depth c.args.text.now l.text.now c.in_ok-rest.rest.now c.args.word.now l.word c.take_factor.new.word
          l.invariant.going c.in_ok-rest.ensures.takes c.in_ok-rest.ensures.few next at;
      few = c.in_ok-rest.ensures.few;
      shorter = omega (arith, mark_shorter 42 c.in_ok-rest.rest.now next at, c.in_ok-rest.ensures.shorter, l.invariant.shorter);
    }

pub take_factors-returns-in_default-clause-takes : goal.take_factors-returns-in_default-clause-takes
take_factors-returns-in_default-clause-takes t c =
    let l = c.loop-rest in
    going_ends c.args.presentation.now.names c.args.presentation.now.inv c.args.depth c.args.text.now l.text.now c.in_ok-rest.rest.now c.args.word.now l.word c.take_factor.new.word
    l.invariant.going c.in_ok-rest.ensures.takes c.in_ok-rest.ensures.few

pub take_group-returns-in-41-clause-shorter : goal.take_group-returns-in-41-clause-shorter
take_group-returns-in-41-clause-shorter t c =
    let text = c.behind_gap.result.now in
    let behind = take (length text - 1) (drop 1 text) in
    let begun : get_or text 0 0 ≡ 41 = search rules in
    let at : after_gap c.in_ok-rest.rest.now ≡ 41 ∷ behind = sym c.behind_gap.ensures ∙ mark_split 41 text (omega (arith, c.in-41.len_at_least)) begun in
    omega (arith, mark_shorter 41 c.in_ok-rest.rest.now behind at, c.in_ok-rest.ensures.shorter)
