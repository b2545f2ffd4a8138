use Rattle.std.proofs.Common.{◌≡◌, ◌<◌, ◌≤◌, length, slice_get, List, Some, rules, refl, subst}
use Rattle.std.proofs.lemmas.Option.{slice_get_read}
use Rattle.kb_word.specs.Words.{Pair, EndsWith}
use Rattle.kb_rules.specs.Ending.{IsFirstEnding, NoneEnds}
use Rattle.kb_rules.proofs.Listed.{NoneBefore-more, NoneBefore-all}
use Rattle.kb_rules.proofs.scan.first_ending.Goals as goal

pub returns-then-ends_with-clause-some : goal.returns-then-ends_with-clause-some
returns-then-ends_with-clause-some c =
    let items : List Pair = c.as_slice-rule-items.result.now in
    let within : c.loop-index.index < length items = search rules in
    let is : slice_get items c.loop-index.index ≡ Some c.rule-item.result =
    slice_get_read items (length items) c.loop-index.index c.rule-item.result refl within c.rule-item.is in
    let ends : EndsWith c.args.word.now c.rule-item.result.0 = search rules in
    let P : List Pair → Type 0 = λ pairs. IsFirstEnding pairs c.args.word.now c.loop-index.index c.rule-item.result in
    subst P c.as_slice-rule-items.ensures.rules (record { is_rule = is; ends = ends; first = c.loop-index.invariant })

pub loop-index-preserved : goal.loop-index-preserved
loop-index-preserved c =
    let items : List Pair = c.as_slice-rule-items.result.now in
    let within : c.loop-index.index < length items = search rules in
    let apart : ¬ EndsWith c.args.word.now c.rule-item.result.0 = search rules in
    NoneBefore-more (λ (pair : Pair). EndsWith c.args.word.now pair.0) items c.loop-index.index c.rule-item.result
    within c.rule-item.is c.loop-index.invariant apart

pub returns-clause-none : goal.returns-clause-none
returns-clause-none c =
    let items : List Pair = c.as_slice-rule-items.result.now in
    let all : length items ≤ c.loop-index.index = search rules in
    let P : List Pair → Type 0 = λ pairs. NoneEnds pairs c.args.word.now in
    subst P c.as_slice-rule-items.ensures.rules
    (NoneBefore-all (λ (pair : Pair). EndsWith c.args.word.now pair.0) items c.loop-index.index all c.loop-index.invariant)
