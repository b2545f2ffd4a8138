use Rattle.std.proofs.Common.{◌≡◌, ◌+◌, drop, refl, sym, ap, ◌∙◌, arith}
use Rattle.std.proofs.lemmas.List.{drop_all}
use Rattle.kb_record.specs.View.{places_of, written_place, written_places}
use Rattle.kb_layout.specs.Layout.{are_lists}
use Rattle.kb_layout.proofs.PrintedTrees.{places_from, one_list_more, no_lists, no_table_in, table_in, no_table_without}
use Rattle.kb_layout.proofs.trees.is_table.Goals as goal

pub loop-place-init : goal.loop-place-init
loop-place-init c = refl

pub returns-then-not-branch : goal.returns-then-not-branch
returns-then-not-branch c =
    let places = written_places c.args.places.now in
    let k = c.loop-place.place in
    let from = ap (λ ps. are_lists (places_of ps)) (places_from places k (written_place c.get.result) c.get.ensures) in
    sym (no_table_in places (c.loop-place.invariant ∙ from ∙ no_lists (written_place c.get.result) (drop (k + 1) places) (sym c.in_ok-is_list.ensures ∙ c.if-not-branch.true)))

pub loop-place-preserved : goal.loop-place-preserved
loop-place-preserved c =
    let places = written_places c.args.places.now in
    let k = c.loop-place.place in
    let from = ap (λ ps. are_lists (places_of ps)) (places_from places k (written_place c.get.result) c.get.ensures) in
    c.loop-place.invariant ∙ from ∙ one_list_more (written_place c.get.result) (drop (k + 1) places) (sym c.in_ok-is_list.ensures ∙ c.if-not-branch.false)

pub returns-then-count-eq0 : goal.returns-then-count-eq0
returns-then-count-eq0 c =
    let count = c.len-count.ensures in
    no_table_without (written_places c.args.places.now) (omega arith)

pub returns : goal.returns
returns c =
    let places = written_places c.args.places.now in
    let count = c.len-count.ensures in
    let none = drop_all c.loop-place.place places (omega (arith, count)) in
    table_in places (λ empty. omega (arith, count, empty)) (c.loop-place.invariant ∙ ap (λ ps. are_lists (places_of ps)) none)
