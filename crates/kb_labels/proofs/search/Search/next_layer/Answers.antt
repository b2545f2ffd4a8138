use Rattle.std.proofs.Common.{◌≡◌, ℕ, [], length, subst, arith}
use Rattle.kb_diff.specs.Groups.{group_of}
use Rattle.kb_labels.specs.Layers.{Adds, ComesFromFirst}
use Rattle.kb_labels.proofs.Adding.{read_item}
use Rattle.kb_labels.proofs.LayerMoves.{places_more}
use Rattle.kb_labels.proofs.search.Search.next_layer.Goals as goal

pub loop-place-preserved : goal.loop-place-preserved
loop-place-preserved g c =
    let it = c.args.self.now in
    let group = group_of it.presentation.now (g.R.Reducer.rules it.reducer.now) in
    let table = it.multiplier.now.table in
    let configs = c.args.layer.now.configs.keys in
    let words = c.args.layer.now.words.items in
    let place : ℕ = c.loop-place.place in
    places_more group table configs words place c.index-config.result.now c.index-word.result.now c.loop-place.next.configs.keys
    c.loop-place.next.words.items c.add_moves.new.next.configs.keys c.add_moves.new.next.words.items
    c.index-config.ensures
    (read_item words place c.index-word.result.now (omega (arith, c.loop-place-test.true, c.len-place-end.ensures)) c.index-word.ensures)
    c.loop-place.invariant c.in_ok-add_moves.ensures

pub returns : goal.returns
returns g c =
    let it = c.args.self.now in
    let group = group_of it.presentation.now (g.R.Reducer.rules it.reducer.now) in
    let table = it.multiplier.now.table in
    let configs = c.args.layer.now.configs.keys in
    let words = c.args.layer.now.words.items in
    let P : ℕ → Type 0 =
    λ k. Adds (ComesFromFirst group table configs words k) [] [] c.loop-place.next.configs.keys c.loop-place.next.words.items in
    let all : c.loop-place.place ≡ length words =
    omega (arith, c.loop-place-test.false, c.len-place-end.ensures, c.loop-place.auto.place-end) in
    subst P all c.loop-place.invariant
