use Rattle.std.proofs.Common.{◌≡◌, ℕ, ap, subst}
use Rattle.std.specs.Option.{IfSome}
use Rattle.kb_fsa.specs.Table.{Table}
use Rattle.kb_fsarat.specs.Layers.{IsLayer, ComesRound, Layering}
use Rattle.kb_fsarat.proofs.LayerLemmas.{layer_at}
use Rattle.kb_fsarat.proofs.layers.Layers.set.Goals as goal

pub returns-clause-layer : goal.returns-clause-layer
returns-clause-layer c =
    let table = c.self.inside.table.now in
    let from = c.self.inside.repeats_from in
    let own : table ≡ c.args.self.now.table = ap (λ (layers : Layering). layers.table) c.self.view_is in
    let Comes : ℕ → Type 0 = λ count. IfSome from (λ start. ComesRound start count c.args.length c.place_of.result) in
    subst (λ (table : Table). IsLayer table c.args.length c.index.result.now) own
    (layer_at table c.self.inside.sets.keys from c.args.length c.place_of.result c.index.result.now c.self.invariant.0 c.place_of.ensures.none
    (subst Comes c.len.ensures.len c.place_of.ensures.some) c.index.ensures)
