use Rattle.std.proofs.Common.{◌≡◌, ℕ, List, sym, ap, subst}
use Rattle.std.specs.Result.{IfOk}
use Rattle.kb_fsa.specs.Table.{Moves, Table}
use Rattle.kb_fsarat.specs.Layers.{IsLayer, AreTurned, Layering}
use Rattle.kb_fsarat.proofs.LayerLemmas.{layer_after, length_unrepeated}
use Rattle.kb_fsarat.proofs.layers.Layers.next.Goals as goal

pub returns-clause-set : goal.returns-clause-set
returns-clause-set c =
    let table = c.self.inside.table.now in
    let sets = c.self.inside.sets.keys in
    let last = c.in-Some.last.now in
    let r = c.set_before-set.result in
    let own : table ≡ c.args.self.now.table = ap (λ (layers : Layering). layers.table) c.self.view_is in
    let count = length_unrepeated c.self.inside.repeats_from sets c.args.self.now.count (ap (λ (layers : Layering). layers.count) c.self.view_is) c.requires in
    let Turned : List Moves → Type 0 = λ rows. AreTurned table rows in
    let P : Table → ℕ → Type 0 = λ table k. IfOk r (IsLayer table k) in
    subst (λ (table : Table). P table c.args.self.now.count) own
    (subst (P table) count
    (layer_after table c.as_slice.result.now sets last r c.self.invariant.0.is_table
    (subst Turned (sym c.as_slice.ensures.value) c.in_ok-turned.ensures) c.self.invariant.0.layers c.in-Some.ensures.key c.set_before-set.ensures))
