use Rattle.std.proofs.Common.{◌↔◌, ℕ, Bool, List, length, sym, subst}
use Rattle.std.specs.List.{Contains}
use Rattle.kb_fsarat.specs.Layers.{IsLayer}
use Rattle.kb_fsarat.specs.Reversal.{IsListed}
use Rattle.kb_fsarat.proofs.LayerLemmas.{layer_accepting}
use Rattle.kb_fsarat.proofs.Reversing.{listed_accepting}
use Rattle.kb_fsarat.proofs.layers.accepting_set.Goals as goal

pub returns : goal.returns
returns c =
    let table = c.args.table.now in
    let states = c.in_ok-states.states.items in
    let Listed : List Bool → Type 0 = λ accepting. (state : ℕ) → Contains states state ↔ IsListed accepting (length accepting) state in
    let P : List ℕ → Type 0 = λ set. IsLayer table 0 set in
    subst P (sym c.of.ensures)
    (layer_accepting table states
    (listed_accepting table states c.requires (subst Listed c.accepting.ensures.accepting c.in_ok-states.ensures)))
