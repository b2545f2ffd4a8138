use Rattle.std.proofs.Common.{ℕ, List, [], sym, ◌∙◌, subst}
use Rattle.std.proofs.lemmas.Bool.{false≢true}
use Rattle.kb_fsa.specs.Table.{IsLive}
use Rattle.kb_diff.specs.Groups.{group_of}
use Rattle.kb_labels.specs.declared.config.Config.{Config}
use Rattle.kb_labels.specs.Layers.{Adds, IsLayer, IsOne}
use Rattle.kb_labels.proofs.Layering.{first_layer, no_layer}
use Rattle.kb_labels.proofs.search.Search.first_layer.Goals.{then-is_live+in_ok-add, else-is_live}
use Rattle.kb_labels.proofs.search.Search.first_layer.Goals as goal

pub returns : goal.returns
returns g c =
    let it = c.args.self.now in
    let group = group_of it.presentation.now (g.R.Reducer.rules it.reducer.now) in
    let table = it.multiplier.now.table in
    let P : List Config → Type 0 = λ cs. IsLayer group table 0 cs c.if-is_live.layer.words.items in
    elim c.if-is_live.branch [
      | then-is_live+in_ok-add w ↦
          let config : Config = record { state = c.initial-state.result; label = w.new-label.result } in
          let now = w.add.new.self in
          let A : List Config → Type 0 = λ cs. Adds (IsOne config w.new.result) cs c.new-layer.result.words.items now.configs.keys now.words.items in
          let B : List (List ℕ) → Type 0 = λ ws. Adds (IsOne config w.new.result) [] ws now.configs.keys now.words.items in
          let adds = subst B c.new-layer.ensures.words (subst A c.new-layer.ensures.configs w.in_ok-add.ensures) in
          let is = first_layer group table config w.new.result now.configs.keys now.words.items w.new-label.ensures c.initial-state.ensures
          (c.is_live.ensures.0 w.if-is_live.true) w.new.ensures adds in
          rw w.layer-is is
      | else-is_live w ↦
          let L : ℕ → Type 0 = λ s. IsLive table s in
          let dead : ¬ IsLive table table.initial =
          λ live. false≢true (sym w.if-is_live.false ∙ c.is_live.ensures.1 (subst L (sym c.initial-state.ensures) live)) in
          let Q : List (List ℕ) → Type 0 = λ ws. IsLayer group table 0 [] ws in
          let C : List Config → Type 0 = λ cs. IsLayer group table 0 cs c.new-layer.result.words.items in
          let is = subst C (sym c.new-layer.ensures.configs) (subst Q (sym c.new-layer.ensures.words) (no_layer group table dead)) in
          rw w.layer-is is
    ]
