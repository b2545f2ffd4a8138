use Rattle.std.proofs.Common.{◌≡◌, ℕ, ◌++◌, ◌∷◌, [], List, sym, ap, ◌∙◌, subst, arith}
use Rattle.std.proofs.lemmas.Result.{on_ok_weaker}
use Rattle.kb_diff.specs.Groups.{group_of}
use Rattle.kb_labels.specs.declared.config.Config.{Config}
use Rattle.kb_labels.specs.Labels.{Turns}
use Rattle.kb_labels.specs.Layers.{IsMove, longer}
use Rattle.kb_labels.proofs.LayerMoves.{adds_by_move}
use Rattle.kb_labels.proofs.search.Search.add_move.Goals as goal

pub returns : goal.returns
returns g c =
    let it = c.args.self.now in
    let group = group_of it.presentation.now (g.R.Reducer.rules it.reducer.now) in
    let table = it.multiplier.now.table in
    let from = c.args.config.now in
    let symbol : ℕ = c.args.by.0 in
    let T : List ℕ → Type 0 = λ w. Turns group from.label symbol w in
    let to : Config = record { state = c.args.by.1; label = c.in_ok-label.label } in
    let move : IsMove group table from symbol to = record {
      letter = omega (arith, c.if-first-from.false, c.first-first.ensures, c.from.ensures);
      leads = c.requires.target;
      live = c.is_live.ensures.0 c.if-not-is_live.false;
      turned = subst T (sym c.in_ok-label.ensures) c.in_ok-turn.ensures;
    } in
    let more_is : c.push.new.self ≡ longer group c.args.word.now symbol =
    c.in_ok-push.ensures.ok ∙ ap (λ w. w ++ c.new.result ∷ []) c.in_ok-longer.ensures
    ∙ ap (λ k. c.args.word.now ++ k ∷ []) (c.new.ensures ∙ c.first-first.ensures) in
    on_ok_weaker c.add.result
    (adds_by_move group table from c.args.word.now symbol to c.push.new.self c.args.next.now.configs.keys c.args.next.now.words.items
    c.add.new.self.configs.keys c.add.new.self.words.items move more_is) c.add.ensures
