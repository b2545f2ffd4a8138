use Rattle.std.proofs.Common.{◌≡◌, ◌↔◌, ℕ, ◌+◌, ◌<◌, IsTrue, List, [], length, get_or, Option, Some, sym, ◌∙◌, subst, arith}
use Rattle.std.proofs.lemmas.Bool.{false≢true}
use Rattle.kb_word.specs.Words.{Less}
use Rattle.kb_diff.specs.Groups.{group_of}
use Rattle.kb_labels.specs.Layers.{IsLeastWrong}
use Rattle.kb_labels.proofs.LayerMoves.{none_yet, one_right, one_greater, one_taken}
use Rattle.kb_labels.proofs.search.Search.least_wrong.Goals.{then-is_less+in_ok-is_wrong+then-is_wrong, then-is_less+in_ok-is_wrong+else-is_wrong, else-is_less}
use Rattle.kb_labels.proofs.search.Search.least_wrong.Goals as goal

pub loop-place-init : goal.loop-place-init
loop-place-init g c =
    let it = c.args.self.now in
    let group = group_of it.presentation.now (g.R.Reducer.rules it.reducer.now) in
    let table = it.multiplier.now.table in
    none_yet group table c.args.layer.now.configs.keys c.args.layer.now.words.items it.end.now

pub loop-place-preserved : goal.loop-place-preserved
loop-place-preserved g c =
    let it = c.args.self.now in
    let group = group_of it.presentation.now (g.R.Reducer.rules it.reducer.now) in
    let table = it.multiplier.now.table in
    let configs = c.args.layer.now.configs.keys in
    let words = c.args.layer.now.words.items in
    let end : List ℕ = it.end.now in
    let place : ℕ = c.loop-place.place in
    let found = c.loop-place.found in
    let within : place < length words = omega (arith, c.loop-place-test.true, c.len-place-end.ensures) in
    let P : Option ℕ → Type 0 = λ o. IsLeastWrong group table end configs words (place + 1) o in
    let compared : (other : ℕ) → found ≡ Some other → IsTrue c.is_less.result ↔ Less (get_or words place []) (get_or words other []) =
    λ other is. (
    let L : List (List ℕ) → Type 0 = λ ws. IsTrue c.is_less.result ↔ Less (get_or ws place []) (get_or ws other []) in
    subst L c.deref.ensures.value (c.is_less.ensures.later other is)) in
    elim c.if-is_less.branch [
      | then-is_less+in_ok-is_wrong+then-is_wrong w ↦
          subst P (sym w.found-is)
          (one_taken group table configs words end place found w.index.result.now within
          w.index.ensures (w.in_ok-is_wrong.ensures.0 w.if-is_wrong.true)
          (λ other is. (compared other is).0 w.if-is_less.true) c.loop-place.invariant)
      | then-is_less+in_ok-is_wrong+else-is_wrong w ↦
          subst P (sym w.found-is)
          (one_right group table configs words end place found w.index.result.now
          w.index.ensures
          (λ wrong. false≢true (sym w.if-is_wrong.false ∙ w.in_ok-is_wrong.ensures.1 wrong)) c.loop-place.invariant)
      | else-is_less w ↦
          subst P (sym w.found-is)
          (one_greater group table configs words end place found
          (λ none. false≢true (sym w.if-is_less.false ∙ c.is_less.ensures.first none))
          (λ other is less. false≢true (sym w.if-is_less.false ∙ (compared other is).1 less)) c.loop-place.invariant)
    ]
