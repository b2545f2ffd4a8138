use Rattle.std.proofs.Common.{◌≡◌, ℕ, suc, ◌+◌, List, [], length, get_or, Option, Some, sym, ◌∙◌, subst, refl, arith}
use Rattle.kb_word.specs.Words.{Pair}
use Rattle.kb_word.specs.Relations.{IsOver}
use Rattle.kb_word.specs.WordOrders.{Below}
use Rattle.kb_word.specs.Rewriting.{AreDecreasing}
use Rattle.kb_diff.specs.Groups.{group_of}
use Rattle.kb_diff.proofs.GroupLemmas.{empty_is_irreducible}
use Rattle.kb_leastpair.specs.LeastPair.{IsLeastWord}
use Rattle.kb_labels.specs.Layers.{IsLayer, IsLeastWrong, IsWrong}
use Rattle.kb_labels.proofs.Adding.{read_word}
use Rattle.kb_labels.proofs.LayerMoves.{found_within}
use Rattle.kb_labels.proofs.Layering.{answer_none, answer_some, layer_irreducible, next_is_layer, none_next, reaches_over, wrong_at}
use Rattle.kb_labels.proofs.search.Search.least_first.Goals as goal

pub returns-then-is_empty-clause-none : goal.returns-then-is_empty-clause-none
returns-then-is_empty-clause-none g c =
    let it = c.args.self.now in
    let group = group_of it.presentation.now (g.R.Reducer.rules it.reducer.now) in
    let table = it.multiplier.now.table in
    let layer = c.loop-size.layer in
    answer_none group table it.end.now c.loop-size._size layer.configs.keys layer.words.items
    (c.is_empty.ensures.0 c.if-is_empty.true) c.loop-size.invariant.0 c.loop-size.invariant.1

pub least_wrong-requires-clause-labels : goal.least_wrong-requires-clause-labels
least_wrong-requires-clause-labels g c =
    let it = c.args.self.now in
    let group = group_of it.presentation.now (g.R.Reducer.rules it.reducer.now) in
    let layer = c.loop-size.layer in
    let D : List Pair → Type 0 = λ rs. AreDecreasing (Below c.list.result.now.order) rs in
    let decreasing = subst D c.list.ensures.rules c.as_slice-rules.ensures.decreasing in
    layer_irreducible group it.multiplier.now.table c.loop-size._size layer.configs.keys layer.words.items
    (empty_is_irreducible c.list.result.now.order group.rules decreasing) c.loop-size.invariant.0

pub index-requires : goal.index-requires
index-requires g c =
    let it = c.args.self.now in
    let group = group_of it.presentation.now (g.R.Reducer.rules it.reducer.now) in
    let layer = c.loop-size.layer in
    let words = layer.words.items in
    let within = found_within group it.multiplier.now.table layer.configs.keys words it.end.now (length words) c.in_ok-place.field-0
    c.in_ok-place.ensures c.in-Some.place c.in-Some.is in
    omega (arith, within, layer.words.ok)

pub returns-in-Some-clause-found : goal.returns-in-Some-clause-found
returns-in-Some-clause-found g c =
    let it = c.args.self.now in
    let group = group_of it.presentation.now (g.R.Reducer.rules it.reducer.now) in
    let table = it.multiplier.now.table in
    let end : List ℕ = it.end.now in
    let configs = c.loop-size.layer.configs.keys in
    let words = c.loop-size.layer.words.items in
    let found : ℕ = c.in-Some.place in
    let P : Option ℕ → Type 0 = IsLeastWrong group table end configs words (length words) in
    let least = subst P c.in-Some.is c.in_ok-place.ensures in
    let within = found_within group table configs words end (length words) (Some found) least found refl in
    let is : c.in_ok-first-in-Some.first ≡ get_or words found [] =
    c.in_ok-first-in-Some.ensures ∙ read_word words found c.index.result.now within c.index.ensures in
    let W : List ℕ → Type 0 = IsLeastWord (IsWrong group table end) in
    subst W (sym is) (answer_some group table end c.loop-size._size configs words found c.loop-size.invariant.0 c.loop-size.invariant.1 least)

pub returns-in-Some-clause-over : goal.returns-in-Some-clause-over
returns-in-Some-clause-over g c =
    let it = c.args.self.now in
    let group = group_of it.presentation.now (g.R.Reducer.rules it.reducer.now) in
    let table = it.multiplier.now.table in
    let end : List ℕ = it.end.now in
    let configs = c.loop-size.layer.configs.keys in
    let words = c.loop-size.layer.words.items in
    let found : ℕ = c.in-Some.place in
    let P : Option ℕ → Type 0 = IsLeastWrong group table end configs words (length words) in
    let least = subst P c.in-Some.is c.in_ok-place.ensures in
    let within = found_within group table configs words end (length words) (Some found) least found refl in
    let is : c.in_ok-first-in-Some.first ≡ get_or words found [] =
    c.in_ok-first-in-Some.ensures ∙ read_word words found c.index.result.now within c.index.ensures in
    let wrong = wrong_at group table end c.loop-size._size configs words found c.loop-size.invariant.0 least in
    let O : List ℕ → Type 0 = IsOver group.n in
    subst O (sym is) (reaches_over group table c.loop-size._size (get_or words found []) wrong.0 wrong.1.0)

pub loop-size-preserved : goal.loop-size-preserved
loop-size-preserved g c =
    let it = c.args.self.now in
    let group = group_of it.presentation.now (g.R.Reducer.rules it.reducer.now) in
    let table = it.multiplier.now.table in
    let end : List ℕ = it.end.now in
    let size : ℕ = c.loop-size._size in
    let configs = c.loop-size.layer.configs.keys in
    let words = c.loop-size.layer.words.items in
    let next = c.in_ok-layer-in-None.layer in
    let P : Option ℕ → Type 0 = IsLeastWrong group table end configs words (length words) in
    let right = subst P c.in-None.is c.in_ok-place.ensures in
    let more : suc size ≡ size + 1 = omega arith in
    let L : ℕ → Type 0 = λ k. IsLayer group table k next.configs.keys next.words.items in (
      subst L more (next_is_layer group table size configs words next.configs.keys next.words.items c.loop-size.invariant.0
          c.in_ok-layer-in-None.ensures),
      λ fewer word config less. none_next group table end size configs words c.loop-size.invariant.0 right
          c.loop-size.invariant.1 fewer word config (omega (arith, less)),
    )
