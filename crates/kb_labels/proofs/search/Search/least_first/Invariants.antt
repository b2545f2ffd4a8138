use Rattle.kb_diff.specs.Groups.{group_of}
use Rattle.kb_labels.specs.Layers.{IsLayer}
use Rattle.kb_labels.proofs.Layering.{NoneBefore}
use Rattle.kb_labels.proofs.search.Search.least_first.Given as goal

abbrev pub invariant-loop-size : goal.invariant-loop-size
invariant-loop-size g l =
    let group = group_of l.self.presentation.now (g.R.Reducer.rules l.self.reducer.now) in
    IsLayer group l.self.multiplier.now.table l._size l.layer.configs.keys l.layer.words.items
    × NoneBefore group l.self.multiplier.now.table l.self.end.now l._size
