use Rattle.kb_diff.specs.Groups.{group_of}
use Rattle.kb_labels.specs.Layers.{IsLeastWrong}
use Rattle.kb_labels.proofs.search.Search.least_wrong.Given as goal

abbrev pub invariant-loop-place : goal.invariant-loop-place
invariant-loop-place g l =
    IsLeastWrong (group_of l.self.presentation.now (g.R.Reducer.rules l.self.reducer.now)) l.self.multiplier.now.table
    l.self.end.now l.layer.configs.keys l.layer.words.items l.place l.found
