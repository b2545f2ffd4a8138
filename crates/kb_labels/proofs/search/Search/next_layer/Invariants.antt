use Rattle.std.proofs.Common.{[]}
use Rattle.kb_diff.specs.Groups.{group_of}
use Rattle.kb_labels.specs.Layers.{Adds, ComesFromFirst}
use Rattle.kb_labels.proofs.search.Search.next_layer.Given as goal

abbrev pub invariant-loop-place : goal.invariant-loop-place
invariant-loop-place g l =
    Adds (ComesFromFirst (group_of l.self.presentation.now (g.R.Reducer.rules l.self.reducer.now)) l.self.multiplier.now.table
    l.layer.configs.keys l.layer.words.items l.place) [] [] l.next.configs.keys l.next.words.items
