use Rattle.kb_diff.specs.Groups.{group_of}
use Rattle.kb_labels.specs.Layers.{Adds, ComesByFirst}
use Rattle.kb_labels.proofs.search.Search.add_moves.Given as goal

abbrev pub invariant-loop-symbol : goal.invariant-loop-symbol
invariant-loop-symbol g l =
    Adds (ComesByFirst (group_of l.self.presentation.now (g.R.Reducer.rules l.self.reducer.now)) l.self.multiplier.now.table
    l.config l.word l.symbol-index) l.fn.next.configs.keys l.fn.next.words.items l.next.configs.keys l.next.words.items
