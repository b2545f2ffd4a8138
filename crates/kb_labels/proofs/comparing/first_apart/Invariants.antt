use Rattle.kb_diff.specs.Groups.{group_of}
use Rattle.kb_labels.specs.Comparing.{IsWordAt, IsFirstApart}
use Rattle.kb_labels.proofs.comparing.first_apart.Given as goal

-- the first word apart among those at ends and of the moves that are passed
abbrev pub invariant-loop-number : goal.invariant-loop-number
invariant-loop-number g l =
    IsFirstApart l.presentation.order l.placed.labels.items
    (IsWordAt (group_of l.presentation (g.R.Reducer.rules l.reducer)) l.multiplier.table l.fn.x l.placed.states.keys l.placed.labels.items
    l.moves.edges.items l.moves.symbols.items l.number) l.found
