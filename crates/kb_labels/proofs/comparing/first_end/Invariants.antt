use Rattle.kb_diff.specs.Groups.{group_of}
use Rattle.kb_labels.specs.Comparing.{IsEndWord, IsFirstApart}
use Rattle.kb_labels.proofs.comparing.first_end.Given as goal

-- the first word apart at the places that are passed
abbrev pub invariant-loop-place : goal.invariant-loop-place
invariant-loop-place g l =
    IsFirstApart l.presentation.order l.placed.labels.items
    (IsEndWord (group_of l.presentation (g.R.Reducer.rules l.reducer)) l.multiplier.table l.fn.x l.placed.states.keys l.place) l.found
