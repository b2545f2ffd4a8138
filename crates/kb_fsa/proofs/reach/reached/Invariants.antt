use Rattle.std.proofs.Common.{◌≤◌}
use Rattle.kb_fsa.specs.Graphs.{IsMarking, weight}
use Rattle.kb_fsa.proofs.reach.reached.Given as goal

-- each edge is done that leads from a marked thing which isn't pending
abbrev pub invariant-loop-from : goal.invariant-loop-from
invariant-loop-from l = IsMarking l.edges l.seeds 0 0 l.marks.items l.pending.items

abbrev pub decreases-loop-from : goal.decreases-loop-from
decreases-loop-from l = weight l.marks.items l.pending.items

-- so are the later edges from the thing that was taken
abbrev pub invariant-loop-number : goal.invariant-loop-number
invariant-loop-number l = record {
  marking : IsMarking l.edges l.seeds l.from l.number l.marks.items l.pending.items;
  weight : weight l.marks.items l.pending.items ≤ weight l.initial.marks.items l.initial.pending.items;
}

abbrev pub decreases-loop-number : goal.decreases-loop-number
decreases-loop-number l = l.number
