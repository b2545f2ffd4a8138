use Rattle.std.proofs.Common.{◌≤◌}
use Rattle.kb_cmd_structures.proofs.LoadRuns.{Standing}
use Rattle.kb_cmd_structures.proofs.loading.multipliers_beside.Given as goal

-- the multipliers so far were loaded
abbrev pub invariant-loop-place : goal.invariant-loop-place
invariant-loop-place g l = record {
  standing : Standing l.file l.presentation (g.F.Shelf.state l.fn.shelf) (g.F.Shelf.state l.shelf) l.place l.multipliers.items;
  within : l.place ≤ l.presentation.n;
}
