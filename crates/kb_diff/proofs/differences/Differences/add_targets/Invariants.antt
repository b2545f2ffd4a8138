use Rattle.std.proofs.Common.{◌≡◌}
use Rattle.kb_diff.specs.Tables.{AddsTargets}
use Rattle.kb_diff.proofs.differences.Differences.add_targets.Given as goal

-- where the second letters before this one lead is added, and the front is the same
abbrev pub invariant-loop-second : goal.invariant-loop-second
invariant-loop-second g l = record {
  front : l.scratch.front ≡ l.initial.scratch.front;
  adds : AddsTargets l.self.group l.self.words l.initial.scratch.front l.second l.initial.table.items l.table.items;
}
