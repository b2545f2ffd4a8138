use Rattle.kb_diff.specs.Tables.{AddsRows}
use Rattle.kb_diff.proofs.differences.Differences.add_rows.Given as goal

-- where pairs with the first letters before this one lead is added
abbrev pub invariant-loop-first : goal.invariant-loop-first
invariant-loop-first g l =
    AddsRows l.self.group l.self.words l.difference l.first l.initial.table.items l.table.items
