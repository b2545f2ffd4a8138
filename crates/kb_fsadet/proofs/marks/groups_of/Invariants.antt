use Rattle.std.proofs.Common.{◌≡◌, ◌++◌, suc, drop}
use Rattle.kb_fsadet.specs.Marks.{groups_from}
use Rattle.kb_fsadet.proofs.marks.groups_of.Given as goal

abbrev pub invariant-loop-row : goal.invariant-loop-row
invariant-loop-row l =
    (l.symbol ≡ l.row-index)
    × (l.groups.items ++ groups_from (suc l.symbol) (drop l.row-index l.rows) ≡ groups_from 1 l.rows)
