use Rattle.kb_share.proofs.RowByRow.{AreInRows}
use Rattle.kb_share.proofs.one_by_one.all_apart.Given as goal

-- all overlaps that are apart in the first rows were found
abbrev pub invariant-loop-index : goal.invariant-loop-index
invariant-loop-index g l = AreInRows l.version.rules l.version.numbers l.index l.found.items
