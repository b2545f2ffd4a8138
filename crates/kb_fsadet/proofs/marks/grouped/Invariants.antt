use Rattle.std.proofs.Common.{take}
use Rattle.kb_fsadet.specs.Marks.{AreMarkedRows}
use Rattle.kb_fsadet.proofs.marks.grouped.Given as goal

-- the moves so far are marked
abbrev pub invariant-loop-symbol : goal.invariant-loop-symbol
invariant-loop-symbol l = AreMarkedRows (take l.symbol-index l.moves) l.symbols l.states l.rows.items
