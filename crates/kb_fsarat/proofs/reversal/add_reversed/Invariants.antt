use Rattle.std.proofs.Common.{take}
use Rattle.kb_fsarat.specs.Reversal.{HaveAdded, TurnsOne}
use Rattle.kb_fsarat.proofs.reversal.add_reversed.Given as goal

-- the moves so far are turned round
abbrev pub invariant-loop-symbol : goal.invariant-loop-symbol
invariant-loop-symbol l = HaveAdded l.initial.turned l.turned (TurnsOne l.state (take l.symbol-index l.moves))
