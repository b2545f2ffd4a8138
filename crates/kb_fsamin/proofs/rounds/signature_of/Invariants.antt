use Rattle.std.proofs.Common.{◌≡◌, take}
use Rattle.kb_fsamin.specs.Rounds.{class_row}
use Rattle.kb_fsamin.proofs.rounds.signature_of.Given as goal

abbrev pub invariant-loop-symbol : goal.invariant-loop-symbol
invariant-loop-symbol l = l.moves.items ≡ class_row l.classes (take l.symbol-index l.row)
