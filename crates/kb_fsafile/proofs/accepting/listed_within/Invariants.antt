use Rattle.std.proofs.Common.{take}
use Rattle.kb_fsafile.specs.Reading.{AreStates}
use Rattle.kb_fsafile.proofs.accepting.listed_within.Given as goal

abbrev pub invariant-loop-number : goal.invariant-loop-number
invariant-loop-number l = AreStates l.count (take l.number-index l.numbers) l.states.items
