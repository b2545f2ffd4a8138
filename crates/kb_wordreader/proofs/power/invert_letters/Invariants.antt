use Rattle.std.proofs.Common.{◌≡◌, drop, take}
use Rattle.kb_wordreader.proofs.power.invert_letters.Given as goal

abbrev pub invariant-loop-letter : goal.invariant-loop-letter
invariant-loop-letter l = l.end ≡ take l.letter-index (drop l.start l.fn.word)
