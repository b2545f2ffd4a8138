use Rattle.std.proofs.Common.{◌≡◌, ◌+◌, ◌-◌, take, length}
use Rattle.kb_wordreader.proofs.PowerLemmas.{power_of_end}
use Rattle.kb_wordreader.proofs.power.repeat_end.Given as goal

abbrev pub invariant-loop-place : goal.invariant-loop-place
invariant-loop-place l = l.word ≡ take (l.place + (length l.fn.word - l.start)) (power_of_end l.fn.word l.start l.count)
