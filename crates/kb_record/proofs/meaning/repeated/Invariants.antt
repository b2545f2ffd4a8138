use Rattle.std.proofs.Common.{◌≡◌}
use Rattle.kb_record.specs.Meaning.{repeated}
use Rattle.kb_record.proofs.meaning.repeated.Given as goal

abbrev pub invariant-loop-turn : goal.invariant-loop-turn
invariant-loop-turn l = l.power ≡ repeated l._turn l.word
