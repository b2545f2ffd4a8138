use Rattle.std.proofs.Common.{List, [], length}
use Rattle.kb_record.specs.Reading.{remaining}
use Rattle.kb_record.specs.NamesMet.{Bracket, opened, names_met, AreOpen, GoesOn}
use Rattle.kb_record.proofs.repeats.first_repeated.Given as goal

abbrev pub invariant-loop-step : goal.invariant-loop-step
invariant-loop-step l =
    (f : Bracket) × (fs : List Bracket) × AreOpen l.open f fs
    × GoesOn (names_met (remaining l.tokens) f fs) (names_met (remaining l.initial.tokens) (opened l.of_record) [])

abbrev pub decreases-loop-step : goal.decreases-loop-step
decreases-loop-step l = length (remaining l.tokens)
