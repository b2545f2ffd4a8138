use Rattle.std.proofs.Common.{◌≡◌, [], drop}
use Rattle.kb_fsa.specs.Table.{after}
use Rattle.kb_fsa.specs.Padding.{padded}
use Rattle.kb_labels.proofs.seconds.SecondsMachine.accepts.Given as goal

-- the rest of the first word leads from the state where it leads from the reading
abbrev pub invariant-loop-place : goal.invariant-loop-place
invariant-loop-place g l =
    let n = l.self.symbols.n in
    let table = l.self.pairs.now.table in
    let first = l.self.first.now in
    after table l.state (padded n (drop l.place first) [])
    ≡ after table l.reading.state (padded n (drop l.reading.place first) [])
