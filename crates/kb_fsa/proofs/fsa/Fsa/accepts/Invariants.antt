use Rattle.std.proofs.Common.{◌≡◌, drop}
use Rattle.kb_fsa.specs.Table.{after}
use Rattle.kb_fsa.proofs.fsa.Fsa.accepts.Given as goal

abbrev pub invariant-loop-letter : goal.invariant-loop-letter
invariant-loop-letter l =
    after l.self.table l.state (drop l.letter-index l.letter-items) ≡ after l.self.table l.self.table.initial l.letter-items
