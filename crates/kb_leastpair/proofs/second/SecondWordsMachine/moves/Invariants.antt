use Rattle.kb_leastpair.specs.SecondWords.{AreMovesBefore}
use Rattle.kb_leastpair.proofs.second.SecondWordsMachine.moves.Given as goal

abbrev pub invariant-loop-letter : goal.invariant-loop-letter
invariant-loop-letter l = AreMovesBefore l.self.symbols.n l.self.pairs.now.table l.self.first.now l.reading l.letter l.moves.items
