use Rattle.kb_wa.specs.Dictionary.{AreMovesBefore}
use Rattle.kb_wa.proofs.dictionary.DictionaryMachine.moves.Given as goal

abbrev pub invariant-loop-symbol : goal.invariant-loop-symbol
invariant-loop-symbol l = AreMovesBefore l.self.n l.self.trie l.state l.symbol l.moves.items
