use Rattle.std.proofs.Common.{get_or}
use Rattle.kb_fsamin.specs.Splitting.{AreNumbered}
use Rattle.kb_fsamin.proofs.splitting.by_symbol.Given as goal

abbrev pub invariant-loop-symbol : goal.invariant-loop-symbol
invariant-loop-symbol l = AreNumbered (λ k. get_or l.symbols k 0) l.symbol-index l.seen.keys l.numbers.items
