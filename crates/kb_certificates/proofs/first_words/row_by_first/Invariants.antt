use Rattle.std.proofs.Common.{◌≡◌, take}
use Rattle.std.specs.List.{filter_map}
use Rattle.kb_fsadet.specs.FirstWords.{by_first}
use Rattle.kb_certificates.proofs.first_words.row_by_first.Given as goal

abbrev pub invariant-loop-symbol : goal.invariant-loop-symbol
invariant-loop-symbol l = l.branches ≡ filter_map (by_first l.symbols.n) (take l.symbol-index l.symbol-items)
