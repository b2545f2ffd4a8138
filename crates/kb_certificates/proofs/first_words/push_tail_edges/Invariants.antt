use Rattle.std.proofs.Common.{◌≡◌, ◌++◌, take}
use Rattle.std.specs.List.{filter_map}
use Rattle.kb_fsadet.specs.FirstWords.{tail_edge}
use Rattle.kb_certificates.proofs.first_words.push_tail_edges.Given as goal

abbrev pub invariant-loop-symbol : goal.invariant-loop-symbol
invariant-loop-symbol l =
    l.edges.items ≡ l.initial.edges.items ++ filter_map (tail_edge l.symbols.n l.state) (take l.symbol-index l.symbol-items)
