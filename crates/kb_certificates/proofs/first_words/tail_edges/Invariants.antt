use Rattle.std.proofs.Common.{◌≡◌, ◌++◌, suc, drop}
use Rattle.kb_fsadet.specs.FirstWords.{tail_edges}
use Rattle.kb_certificates.proofs.first_words.tail_edges.Given as goal

abbrev pub invariant-loop-row : goal.invariant-loop-row
invariant-loop-row l =
    (l.state ≡ l.row-index) × (l.edges.items ++ tail_edges l.symbols.n (suc l.state) (drop l.row-index l.rows) ≡ tail_edges l.symbols.n 1 l.rows)
