use Rattle.std.proofs.Common.{◌≡◌, ◌++◌, suc, drop}
use Rattle.kb_fsadet.specs.FirstWords.{tail_edges}
use Rattle.kb_fsadet.proofs.first_words.tail_edges.Given as goal

abbrev pub invariant-loop-place : goal.invariant-loop-place
invariant-loop-place l =
    (l.state ≡ l.place) × (l.edges.items ++ tail_edges l.symbols.n (suc l.state) (drop l.place l.rows) ≡ tail_edges l.symbols.n 1 l.rows)
