use Rattle.std.proofs.Common.{◌≡◌, map, take}
use Rattle.std.specs.List.{filter_map}
use Rattle.kb_fsadet.specs.FirstWords.{by_first}
use Rattle.kb_certificates.proofs.first_words.rows_by_first.Given as goal

abbrev pub invariant-loop-row : goal.invariant-loop-row
invariant-loop-row l = l.branches.items ≡ map (filter_map (by_first l.symbols.n)) (take l.row-index l.rows)
