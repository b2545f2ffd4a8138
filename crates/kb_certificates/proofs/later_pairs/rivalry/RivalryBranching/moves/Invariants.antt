use Rattle.std.proofs.Common.{◌≡◌, take}
use Rattle.std.specs.List.{flat_map}
use Rattle.kb_certificates.specs.Rivalry.{moves_by}
use Rattle.kb_certificates.proofs.later_pairs.rivalry.RivalryBranching.moves.Given as goal

abbrev pub invariant-loop-symbol : goal.invariant-loop-symbol
invariant-loop-symbol l = l.moves.items
    ≡ flat_map (moves_by l.self.symbols.n l.self.pairs.now.table l.rivals) (take l.symbol-index l.symbol-items)
