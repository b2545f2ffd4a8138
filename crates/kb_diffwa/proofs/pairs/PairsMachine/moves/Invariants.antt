use Rattle.std.proofs.Common.{◌≡◌, take}
use Rattle.kb_diff.specs.Tables.{step_in}
use Rattle.kb_diffwa.specs.Pairs.{crossed}
use Rattle.kb_diffwa.specs.Tracks.{track_moves}
use Rattle.kb_diffwa.proofs.pairs.PairsMachine.moves.Given as goal

abbrev pub invariant-loop-first : goal.invariant-loop-first
invariant-loop-first l =
    l.moves.items ≡ crossed (step_in l.self.differences.now) l.self.symbols.n l.place.difference (take l.first-index l.first-items)
    (track_moves l.self.acceptor.now.table l.self.symbols.n l.place.second)
