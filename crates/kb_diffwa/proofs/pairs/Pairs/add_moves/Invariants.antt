use Rattle.std.proofs.Common.{◌≡◌, ◌++◌, take}
use Rattle.std.specs.List.{filter_map}
use Rattle.kb_diff.specs.Tables.{step_in}
use Rattle.kb_diffwa.specs.Pairs.{move_by}
use Rattle.kb_diffwa.proofs.pairs.Pairs.add_moves.Given as goal

abbrev pub invariant-loop-second : goal.invariant-loop-second
invariant-loop-second l =
    l.moves.items ≡ l.initial.moves.items ++ filter_map (move_by (step_in l.self.differences.now) l.self.symbols.n l.place.difference l.first)
    (take l.second-index l.second-items)
