use Rattle.std.proofs.Common.{◌≡◌, ◌+◌, ◌-◌, ◌≤◌, [], length}
use Rattle.std.specs.List.{All}
use Rattle.kb_draw.specs.Counter.{view}
use Rattle.kb_draw.specs.Seats.{IsPlaceAt, IsNewSeatOf}
use Rattle.kb_draw.proofs.draw.Draw.deal.Given as goal

abbrev pub invariant-loop-dealt : goal.invariant-loop-dealt
invariant-loop-dealt l =
    (1 ≤ l.dealt) × (l.dealt ≤ l.self.bounds.seats) × (length l.seats.items + 1 ≡ l.dealt)
    × IsPlaceAt l.self l.place (view l.self.bounds.first [] 1 (l.self.bounds.seats - l.dealt)) × All (IsNewSeatOf l.self) l.seats.items

abbrev pub decreases-loop-dealt : goal.decreases-loop-dealt
decreases-loop-dealt l = l.self.bounds.seats - l.dealt
