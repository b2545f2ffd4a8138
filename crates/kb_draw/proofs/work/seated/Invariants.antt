use Rattle.std.proofs.Common.{◌≡◌, ◌+◌, length}
use Rattle.std.specs.List.{All}
use Rattle.kb_draw.specs.Seats.{IsNewSeatOf}
use Rattle.kb_draw.specs.declared.draw.Draw.{Draw}
use Rattle.kb_draw.proofs.work.seated.Given as goal

-- a worker for each seat that was taken from the list
abbrev pub invariant-loop-seat : goal.invariant-loop-seat
invariant-loop-seat l = (length l.made.items + length l.seats.items ≡ length l.fn.seats.items)
    × ((draw : Draw) → All (IsNewSeatOf draw) l.fn.seats.items
    → All (IsNewSeatOf draw) l.seats.items × All (λ one. IsNewSeatOf draw one.seat) l.made.items)

abbrev pub decreases-loop-seat : goal.decreases-loop-seat
decreases-loop-seat l = length l.seats.items
