use Rattle.std.proofs.Common.{◌≡◌, ℕ, ◌+◌, [], length}
use Rattle.std.specs.List.{All}
use Rattle.kb_draw.specs.Totals.{total}
use Rattle.kb_draw.specs.Seats.{IsSeatOf, numbers_of}
use Rattle.kb_draw.proofs.draw.Draw.with_all.Given as goal

abbrev pub invariant-loop-seat : goal.invariant-loop-seat
invariant-loop-seat l =
    (l.place.table_id ≡ l.self.counter.shared.table_id) × (l.place.me.1 ≡ [])
    × (l.place.me.0.seats + length l.seats.items ≡ l.initial.place.me.0.seats + length l.initial.seats.items)
    × ((weight : ℕ → ℕ) → total weight l.place.me.0.numbers + total (λ seat. total weight (numbers_of seat)) l.seats.items
    ≡ total weight l.initial.place.me.0.numbers + total (λ seat. total weight (numbers_of seat)) l.initial.seats.items)
    × All (IsSeatOf l.self) l.seats.items

abbrev pub decreases-loop-seat : goal.decreases-loop-seat
decreases-loop-seat l = length l.seats.items
