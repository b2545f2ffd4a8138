-- What a seat is after a call, and what dry seats have drawn.
use Rattle.std.proofs.Common.{◌≡◌, ℕ, zero, ◌+◌, ◌-◌, ◌<◌, ◌≤◌, true, false, cond, List, [], ◌∷◌, ◌++◌, length, sym, ap, ◌∙◌, arith}
use Rattle.std.specs.List.{All}
use Rattle.atomic_table.specs.Table.{Me}
use Rattle.kb_draw.specs.Totals.{total, past, is_past}
use Rattle.kb_draw.specs.Counter.{view, newcomer, drew, with_one_split_less, both}
use Rattle.kb_draw.specs.declared.counter.View.{View}
use Rattle.kb_draw.specs.Seats.{IsPlaceAt, IsSeatOf, IsNewSeatOf, numbers_of}
use Rattle.kb_draw.specs.declared.draw.Draw.{Draw}
use Rattle.kb_draw.specs.declared.draw.Seat.{Seat}
use Rattle.kb_draw.proofs.Sums.{total-append, total-popped}

-- a place that has drawn nothing is a seat
pub new_seat : (draw : Draw) (seat : Seat) → IsPlaceAt draw seat.place (newcomer draw.bounds.first) → seat.dry ≡ false → IsNewSeatOf draw seat
new_seat draw seat at wet = (
  record {
    at_table = at.0;
    bare = ap (λ m. m.1) at.1;
    from = ap (λ m. m.0.first) at.1;
    single = ap (λ m. m.0.seats) at.1;
    is_dry = ap (λ m. past draw.bounds.end m.0.numbers) at.1 ∙ ap (λ b. cond b 1 0) (sym wet);
  },
  ap (λ m. m.0.numbers) at.1,
)

-- A seat that was not dry and draws a number is a seat, where it is dry afterwards just if the number is past the end.
pub drawing_seat : (draw : Draw) (before after : Seat) (number : ℕ) → IsSeatOf draw before → before.dry ≡ false
    → after.place.table_id ≡ before.place.table_id → after.place.me ≡ (drew before.place.me.0 number, before.place.me.1)
    → is_past draw.bounds.end number ≡ cond after.dry 1 0 → IsSeatOf draw after
drawing_seat draw before after number own wet same now tells = record {
  at_table = same ∙ own.at_table;
  bare = ap (λ m. m.1) now ∙ own.bare;
  from = ap (λ m. m.0.first) now ∙ own.from;
  single = ap (λ m. m.0.seats) now ∙ own.single;
  is_dry = ap (λ m. past draw.bounds.end m.0.numbers) now ∙ (counted ∙ tells);
}
  where
    none : past draw.bounds.end (numbers_of before) ≡ 0
    none = own.is_dry ∙ ap (λ b. cond b 1 0) wet

    counted : past draw.bounds.end (numbers_of before ++ number ∷ []) ≡ is_past draw.bounds.end number
    counted = let more = total-append (is_past draw.bounds.end) (numbers_of before) (number ∷ []) in let was = none in omega (arith, more, was)

-- dry seats have drawn numbers past the end
pub some_past : (draw : Draw) (seats : List Seat) → 0 < length seats → All (IsSeatOf draw) seats → All (λ seat. seat.dry ≡ true) seats
    → 0 < total (λ seat. past draw.bounds.end (numbers_of seat)) seats
some_past draw [] some own dry = absurd (omega (arith, some))
some_past draw (seat ∷ seats) some own dry =
    let mine : IsSeatOf draw seat = own zero seat (omega arith) in
    let is : seat.dry ≡ true = dry zero seat (omega arith) in
    let one : past draw.bounds.end (numbers_of seat) ≡ 1 = mine.is_dry ∙ ap (λ b. cond b 1 0) is in
    omega (arith, one)

-- the place that splits seats off, after one more
pub split_less : {S : Type 0} (first seats dealt : ℕ) (before after : Me S View) → before ≡ (view first [] 1 (seats - dealt), [])
    → after ≡ (with_one_split_less before.0, before.1) → after ≡ (view first [] 1 (seats - (dealt + 1)), [])
split_less {S} first seats dealt before after was now =
    let less : seats - dealt - 1 ≡ seats - (dealt + 1) = omega arith in
    let P : ℕ → Me S View = λ k. (view first [] 1 k, []) in
    let again : (with_one_split_less before.0, before.1) ≡ P (seats - dealt - 1) = ap (λ (m : Me S View). (with_one_split_less m.0, m.1)) was in
    now ∙ (again ∙ ap P less)

-- and once all seats are split off
pub none_to_split : {S : Type 0} (first seats dealt : ℕ) (me : Me S View) → me ≡ (view first [] 1 (seats - dealt), []) → seats ≤ dealt → me ≡ (newcomer first, [])
none_to_split {S} first seats dealt me was all =
    let none : seats - dealt ≡ 0 = omega (arith, all) in
    let P : ℕ → Me S View = λ k. (view first [] 1 k, []) in
    was ∙ ap P none

-- a place that takes in the last of the seats has its numbers too
pub gathers : {S : Type 0} (weight : ℕ → ℕ) (before after : Me S View) (seats rest : List Seat) (seat : Seat) (all : ℕ)
    → after ≡ (both before.0 seat.place.me.0, before.1) → seats ≡ rest ++ seat ∷ []
    → total weight before.0.numbers + total (λ one. total weight (numbers_of one)) seats ≡ all
    → total weight after.0.numbers + total (λ one. total weight (numbers_of one)) rest ≡ all
gathers {S} weight before after seats rest seat all now popped was =
    let joined : total weight after.0.numbers ≡ total weight (before.0.numbers ++ numbers_of seat) = ap (λ (m : Me S View). total weight m.0.numbers) now in
    let more = total-append weight before.0.numbers (numbers_of seat) in
    let fewer = total-popped (λ one. total weight (numbers_of one)) seats rest seat popped in
    omega (arith, joined, more, fewer, was)
