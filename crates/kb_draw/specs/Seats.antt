-- The seats of a draw, and what a call of `next` does.
use Rattle.std.specs.Prelude.{◌≡◌, ℕ, ◌<◌, ◌≤◌, true, false, cond, List, [], ◌∷◌, ◌++◌, Option, Some, None}
use Rattle.kb_draw.specs.Totals.{total, times, past}
use Rattle.kb_draw.specs.declared.counter.Bounds.{Bounds}
use Rattle.kb_draw.specs.declared.counter.View.{View}
use Rattle.kb_draw.specs.declared.draw.Draw.{Draw}
use Rattle.kb_draw.specs.declared.draw.Seat.{Seat}
use Rattle.atomic_table.specs.declared.shared.Seat.{Seat as Place}

-- the numbers that a seat drew, in their order, with one past the end where it is dry
abbrev pub numbers_of : Seat → List ℕ
numbers_of seat = seat.place.me.0.numbers

-- the place is one of this draw's counter, holds no slot and knows this
abbrev pub IsPlaceAt : {S : Type 0} → Draw → Place S View → View → Type 0
IsPlaceAt draw place v = (place.table_id ≡ draw.counter.shared.table_id) × (place.me ≡ (v, []))

-- how often the seats drew a number, all together
abbrev pub times_drawn : ℕ → List Seat → ℕ
times_drawn number = total (λ seat. times number (numbers_of seat))

-- The seat is one of this draw. It is one seat, and has drawn a number past the end exactly where it is dry.
pub record IsSeatOf (draw : Draw) (seat : Seat) : Type 0 where
  pub at_table : seat.place.table_id ≡ draw.counter.shared.table_id
  pub bare : seat.place.me.1 ≡ []
  pub from : seat.place.me.0.first ≡ draw.bounds.first
  pub single : seat.place.me.0.seats ≡ 1
  pub is_dry : past draw.bounds.end (numbers_of seat) ≡ cond seat.dry 1 0

-- the same of a seat that has drawn nothing
abbrev pub IsNewSeatOf : Draw → Seat → Type 0
IsNewSeatOf draw seat = IsSeatOf draw seat × (numbers_of seat ≡ [])

-- What a call of `next` does, by what the seat was, the answer and what the seat is afterwards. A
-- dry seat draws nothing. A seat that is not dry draws one number, the first one or more: that is
-- the answer where it is less than the end, and makes the seat dry where not.
pub data Takes (bounds : Bounds) (before : Seat) : Option ℕ → Seat → Type 0 where
  nothing : before.dry ≡ true → Takes bounds before None before
  one : {number : ℕ} {after : Seat} → before.dry ≡ false → bounds.first ≤ number
      → number < bounds.end
      → numbers_of after ≡ numbers_of before ++ number ∷ [] → after.dry ≡ false
      → Takes bounds before (Some number) after
  last : {number : ℕ} {after : Seat} → before.dry ≡ false → bounds.end ≤ number
      → numbers_of after ≡ numbers_of before ++ number ∷ [] → after.dry ≡ true
      → Takes bounds before None after
