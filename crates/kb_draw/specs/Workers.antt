-- What workers bring back of the parts that they drew.
use Rattle.std.specs.Prelude.{◌≡◌, ℕ, ◌<◌, true, List, [], ◌∷◌, ◌++◌, Result, Ok, All, length}
use Rattle.kb_word.specs.declared.memory.Memory.{Memory}
use Rattle.kb_draw.specs.Totals.{times}
use Rattle.kb_draw.specs.Seats.{IsSeatOf, IsNewSeatOf, numbers_of, times_drawn}
use Rattle.kb_draw.specs.Sharing.{IsDoneIn}
use Rattle.kb_draw.specs.declared.draw.Draw.{Draw}
use Rattle.kb_draw.specs.declared.draw.Seat.{Seat}
use Rattle.kb_draw.specs.declared.work.Drawn.{Drawn}
use Rattle.kb_draw.specs.declared.work.Worker.{Worker}

-- a worker for each seat
pub record AreSeated (seats : List Seat) (made : List Worker) : Type 0 where
  pub count : length made ≡ length seats
  pub each : (draw : Draw) → All (IsNewSeatOf draw) seats → All (λ one. IsNewSeatOf draw one.seat) made

-- the seat drew this part
abbrev pub Drew : Seat → ℕ → Type 0
Drew seat part = 0 < times part (numbers_of seat)

-- what a worker brings back: a dry seat of the draw, and a share in which the parts that it drew are done
pub record IsDrawnOf {Share : Type 0} (draw : Draw) (parts : ℕ) (Sound : Share → Type 0)
    (Done : Share → ℕ → Type 0) (drawn : Drawn Share) : Type 0 where
  pub seat : IsSeatOf draw drawn.seat
  pub dry : drawn.seat.dry ≡ true
  pub sound : Sound drawn.share
  pub done : (part : ℕ) → part < parts → Drew drawn.seat part → Done drawn.share part

-- what so many workers bring back together: dry seats of the draw, and shares in which the parts that any of them drew
-- are done
pub record AreAllDrawn {Share : Type 0} (draw : Draw) (parts : ℕ) (Sound : Share → Type 0)
    (Done : Share → ℕ → Type 0) (workers : ℕ) (seats : List Seat) (shares : List Share) : Type 0 where
  pub count : length seats ≡ workers
  pub as_many : length shares ≡ workers
  pub each : All (IsSeatOf draw) seats
  pub dry : All (λ seat. seat.dry ≡ true) seats
  pub sound : All Sound shares
  pub done : (part : ℕ) → part < parts → 0 < times_drawn part seats → IsDoneIn Done shares part

-- the seats and the shares of all that workers brought back
pub data AreTaken {Share : Type 0} : List (Result (Drawn Share) Memory) → List Seat → List Share → Type 0 where
  no_more : AreTaken [] [] []
  one_more : {drawn : List (Result (Drawn Share) Memory)} {seats : List Seat} {shares : List Share}
      → (own : Drawn Share) → AreTaken drawn seats shares
      → AreTaken (drawn ++ Ok own ∷ []) (seats ++ own.seat ∷ []) (shares ++ own.share ∷ [])
