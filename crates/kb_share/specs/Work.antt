-- The work that is left while a book is settled.
use Rattle.std.specs.Prelude.{◌≡◌, ℕ, ◌+◌, ◌-◌, ◌*◌, ◌≤◌, [], length, None}
use Rattle.kb_machine.specs.Course.{Course}
use Rattle.kb_share.specs.Settling.{Settles, GivesHalt}
use Rattle.kb_share.specs.declared.settled.Settled.{Settled}
use Rattle.kb_share.specs.declared.settled.Settled.TheVariants as settled

-- A number that falls with each pair that is looked at, whatever comes of it: a line that is made takes four from the
-- first part, and adds at most one live line and two pending pairs, the overlaps by which it is balanced; a line that is
-- taken away moves from the live ones to the pending pairs.
abbrev pub work : Course → ℕ
work course = 4 * (course.problem.most_lines - length course.state.lines) + length course.state.live
    + length course.state.pending

-- a later stage with no more work left
pub record GoesOn (before after : Course) : Type 0 where
  pub settles : Settles before after
  pub less : work after ≤ work before

-- a later stage with at most so much more work
pub record GoesOnBy (more : ℕ) (before after : Course) : Type 0 where
  pub settles : Settles before after
  pub most : work after ≤ work before + more

-- how the book is settled
abbrev pub EndsAt : Course → Settled → Type 0
EndsAt after settled.Nothing = ⊥
EndsAt after settled.Done = (after.state.pending ≡ []) × (after.state.halt ≡ None)
EndsAt after (settled.Halted halt) = GivesHalt after halt
