-- A book is settled stage by stage.
use Rattle.std.proofs.Common.{◌≡◌, ◌≢◌, [], Result, Ok, Err, IfOk, ◌∙◌, ap}
use Rattle.kb_word.specs.declared.memory.Memory.{Memory}
use Rattle.kb_machine.specs.Course.{Course}
use Rattle.kb_machine.specs.States.{Problem}
use Rattle.kb_word.specs.declared.word_order.WordOrder.{WordOrder}
use Rattle.kb_share.specs.Finding.{Knows}
use Rattle.kb_share.specs.declared.settled.Settled.{Settled}
use Rattle.kb_share.proofs.Stages.{settles_itself, settles_then}
use Rattle.kb_share.proofs.Staying.{stays_itself, stays_then}
use Rattle.kb_share.proofs.Halting.{ends_settled}
use Rattle.kb_threads.specs.Settling.{EndsFrom, IsStageFrom, SettlesAs}
use Rattle.kb_threads.specs.declared.settling.Settling.{Settling}

module _ {R W : Type 0} where
  -- nothing has happened yet
  pub stage_itself : (settling : Settling R W) → Knows settling.finder settling.book.course.state → IsStageFrom settling.book.course settling
  stage_itself settling known = record {
    settles = settles_itself settling.book.course;
    reduced = stays_itself settling.book.course;
    known = known;
  }

  -- one stage after another
  pub stage_then : (start : Course) (before after : Settling R W) → IsStageFrom start before → IsStageFrom before.book.course after
      → IsStageFrom start after
  stage_then start before after first second = record {
    settles = settles_then start before.book.course after.book.course first.settles second.settles;
    reduced = stays_then start before.book.course after.book.course first.reduced second.reduced;
    known = second.known;
  }

  -- a stage, and then the end
  pub ends_then : (start : Course) (before : Settling R W) (done : Settling R W × Settled) → IsStageFrom start before
      → EndsFrom before.book.course done → EndsFrom start done
  ends_then start before done first ends = record { stage = stage_then start before done.0 first ends.stage; ends = ends.ends }

  -- the order stays
  pub same_order : (start : Course) (after : Settling R W) (order : WordOrder) → IsStageFrom start after → start.problem.order ≡ order
      → after.book.course.problem.order ≡ order
  same_order start after order stage is = ap (λ (p : Problem). p.order) stage.settles.later.problem ∙ is

  -- where something was pending, this is how the book is settled
  pub settled_so : (start : Course) (done : Settling R W × Settled) → start.state.pending ≢ [] → EndsFrom start done
      → SettlesAs start done.0.book.course done.1
  settled_so start done pending ends = record {
    settles = ends.stage.settles;
    says = ends_settled start done.0.book.course done.1 pending ends.ends;
    reduced = ends.stage.reduced;
  }

  -- what waits in the finder counts for nothing
  pub with_waiting : (start : Course) (after : Settling R W) (waiting : _) → IsStageFrom start after
      → IsStageFrom start (record after { finder = record after.finder { waiting = waiting } })
  with_waiting start after waiting stage = record {
    settles = stage.settles;
    reduced = stage.reduced;
    known = record { met = stage.known.met; agrees = stage.known.agrees; all = stage.known.all };
  }

  -- where there is an end, it is that of the first stage
  pub ends_if : (start : Course) (before : Settling R W) (result : Result (Settling R W × Settled) Memory) → IsStageFrom start before
      → IfOk result (EndsFrom before.book.course) → IfOk result (EndsFrom start)
  ends_if start before (Ok done) stage ends = ends_then start before done stage ends
  ends_if start before (Err memory) stage ends = tt
