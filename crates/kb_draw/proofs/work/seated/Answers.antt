use Rattle.std.proofs.Common.{Some, arith}
use Rattle.std.proofs.lemmas.List.Elements.{All-pop}
use Rattle.kb_draw.specs.Seats.{IsNewSeatOf}
use Rattle.kb_draw.proofs.Sharing.{worker_more}
use Rattle.kb_draw.proofs.work.seated.Goals as goal

pub loop-seat-preserved : goal.loop-seat-preserved
loop-seat-preserved c =
    let before = c.loop-seat.invariant in
    let count = before.0 in
    let fewer = c.in-Some.ensures.len in
    let more = c.in_ok-push.ensures.len in (
      omega (arith, count, fewer, more),
      λ draw all.
          let own = before.1 draw all in
          let split = All-pop (IsNewSeatOf draw) _ _ (Some c.in-Some.seat) c.in-Some.ensures.items own.0 in
          (split.0, worker_more draw c.loop-seat.made.items c.push.new.self.items _ c.in_ok-push.ensures.items own.1 split.1),
    )
