use Rattle.kb_draw.specs.Seats.{IsSeatOf}
use Rattle.kb_draw.proofs.Sharing.{HasDone}
use Rattle.kb_draw.proofs.work.draw_to_end.Given as goal

-- the seat is one of the draw, and the parts that it drew so far are done in the share
abbrev pub invariant-loop : goal.invariant-loop
invariant-loop g l = IsSeatOf l.draw l.seat × g.W.Work.sound l.work l.share
    × HasDone (g.W.Work.parts l.work) (g.W.Work.done l.work) l.seat l.share
