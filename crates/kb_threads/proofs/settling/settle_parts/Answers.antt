use Rattle.kb_share.proofs.Halting.{some_is}
use Rattle.kb_share.specs.Work.{EndsAt}
use Rattle.kb_threads.proofs.Settled.{stage_itself, stage_then, with_waiting}
use Rattle.kb_threads.proofs.settling.settle_parts.Goals as goal

pub loop-init : goal.loop-init
loop-init g c = (tt, tt, stage_itself c.args.settling c.requires.known)

pub part-requires : goal.part-requires
part-requires g c = c.loop.invariant.2.known

pub returns-in-Some-end : goal.returns-in-Some-end
returns-in-Some-end g c =
    let start = c.args.settling.book.course in
    let after = c.part.new.self in
    record {
      stage = with_waiting start after c.finish.new.waiting
          (stage_then start c.loop.settling after c.loop.invariant.2 c.in_ok-end.ensures.stage);
      ends = some_is (EndsAt after.book.course) c.in_ok-end.end c.in-Some-end.settled c.in-Some-end.is c.in_ok-end.ensures.ends;
    }

pub loop-preserved : goal.loop-preserved
loop-preserved g c =
    let start = c.args.settling.book.course in
    let after = c.part.new.self in (
      tt,
      tt,
      with_waiting start after c.finish.new.waiting
          (stage_then start c.loop.settling after c.loop.invariant.2 c.in_ok-end.ensures.stage),
    )
