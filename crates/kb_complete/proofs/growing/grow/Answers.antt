use Rattle.std.proofs.Common.{refl}
use Rattle.kb_complete.proofs.Rounds.{continues_itself, round_over, round_open, grow_later, known_over}
use Rattle.kb_complete.proofs.growing.grow.Goals as goal

pub returns-in-Over-clause-says : goal.returns-in-Over-clause-says
returns-in-Over-clause-says g c =
    let course = c.args.book.course in
    round_over course course _ c.in_ok-grown.field-0 c.in-Over.grown (continues_itself course) refl
    c.in-Over.is c.in_ok-grown.ensures.says

pub returns-in_ok-look_for_more-in-Open-clause-says : goal.returns-in_ok-look_for_more-in-Open-clause-says
returns-in_ok-look_for_more-in-Open-clause-says g c =
    let course = c.args.book.course in
    grow_later course c.in-Open.settled.course c.in_ok-look_for_more-in-Open.field-0
    (round_open course course _ c.in_ok-grown.field-0 c.in-Open.settled (continues_itself course) c.in-Open.is c.in_ok-grown.ensures.says).0
    c.in_ok-look_for_more-in-Open.ensures.says

pub returns-in-Over-clause-known : goal.returns-in-Over-clause-known
returns-in-Over-clause-known g c =
    known_over c.advance.new.finder c.in_ok-grown.field-0 c.in-Over.grown c.in-Over.is c.in_ok-grown.ensures.known

pub returns-in_ok-look_for_more-in-Open-clause-known : goal.returns-in_ok-look_for_more-in-Open-clause-known
returns-in_ok-look_for_more-in-Open-clause-known g c = c.in_ok-look_for_more-in-Open.ensures.known
