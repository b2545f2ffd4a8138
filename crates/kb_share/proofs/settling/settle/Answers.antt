use Rattle.std.proofs.Common.{◌≡◌, refl, []}
use Rattle.kb_share.proofs.Stages.{settles_itself}
use Rattle.kb_share.proofs.Staying.{stays_itself}
use Rattle.kb_share.proofs.Halting.{idle_runs}
use Rattle.kb_share.proofs.settling.settle.Goals as goal

pub returns-then-is_idle-clause-settles : goal.returns-then-is_idle-clause-settles
returns-then-is_idle-clause-settles g c = settles_itself c.args.book.now.course

pub returns-then-is_idle-clause-says : goal.returns-then-is_idle-clause-says
returns-then-is_idle-clause-says g c =
    let course = c.args.book.now.course in
    let none : course.state.pending ≡ [] = c.is_idle.ensures.0 c.if-is_idle.true in
    (none, refl, idle_runs course.problem course.state c.book_is_sound.ensures none)

pub returns-clause-settles : goal.returns-clause-settles
returns-clause-settles g c = c.make_all.ensures.settles

pub returns-clause-says : goal.returns-clause-says
returns-clause-says g c = c.make_all.ensures.says

pub returns-then-is_idle-clause-reduced : goal.returns-then-is_idle-clause-reduced
returns-then-is_idle-clause-reduced g c = stays_itself c.args.book.now.course

pub returns-clause-reduced : goal.returns-clause-reduced
returns-clause-reduced g c = c.make_all.ensures.reduced

pub returns-then-is_idle-clause-known : goal.returns-then-is_idle-clause-known
returns-then-is_idle-clause-known g c = c.requires.known

pub returns-clause-known : goal.returns-clause-known
returns-clause-known g c = c.make_all.ensures.known
