use Rattle.kb_share.proofs.Entries.{some_entered}
use Rattle.kb_share.proofs.NoneApart.{same_by_none}
use Rattle.kb_threads.proofs.alone.pass_by_one.Goals as goal

pub returns-then-branch-eq0 : goal.returns-then-branch-eq0
returns-then-branch-eq0 g c =
    let enters = c.in_ok-enter_apart.ensures.entered in
    let none = c.if-branch-eq0.true in (
      same_by_none c.args.book.course c.enter_apart.new.book.course c.in_ok-enter_apart.field-0 enters none,
      c.in_ok-enter_apart.ensures.none none,
    )

pub returns-else-branch-eq0 : goal.returns-else-branch-eq0
returns-else-branch-eq0 g c =
    some_entered c.args.book.course c.enter_apart.new.book.course c.in_ok-enter_apart.field-0 c.in_ok-enter_apart.ensures.entered
    c.if-branch-eq0.false
