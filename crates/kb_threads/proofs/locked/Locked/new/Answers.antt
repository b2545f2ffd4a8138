use Rattle.kb_threads.proofs.Stages.{stage_itself}
use Rattle.kb_threads.proofs.locked.Locked.new.Goals as goal

pub invariant_of-result : goal.invariant_of-result
invariant_of-result g c = (
  c.requires.none,
  stage_itself g.S.Sharing.given c.args.book.course g.S.Sharing.batch c.requires.given c.requires.overlaps,
)
