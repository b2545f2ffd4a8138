use Rattle.std.proofs.Common.{refl}
use Rattle.kb_threads.proofs.NothingFound.{joined_given}
use Rattle.kb_threads.proofs.threads.Threads.pass_over_all.Goals as goal

pub returns-then-branch : goal.returns-then-branch
returns-then-branch g c = (
  refl,
  c.prime_overlaps_decide.ensures
      (joined_given c.args.book.course.state c.of.result c.of.ensures (c.in_ok-sweep.ensures refl c.if-branch.true)),
)
