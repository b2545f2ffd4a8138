-- What settling a book by a crew comes to.
use Rattle.std.specs.Prelude.{Option, IfSome}
use Rattle.kb_machine.specs.Course.{Course}
use Rattle.kb_share.specs.Finding.{Knows}
use Rattle.kb_share.specs.Interreduced.{StaysReduced}
use Rattle.kb_share.specs.Settling.{Settles, SettleSays}
use Rattle.kb_share.specs.Work.{EndsAt}
use Rattle.kb_share.specs.declared.settled.Settled.{Settled}
use Rattle.kb_threads.specs.declared.settling.Settling.{Settling}

-- the book is settled so, and sides that were reduced are so afterwards
pub record SettlesAs (before after : Course) (settled : Settled) : Type 0 where
  pub settles : Settles before after
  pub says : SettleSays before after settled
  pub reduced : StaysReduced before after

-- the book has come to a later stage, at which its finder knows it
pub record IsStageFrom {R W : Type 0} (before : Course) (after : Settling R W) : Type 0 where
  pub settles : Settles before after.book.course
  pub reduced : StaysReduced before after.book.course
  pub known : Knows after.finder after.book.course.state

-- the book is settled, and so
pub record EndsFrom {R W : Type 0} (before : Course) (done : Settling R W × Settled) : Type 0 where
  pub stage : IsStageFrom before done.0
  pub ends : EndsAt done.0.book.course done.1

-- the book has come further, and the answer is how it is settled, if it is
pub record GoesOnBy {R W : Type 0} (before after : Settling R W) (end : Option Settled) : Type 0 where
  pub stage : IsStageFrom before.book.course after
  pub ends : IfSome end (EndsAt after.book.course)
