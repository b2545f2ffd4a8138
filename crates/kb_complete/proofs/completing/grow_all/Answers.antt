use Rattle.std.proofs.Common.{refl, ◌∙◌}
use Rattle.kb_complete.specs.declared.answers.Grown.TheVariants as grown
use Rattle.kb_complete.proofs.Rounds.{grown_said, known_grown, still_reduced, fewer_left, end_is_completed, end_is_halt}
use Rattle.kb_complete.proofs.completing.grow_all.Goals as goal

pub growing-init : goal.growing-init
growing-init g c = record { problem = refl; reduced = c.requires.reduced; known = c.requires.known }

pub growing-preserved : goal.growing-preserved
growing-preserved g c =
    let says = grown_said c.growing.book.course c.in_ok-next.field-0 (grown.More c.in-More.next) c.in-More.is c.in_ok-next.ensures.says in
    record {
      problem = says.continues.later.problem ∙ c.growing.invariant.problem;
      reduced = still_reduced c.growing.book.course c.in-More.next.course c.growing.invariant.reduced says.continues;
      known = known_grown c.grow.new.finder c.in_ok-next.field-0 (grown.More c.in-More.next) c.in-More.is c.in_ok-next.ensures.known;
    }

pub growing-smaller : goal.growing-smaller
growing-smaller g c =
    fewer_left c.growing.book.course c.in-More.next.course
    (grown_said c.growing.book.course c.in_ok-next.field-0 (grown.More c.in-More.next) c.in-More.is c.in_ok-next.ensures.says)
    c.book_is_sound.ensures

pub returns-in-Confluent : goal.returns-in-Confluent
returns-in-Confluent g c =
    let says =
    grown_said c.growing.book.course c.in_ok-next.field-0 (grown.Confluent c.in-Confluent.rules c.in-Confluent.book) c.in-Confluent.is
    c.in_ok-next.ensures.says in
    end_is_completed c.args.book.course.problem c.growing.book.course c.in-Confluent.book.course c.in-Confluent.rules
    c.growing.invariant.problem says.0 says.1

pub returns-in-Halted : goal.returns-in-Halted
returns-in-Halted g c =
    let says =
    grown_said c.growing.book.course c.in_ok-next.field-0 (grown.Halted c.in-Halted.book) c.in-Halted.is
    c.in_ok-next.ensures.says in
    end_is_halt c.args.book.course.problem c.growing.book.course c.in-Halted.book.course c.growing.invariant.problem says.0
    c.growing.invariant.reduced says.1
