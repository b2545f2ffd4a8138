use Rattle.kb_complete.specs.declared.answers.Grown.TheVariants as grown
use Rattle.kb_auto.proofs.Growing.{grown_said, known_grown, fewer_left}
use Rattle.kb_auto.proofs.GoingOn.{continues_itself, continues_then, grows_then}
use Rattle.kb_auto.proofs.growth.grow_twofold.Goals as goal

pub growing-init : goal.growing-init
growing-init g c = record { continues = continues_itself c.args.book.course; known = c.requires }

pub growing-preserved : goal.growing-preserved
growing-preserved g c =
    let says = grown_said c.growing.book.course c.in_ok-next.field-0 (grown.More c.in-More.next) c.in-More.is c.in_ok-next.ensures.says in
    record {
      continues = continues_then c.args.book.course c.growing.book.course c.in-More.next.course c.growing.invariant.continues says.continues;
      known = known_grown c.grow.new.finder c.in_ok-next.field-0 (grown.More c.in-More.next) c.in-More.is c.in_ok-next.ensures.known;
    }

pub growing-smaller : goal.growing-smaller
growing-smaller g c =
    fewer_left c.growing.book.course c.in-More.next.course
    (grown_said c.growing.book.course c.in_ok-next.field-0 (grown.More c.in-More.next) c.in-More.is c.in_ok-next.ensures.says)
    c.book_is_sound.ensures

pub returns-in-Confluent-clause-says : goal.returns-in-Confluent-clause-says
returns-in-Confluent-clause-says g c =
    let after = c.in-Confluent.ended.course in
    let says =
    grown_said c.growing.book.course c.in_ok-next.field-0 (grown.Confluent c.in-Confluent.rules c.in-Confluent.ended) c.in-Confluent.is
    c.in_ok-next.ensures.says in
    (continues_then c.args.book.course c.growing.book.course after c.growing.invariant.continues says.0, says.1)

pub returns-in-Halted-clause-says : goal.returns-in-Halted-clause-says
returns-in-Halted-clause-says g c =
    let after = c.in-Halted.ended.course in
    let says =
    grown_said c.growing.book.course c.in_ok-next.field-0 (grown.Halted c.in-Halted.ended) c.in-Halted.is c.in_ok-next.ensures.says in
    (continues_then c.args.book.course c.growing.book.course after c.growing.invariant.continues says.0, says.1)

pub returns-then-lines-given-clause-says : goal.returns-then-lines-given-clause-says
returns-then-lines-given-clause-says g c =
    let says = grown_said c.growing.book.course c.in_ok-next.field-0 (grown.More c.in-More.next) c.in-More.is c.in_ok-next.ensures.says in
    grows_then c.args.book.course c.growing.book.course c.in-More.next.course c.growing.invariant.continues says
