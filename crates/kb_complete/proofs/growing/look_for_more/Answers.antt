use Rattle.kb_complete.proofs.Rounds.{enters_continues, pass_confluent, pass_entered, settled_same, confluent_same, grow_later, grow_same, known_entered, known_waiting}
use Rattle.kb_complete.proofs.LastLines.{first_is_apart}
use Rattle.kb_complete.proofs.growing.look_for_more.Goals as goal

pub completed-requires : goal.completed-requires
completed-requires g c =
    let before = c.args.book.course in
    let says = pass_confluent before c.in_ok-same.field-0 c.in-Confluent.same c.in-Confluent.is c.in_ok-same.ensures in
    record {
      settled = settled_same before c.in-Confluent.same.course says.0 c.requires.settled;
      confluent = confluent_same before c.in-Confluent.same.course says.0 says.1;
    }

pub returns-in_ok-completed-in-Confluent-clause-says : goal.returns-in_ok-completed-in-Confluent-clause-says
returns-in_ok-completed-in-Confluent-clause-says g c =
    let before = c.args.book.course in
    let says = pass_confluent before c.in_ok-same.field-0 c.in-Confluent.same c.in-Confluent.is c.in_ok-same.ensures in
    grow_same before c.in-Confluent.same.course c.in_ok-completed-in-Confluent.field-0 says.0 c.in_ok-completed-in-Confluent.ensures.says

pub returns-in_ok-grow_by_first-in-Entered-clause-says : goal.returns-in_ok-grow_by_first-in-Entered-clause-says
returns-in_ok-grow_by_first-in-Entered-clause-says g c =
    let before = c.args.book.course in
    let after = c.in-Entered.passed.course in
    let enters = pass_entered before c.in_ok-same.field-0 c.in-Entered.passed c.in-Entered.is c.in_ok-same.ensures in
    grow_later before after c.in_ok-grow_by_first-in-Entered.field-0 (enters_continues before after enters)
    c.in_ok-grow_by_first-in-Entered.ensures.says

pub returns-in_ok-completed-in-Confluent-clause-known : goal.returns-in_ok-completed-in-Confluent-clause-known
returns-in_ok-completed-in-Confluent-clause-known g c =
    c.in_ok-completed-in-Confluent.ensures.known _ (c.new.ensures c.in-Confluent.same.course.state)

pub grow_by_first-requires-clause-apart : goal.grow_by_first-requires-clause-apart
grow_by_first-requires-clause-apart g c κs within =
    let before = c.args.book.course in
    let after = c.in-Entered.passed.course in
    let enters = pass_entered before c.in_ok-same.field-0 c.in-Entered.passed c.in-Entered.is c.in_ok-same.ensures in
    first_is_apart before after c.book_is_sound.ensures c.requires.settled.settled enters

pub grow_by_first-requires-clause-known : goal.grow_by_first-requires-clause-known
grow_by_first-requires-clause-known g c κs within =
    let before = c.args.book.course in
    let after = c.in-Entered.passed.course in
    let enters = pass_entered before c.in_ok-same.field-0 c.in-Entered.passed c.in-Entered.is c.in_ok-same.ensures in
    known_waiting c.args.finder.now _ after.state (known_entered c.args.finder.now before after enters c.requires.known)

pub returns-in_ok-grow_by_first-in-Entered-clause-known : goal.returns-in_ok-grow_by_first-in-Entered-clause-known
returns-in_ok-grow_by_first-in-Entered-clause-known g c = c.in_ok-grow_by_first-in-Entered.ensures.known
