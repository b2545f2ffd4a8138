use Rattle.kb_fsamin.proofs.FirstClasses.{classed_by, few_by, numbers_room}
use Rattle.kb_fsamin.proofs.classes.by_label.Goals as goal

pub first_classes-requires-clause-few : goal.first_classes-requires-clause-few
first_classes-requires-clause-few c =
    let numbers = c.in_ok-numbers.ensures in
    numbers_room c.args.table.now c.args.labels.now numbers.0 c.in_ok-numbers.numbers.of.items c.as_slice.result.now c.len-states.ensures.table
    numbers.2 c.as_slice.ensures.value

pub returns-clause-classing : goal.returns-clause-classing
returns-clause-classing c =
    let numbers = c.in_ok-numbers.ensures in
    classed_by c.args.table.now c.args.labels.now c.args.marks.now numbers.0 c.in_ok-numbers.numbers.of.items c.as_slice.result.now
    c.in_ok-classes.classes.items (record { is_table = c.len-states.ensures.table; marked = c.requires.live; numbered = numbers.2 })
    c.as_slice.ensures.value c.in_ok-classes.ensures

pub returns-clause-few : goal.returns-clause-few
returns-clause-few c =
    let numbers = c.in_ok-numbers.ensures in
    few_by c.args.table.now c.args.labels.now c.args.marks.now numbers.0 c.in_ok-numbers.numbers.of.items c.as_slice.result.now
    c.in_ok-classes.classes.items c.in_ok-numbers.numbers.count
    (record { is_table = c.len-states.ensures.table; marked = c.requires.live; numbered = numbers.2 }) c.as_slice.ensures.value
    numbers.1 c.in_ok-classes.ensures
