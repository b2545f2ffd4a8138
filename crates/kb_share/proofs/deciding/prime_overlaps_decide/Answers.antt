use Rattle.kb_share.proofs.NoneApart.{confluent_by_rows}
use Rattle.kb_share.proofs.deciding.prime_overlaps_decide.Goals as goal

pub returns : goal.returns
returns g c = λ rows.
    let course = c.args.book.now.course in
    confluent_by_rows c.composite_overlaps_need_no_look.ensures course.problem course.state c.book_is_sound.ensures rows
