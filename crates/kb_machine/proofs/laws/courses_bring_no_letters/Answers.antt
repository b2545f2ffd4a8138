use Rattle.kb_machine.specs.States.{start}
use Rattle.kb_machine.proofs.Sound.{sound}
use Rattle.kb_machine.proofs.Starting.{start_kept}
use Rattle.kb_machine.proofs.Courses.{course_kept}
use Rattle.kb_machine.proofs.Letters.{sound_over}
use Rattle.kb_machine.proofs.laws.courses_bring_no_letters.Goals as goal

pub returns : goal.returns
returns c n course given is_course =
    let inv = course_kept course.problem (start course.problem) course.journal course.state (start_kept course.problem) is_course in
    sound_over n course.problem course.state given (sound inv)
