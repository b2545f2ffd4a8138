use Rattle.kb_machine.specs.States.{start}
use Rattle.kb_machine.proofs.Sound.{sound}
use Rattle.kb_machine.proofs.Starting.{start_kept}
use Rattle.kb_machine.proofs.Courses.{course_kept}
use Rattle.kb_machine.proofs.laws.courses_are_sound.Goals as goal

pub returns : goal.returns
returns c course is_course =
    sound (course_kept course.problem (start course.problem) course.journal course.state (start_kept course.problem) is_course)
