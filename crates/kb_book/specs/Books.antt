-- What a book is seen as, and what it keeps.
use Rattle.std.specs.Prelude.{◌≡◌, ℕ, ◌≤◌, List, length}
use Rattle.kb_word.specs.Words.{Pair}
use Rattle.kb_word.specs.declared.word_order.WordOrder.{WordOrder}
use Rattle.kb_machine.specs.States.{live_rules}
use Rattle.kb_machine.specs.Course.{Course, IsCourse}
use Rattle.kb_book.specs.Lives.{VersionsParts}

-- a completion, how many overlaps may be entered without taking memory, and how many versions may be published so
pub record BookParts : Type 0 where
  pub course : Course
  pub spare : ℕ
  pub publish_room : ℕ

-- what a book keeps: its completion is a course, it reduces by the live rules, and its versions have its lines
pub record IsBook (course : Course) (rules : List Pair) (order : WordOrder)
    (versions : VersionsParts) : Type 0 where
  pub is_course : IsCourse course
  pub reduces : rules ≡ live_rules course.state
  pub decreases : order ≡ course.problem.order
  pub has_live : versions.live ≡ course.state.live
  pub has_lines : versions.lines ≡ length course.state.lines
  pub most_lines : course.problem.most_lines ≤ 1000000
  pub most_letters : course.problem.most_letters ≤ 65535
