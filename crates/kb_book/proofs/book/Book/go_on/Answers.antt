use Rattle.std.proofs.Common.{◌<◌, ◌≤◌, length, sym, subst, arith}
use Rattle.kb_machine.specs.Course.{Course}
use Rattle.kb_machine.specs.declared.halt.Halt.{Halt}
use Rattle.kb_book.specs.Books.{BookParts}
use Rattle.kb_book.specs.Normal.{IsNextLine, IsLimitOf}
use Rattle.kb_book.proofs.Courses.{course_keeps}
use Rattle.kb_book.proofs.Limit.{limit_by_length}
use Rattle.kb_book.proofs.book.Book.go_on.Goals as goal

pub stop-requires-then-len-self-2 : goal.stop-requires-then-len-self-2
stop-requires-then-len-self-2 g c =
    let R : BookParts → Type 0 = λ b. length b.course.state.lines < b.course.problem.most_lines in
    let L : BookParts → Type 0 = λ b. b.course.problem.most_letters < length c.in_ok-line.line.left in
    let few : length c.self.inside.lines.items ≤ c.self.inside.most_lines = (course_keeps _ c.self.invariant.is_course).few in
    let less : length c.self.inside.lines.items < c.self.inside.most_lines = omega (arith, c.self.inside.lines.ok.0) in
    let long : c.self.inside.most_letters < length c.in_ok-line.line.left = omega arith in
    let N : Course → Type 0 = λ course. IsNextLine course c.in_ok-line.line in
    let H : Halt → Type 0 = λ halt. IsLimitOf c.next_line.new.self.course halt in
    subst H (sym c.too_long.ensures) (limit_by_length c.next_line.new.self.course c.in_ok-line.line
    (subst N (sym c.next_line.ensures.same) c.in_ok-line.ensures.line) (subst R c.self.view_is less) (subst L c.self.view_is long))

pub add_line-requires-clause-room : goal.add_line-requires-clause-room
add_line-requires-clause-room g c =
    let R : BookParts → Type 0 = λ b. length b.course.state.lines < b.course.problem.most_lines in
    let few : length c.self.inside.lines.items ≤ c.self.inside.most_lines = (course_keeps _ c.self.invariant.is_course).few in
    let less : length c.self.inside.lines.items < c.self.inside.most_lines = omega (arith, c.self.inside.lines.ok.0) in
    subst R c.self.view_is less
