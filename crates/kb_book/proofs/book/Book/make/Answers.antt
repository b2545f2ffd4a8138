use Rattle.std.proofs.Common.{refl, inr}
use Rattle.kb_book.proofs.Courses.{course_keeps}
use Rattle.kb_book.proofs.Apart.{origin_joined, origin_apart}
use Rattle.kb_book.proofs.Limit.{first_pair}
use Rattle.kb_book.proofs.book.Book.make.Goals as goal

pub returns-in-Some : goal.returns-in-Some
returns-in-Some g c =
    rw (← c.self.view_is)
    (inr (record { same = refl; own = c.in-Some.halt; is = c.in-Some.is; copied = c.in_ok-copy_halt.ensures }))

pub put_pair-requires : goal.put_pair-requires
put_pair-requires g c =
    first_pair c.deref.result.now _ c.deref-2.result.now c.self.inside.lines.items c.self.inside.pending.items
    c.in-Some-first_of.origin c.deref.ensures.value c.deref-2.ensures.value
    (course_keeps _ c.self.invariant.is_course).pairs c.in-Some-first_of.ensures.some.0 c.in-Some-first_of.ensures.some.1

pub drop_pair-requires-clause-joined : goal.drop_pair-requires-clause-joined
drop_pair-requires-clause-joined g c =
    origin_joined c.self.invariant c.in-Some-first_of.origin c.deref.result.now c.deref-2.result.now c.put_pair.new.pair c.reduce.new.self
    c.in_ok-reduce.field-0 c.deref.ensures.value c.deref-2.ensures.value c.in_ok-put_pair.ensures c.in-Joined.is c.in_ok-reduce.ensures.says

pub go_on-requires-clause-apart : goal.go_on-requires-clause-apart
go_on-requires-clause-apart g c =
    origin_apart c.self.invariant c.in-Some-first_of.origin c.deref.result.now c.deref-2.result.now c.put_pair.new.pair c.reduce.new.self
    c.in_ok-reduce.field-0 c.deref.ensures.value c.deref-2.ensures.value c.in_ok-put_pair.ensures c.in-Apart.is c.in_ok-reduce.ensures.says
