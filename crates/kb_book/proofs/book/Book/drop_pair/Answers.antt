use Rattle.std.proofs.Common.{List, [], ◌∷◌, ◌++◌, refl, sym, ap, ◌∙◌, subst}
use Rattle.kb_machine.specs.declared.event.Event.{Event}
use Rattle.kb_machine.specs.declared.event.Event.TheVariants.{Dropped}
use Rattle.kb_book.specs.Books.{BookParts}
use Rattle.kb_book.specs.Normal.{IsNext, PairIsJoined}
use Rattle.kb_book.proofs.Courses.{course_keeps, book_after}
use Rattle.kb_book.proofs.Events.{dropped}
use Rattle.kb_book.proofs.book.Book.drop_pair.Goals as goal

pub invariant_of-self-2 : goal.invariant_of-self-2
invariant_of-self-2 g c =
    let N : BookParts → Type 0 = λ b. IsNext b.course c.args.origin in
    let O : BookParts → Type 0 = λ b. PairIsJoined b.course c.args.origin in
    let next = subst N (sym c.self.view_is) c.requires.next in
    let one = subst O (sym c.self.view_is) c.requires.joined in
    let numbers = (course_keeps _ c.self.invariant.is_course).numbers in
    let events = c.add.ensures.items ∙ ap (λ (l : List Event). l ++ Dropped ∷ []) c.grow.ensures.items in
    book_after c.self.invariant (dropped _ c.args.origin _ _ next one numbers c.pop_front.ensures.rest events).takes
    c.self.invariant.reduces refl c.self.invariant.has_live c.self.invariant.has_lines

pub returns : goal.returns
returns g c =
    let N : BookParts → Type 0 = λ b. IsNext b.course c.args.origin in
    let O : BookParts → Type 0 = λ b. PairIsJoined b.course c.args.origin in
    let next = subst N (sym c.self.view_is) c.requires.next in
    let one = subst O (sym c.self.view_is) c.requires.joined in
    let numbers = (course_keeps _ c.self.invariant.is_course).numbers in
    let events = c.add.ensures.items ∙ ap (λ (l : List Event). l ++ Dropped ∷ []) c.grow.ensures.items in
    let after = dropped _ c.args.origin _ _ next one numbers c.pop_front.ensures.rest events in
    rw (← c.self.view_is) after
