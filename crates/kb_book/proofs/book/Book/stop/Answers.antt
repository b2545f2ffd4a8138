use Rattle.std.proofs.Common.{List, [], ◌∷◌, ◌++◌, Some, refl, sym, ap, ◌∙◌, subst, inl}
use Rattle.kb_machine.specs.declared.event.Event.{Event}
use Rattle.kb_machine.specs.declared.event.Event.TheVariants.{Halted}
use Rattle.kb_book.specs.Books.{BookParts}
use Rattle.kb_book.specs.Normal.{IsLimitOf}
use Rattle.kb_book.proofs.Courses.{book_after}
use Rattle.kb_book.proofs.Events.{halted}
use Rattle.kb_book.proofs.book.Book.stop.Goals as goal

pub invariant_of-self-2 : goal.invariant_of-self-2
invariant_of-self-2 g c =
    let L : BookParts → Type 0 = λ b. IsLimitOf b.course c.args.halt in
    let limit = subst L (sym c.self.view_is) c.requires in
    let events = c.add.ensures.items ∙ ap (λ (l : List Event). l ++ Halted ∷ []) c.grow.ensures.items in
    book_after c.self.invariant
    (halted _ c.args.halt c.in_ok-copy.copy (Some c.args.halt) _ limit c.in_ok-copy.ensures refl events).takes
    c.self.invariant.reduces refl c.self.invariant.has_live c.self.invariant.has_lines

pub returns : goal.returns
returns g c =
    let L : BookParts → Type 0 = λ b. IsLimitOf b.course c.args.halt in
    let limit = subst L (sym c.self.view_is) c.requires in
    let events = c.add.ensures.items ∙ ap (λ (l : List Event). l ++ Halted ∷ []) c.grow.ensures.items in
    let after = halted _ c.args.halt c.in_ok-copy.copy (Some c.args.halt) _ limit c.in_ok-copy.ensures refl events in
    rw (← c.self.view_is) (inl after)
