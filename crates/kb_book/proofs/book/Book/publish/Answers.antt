use Rattle.std.proofs.Common.{ℕ, List, [], ◌∷◌, ◌++◌, refl, ap, ◌∙◌}
use Rattle.kb_machine.specs.declared.event.Event.{Event}
use Rattle.kb_machine.specs.declared.event.Event.TheVariants.{Published}
use Rattle.kb_book.proofs.Courses.{book_after}
use Rattle.kb_book.proofs.book.Book.publish.Goals as goal

pub invariant_of-self-2 : goal.invariant_of-self-2
invariant_of-self-2 g c =
    let events = c.add.ensures.items ∙ ap (λ (l : List Event). l ++ Published ∷ []) c.make_publish_room.ensures.events in
    let versions = c.publish.ensures.published ∙ ap (λ (l : List ℕ). c.self.inside.versions.published ++ l ∷ []) c.self.invariant.has_live in
    book_after {event = Published} c.self.invariant (record { problem = refl; journal = events; step = cc versions })
    c.self.invariant.reduces refl (c.publish.ensures.live ∙ c.self.invariant.has_live) (c.publish.ensures.lines ∙ c.self.invariant.has_lines)
