use Rattle.std.proofs.Common.{List, [], ◌∷◌, ◌++◌, refl, ap, ◌∙◌, arith, rules}
use Rattle.kb_word.specs.Words.{Pair}
use Rattle.kb_machine.specs.Lines.{rules_of, OverlapOfNumbers}
use Rattle.kb_machine.specs.declared.event.Event.{Event}
use Rattle.kb_machine.specs.declared.event.Event.TheVariants.{Entered}
use Rattle.kb_machine.specs.declared.origin.Origin.{Origin}
use Rattle.kb_machine.specs.declared.origin.Origin.TheVariants.{Overlap}
use Rattle.kb_book.proofs.Courses.{book_after, place_is_short}
use Rattle.kb_book.proofs.book.Book.enter.Goals as goal

pub overflow_cast-origin : goal.overflow_cast-origin
overflow_cast-origin g c =
    let found : (first second : Pair) × OverlapOfNumbers (rules_of c.self.inside.lines.items) c.args.i c.args.j c.args.place first second = search rules in
    let short = place_is_short _ c.self.invariant.is_course c.self.invariant.most_letters c.args.i c.args.j c.args.place found.0 found.1 found.2 in
    omega (arith, short)

pub overflow_cast-event : goal.overflow_cast-event
overflow_cast-event g c =
    let found : (first second : Pair) × OverlapOfNumbers (rules_of c.self.inside.lines.items) c.args.i c.args.j c.args.place first second = search rules in
    let short = place_is_short _ c.self.invariant.is_course c.self.invariant.most_letters c.args.i c.args.j c.args.place found.0 found.1 found.2 in
    omega (arith, short)

pub invariant_of-self-2 : goal.invariant_of-self-2
invariant_of-self-2 g c =
    let event : Event = Entered c.args.worker c.args.place c.args.i c.args.j in
    let origin : Origin = Overlap c.args.i c.args.j c.args.place in
    let found : (first second : Pair) × OverlapOfNumbers (rules_of c.self.inside.lines.items) c.args.i c.args.j c.args.place first second = search rules in
    let events = c.add.ensures.items ∙ ap (λ (l : List Event). l ++ event ∷ []) c.make_room.ensures.events in
    let origins = c.append.ensures.items ∙ ap (λ (l : List Origin). l ++ origin ∷ []) c.make_room.ensures.origins in
    book_after {event = event} c.self.invariant
    (record { problem = refl; journal = events; step = record { first = found.0; second = found.1; overlap = found.2; is = cc origins } })
    c.self.invariant.reduces refl c.self.invariant.has_live c.self.invariant.has_lines
