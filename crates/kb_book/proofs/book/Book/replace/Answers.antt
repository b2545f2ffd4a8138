use Rattle.std.proofs.Common.{◌≡◌, ◌<◌, ◌+◌, ℕ, List, [], ◌∷◌, ◌++◌, length, slice_get, length-append, refl, sym, ap, ◌∙◌, subst, arith}
use Rattle.std.specs.List.{Contains, remove}
use Rattle.std.proofs.lemmas.Option.{slice_get_within}
use Rattle.kb_word.specs.WordOrders.{Below}
use Rattle.kb_word.specs.declared.word_order.WordOrder.{WordOrder}
use Rattle.kb_machine.specs.declared.line.Line.{Line}
use Rattle.kb_machine.specs.declared.event.Event.{Event}
use Rattle.kb_machine.specs.declared.event.Event.TheVariants.{Shortened}
use Rattle.kb_book.specs.Books.{BookParts}
use Rattle.kb_book.specs.Shorter.{IsShorter}
use Rattle.kb_book.proofs.Lists.{contains_at}
use Rattle.kb_book.proofs.Courses.{course_keeps, book_after}
use Rattle.kb_book.proofs.Replaced.{shortened, shorter_decreases, rules_replaced}
use Rattle.kb_book.proofs.book.Book.replace.Goals as goal

pub exchange-requires-clause-falls : goal.exchange-requires-clause-falls
exchange-requires-clause-falls g c =
    let S : BookParts → Type 0 = λ b. IsShorter b.course c.args.k c.args.place c.args.line in
    let is = subst S (sym c.self.view_is) c.requires in
    let less = shorter_decreases _ c.args.k c.args.place c.args.line c.self.invariant.is_course is in
    let P : WordOrder → Type 0 = λ o. Below o c.args.line.right c.args.line.left in
    subst P (sym c.self.invariant.decreases) less

pub remove-requires : goal.remove-requires
remove-requires g c =
    let S : BookParts → Type 0 = λ b. IsShorter b.course c.args.k c.args.place c.args.line in
    let is = subst S (sym c.self.view_is) c.requires in
    let within : c.args.place < length c.self.inside.live.items = slice_get_within c.self.inside.live.items c.args.place c.args.k is.at in
    omega (arith, c.self.inside.live.ok.0, c.make_line_room.ensures.live_len)

pub invariant_of-self-2 : goal.invariant_of-self-2
invariant_of-self-2 g c =
    let S : BookParts → Type 0 = λ b. IsShorter b.course c.args.k c.args.place c.args.line in
    let is = subst S (sym c.self.view_is) c.requires in
    let numbers = (course_keeps _ c.self.invariant.is_course).numbers in
    let new : ℕ = c.len.result + 1 in
    let number : new ≡ length c.self.inside.lines.items + 1 = omega (arith, c.self.inside.lines.ok.0) in
    let live = c.add.ensures.items ∙ ap (λ (l : List ℕ). l ++ (c.len.result + 1) ∷ []) (c.remove.ensures.items ∙ ap (λ (l : List ℕ). remove l c.args.place) c.make_line_room.ensures.live) in
    let lines = c.add-2.ensures.items ∙ ap (λ (l : List Line). l ++ c.args.line ∷ []) c.make_line_room.ensures.lines in
    let events = c.add-3.ensures.items ∙ ap (λ (l : List Event). l ++ Shortened c.args.k (c.len.result + 1) ∷ []) c.make_line_room.ensures.events in
    let versions : c.add_line.new.self.published ≡ c.self.inside.versions.published =
    c.add_line.ensures.published ∙ c.take_away.ensures.published ∙ c.make_line_room.ensures.published in
    let has_live = c.make_line_room.ensures.versions_live ∙ c.self.invariant.has_live in
    let at = ap (λ (l : List ℕ). slice_get l c.args.place) has_live ∙ is.at in
    let has_less = c.take_away.ensures.live c.args.place at ∙ ap (λ (l : List ℕ). remove l c.args.place) has_live in
    let has_lines : c.take_away.new.self.lines + 1 ≡ new =
    let had = c.take_away.ensures.lines ∙ c.make_line_room.ensures.versions_lines ∙ c.self.invariant.has_lines in omega (arith, had, number) in
    let one_more : length (c.self.inside.lines.items ++ c.args.line ∷ []) ≡ length c.self.inside.lines.items + 1 =
    length-append c.self.inside.lines.items (c.args.line ∷ []) in
    book_after c.self.invariant
    (shortened _ c.args.k c.args.place (c.len.result + 1) c.args.line _ _ _ _ is number lines live versions events).takes
    (rules_replaced c.self.inside.lines.items c.self.inside.live.items c.args.place c.args.line (c.len.result + 1) _ _ _ _ _
    numbers number c.self.invariant.reduces refl c.in_ok-exchange.ensures.ok lines live)
    c.exchange.ensures.order
    (c.add_line.ensures.live ∙ cc (has_less, has_lines, live))
    (c.add_line.ensures.lines ∙ has_lines ∙ number ∙ sym (ap (λ (l : List Line). length l) lines ∙ one_more))

pub take_away-requires : goal.take_away-requires
take_away-requires g c =
    let S : BookParts → Type 0 = λ b. IsShorter b.course c.args.k c.args.place c.args.line in
    let is = subst S (sym c.self.view_is) c.requires in
    let P : List ℕ → Type 0 = λ l. Contains l c.args.k in
    subst P (sym (c.make_line_room.ensures.versions_live ∙ c.self.invariant.has_live))
    (contains_at c.self.inside.live.items c.args.place c.args.k is.at)

pub returns : goal.returns
returns g c =
    let S : BookParts → Type 0 = λ b. IsShorter b.course c.args.k c.args.place c.args.line in
    let is = subst S (sym c.self.view_is) c.requires in
    let new : ℕ = c.len.result + 1 in
    let number : new ≡ length c.self.inside.lines.items + 1 = omega (arith, c.self.inside.lines.ok.0) in
    let live = c.add.ensures.items ∙ ap (λ (l : List ℕ). l ++ (c.len.result + 1) ∷ []) (c.remove.ensures.items ∙ ap (λ (l : List ℕ). remove l c.args.place) c.make_line_room.ensures.live) in
    let lines = c.add-2.ensures.items ∙ ap (λ (l : List Line). l ++ c.args.line ∷ []) c.make_line_room.ensures.lines in
    let events = c.add-3.ensures.items ∙ ap (λ (l : List Event). l ++ Shortened c.args.k (c.len.result + 1) ∷ []) c.make_line_room.ensures.events in
    let versions : c.add_line.new.self.published ≡ c.self.inside.versions.published =
    c.add_line.ensures.published ∙ c.take_away.ensures.published ∙ c.make_line_room.ensures.published in
    let after = shortened _ c.args.k c.args.place (c.len.result + 1) c.args.line _ _ _ _ is number lines live versions events in
    rw (← c.self.view_is) after
