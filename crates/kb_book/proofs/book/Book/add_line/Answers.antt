use Rattle.std.proofs.Common.{◌≡◌, ◌<◌, ◌≤◌, ◌+◌, ℕ, List, [], ◌∷◌, ◌++◌, length, length-append, sym, ap, ◌∙◌, subst, arith}
use Rattle.kb_machine.specs.declared.line.Line.{Line}
use Rattle.kb_machine.specs.Lines.{rule_of}
use Rattle.kb_machine.specs.declared.event.Event.{Event}
use Rattle.kb_machine.specs.declared.event.Event.TheVariants.{Made}
use Rattle.kb_book.specs.Books.{BookParts}
use Rattle.kb_book.specs.Normal.{IsNextLine}
use Rattle.kb_book.proofs.Courses.{course_keeps, book_after}
use Rattle.kb_book.proofs.Events.{made, rules_with}
use Rattle.kb_book.proofs.book.Book.add_line.Goals as goal

pub invariant_of-self-2 : goal.invariant_of-self-2
invariant_of-self-2 g c =
    let N : BookParts → Type 0 = λ b. IsNextLine b.course c.args.line in
    let R : BookParts → Type 0 = λ b. length b.course.state.lines < b.course.problem.most_lines in
    let S : BookParts → Type 0 = λ b. length c.args.line.left ≤ b.course.problem.most_letters in
    let is = subst N (sym c.self.view_is) c.requires.line in
    let room = subst R (sym c.self.view_is) c.requires.room in
    let short = subst S (sym c.self.view_is) c.requires.short in
    let numbers = (course_keeps _ c.self.invariant.is_course).numbers in
    let k : ℕ = c.len.result + 1 in
    let number : k ≡ length c.self.inside.lines.items + 1 = omega (arith, c.self.inside.lines.ok.0) in
    let lines = c.add.ensures.items ∙ ap (λ (l : List Line). l ++ c.args.line ∷ []) c.make_line_room.ensures.lines in
    let live = c.add-2.ensures.items ∙ ap (λ (l : List ℕ). l ++ (c.len.result + 1) ∷ []) c.make_line_room.ensures.live in
    let events = c.add-3.ensures.items ∙ ap (λ (l : List Event). l ++ Made (c.len.result + 1) ∷ []) c.make_line_room.ensures.events in
    let pushed : g.R.Reducer.rules c.push.new.self ≡ g.R.Reducer.rules c.self.inside.reducer ++ rule_of c.args.line ∷ [] =
    cc (c.in_ok-push.ensures.ok, c.in_ok-rule.ensures) in
    let versions : c.add_line.new.self.published ≡ c.self.inside.versions.published =
    c.add_line.ensures.published ∙ c.make_line_room.ensures.published in
    let has_live = c.make_line_room.ensures.versions_live ∙ c.self.invariant.has_live in
    let has_lines : c.make_line_room.new.versions.lines + 1 ≡ k =
    let had = c.make_line_room.ensures.versions_lines ∙ c.self.invariant.has_lines in omega (arith, had, number) in
    let one_more : length (c.self.inside.lines.items ++ c.args.line ∷ []) ≡ length c.self.inside.lines.items + 1 =
    length-append c.self.inside.lines.items (c.args.line ∷ []) in
    book_after c.self.invariant
    (made _ c.args.line (c.len.result + 1) _ _ _ _ _ is room short number lines live c.pop_front.ensures.rest versions events).takes
    (rules_with c.self.inside.lines.items c.self.inside.live.items c.args.line (c.len.result + 1) _ _ _ _ numbers number
    c.self.invariant.reduces pushed lines live)
    c.push.ensures.order
    (c.add_line.ensures.live ∙ cc (has_live, has_lines, live))
    (c.add_line.ensures.lines ∙ has_lines ∙ number ∙ sym (ap (λ (l : List Line). length l) lines ∙ one_more))

pub returns : goal.returns
returns g c =
    let N : BookParts → Type 0 = λ b. IsNextLine b.course c.args.line in
    let R : BookParts → Type 0 = λ b. length b.course.state.lines < b.course.problem.most_lines in
    let S : BookParts → Type 0 = λ b. length c.args.line.left ≤ b.course.problem.most_letters in
    let is = subst N (sym c.self.view_is) c.requires.line in
    let room = subst R (sym c.self.view_is) c.requires.room in
    let short = subst S (sym c.self.view_is) c.requires.short in
    let k : ℕ = c.len.result + 1 in
    let number : k ≡ length c.self.inside.lines.items + 1 = omega (arith, c.self.inside.lines.ok.0) in
    let lines = c.add.ensures.items ∙ ap (λ (l : List Line). l ++ c.args.line ∷ []) c.make_line_room.ensures.lines in
    let live = c.add-2.ensures.items ∙ ap (λ (l : List ℕ). l ++ (c.len.result + 1) ∷ []) c.make_line_room.ensures.live in
    let events = c.add-3.ensures.items ∙ ap (λ (l : List Event). l ++ Made (c.len.result + 1) ∷ []) c.make_line_room.ensures.events in
    let versions : c.add_line.new.self.published ≡ c.self.inside.versions.published =
    c.add_line.ensures.published ∙ c.make_line_room.ensures.published in
    let after = made _ c.args.line (c.len.result + 1) _ _ _ _ _ is room short number lines live c.pop_front.ensures.rest versions events in
    rw (← c.self.view_is) after
