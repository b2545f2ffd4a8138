use Rattle.std.proofs.Common.{◌≡◌, ◌<◌, ℕ, List, [], ◌∷◌, ◌++◌, length, slice_get, refl, sym, ap, ◌∙◌, subst, arith}
use Rattle.std.specs.List.{AllPairs, Contains, remove}
use Rattle.std.proofs.lemmas.Option.{slice_get_within}
use Rattle.kb_machine.specs.Lines.{rules_of}
use Rattle.kb_machine.specs.declared.line.Line.{Line}
use Rattle.kb_machine.specs.declared.origin.Origin.{Origin}
use Rattle.kb_machine.specs.declared.origin.Origin.TheVariants as origins
use Rattle.kb_machine.specs.States.{rule_numbered}
use Rattle.kb_machine.specs.Course.{Takes}
use Rattle.kb_machine.specs.declared.event.Event.{Event}
use Rattle.kb_machine.specs.declared.event.Event.TheVariants.{Killed}
use Rattle.kb_book.specs.Books.{BookParts}
use Rattle.kb_book.specs.Answers.{CanBeKilled}
use Rattle.kb_book.specs.Factors.{IsReplaceable}
use Rattle.kb_book.proofs.Lists.{contains_at}
use Rattle.kb_book.proofs.Courses.{course_keeps, book_after}
use Rattle.kb_book.proofs.Removal.{killed_takes, cannot_be_killed, rules_without, place_within}
use Rattle.kb_book.proofs.book.Book.kill.Goals as goal

pub replaceable-requires : goal.replaceable-requires
replaceable-requires g c =
    let live : c.deref-2.result.now ≡ c.self.inside.live.items = c.deref-2.ensures.value in
    let P : List ℕ → Type 0 = λ l. AllPairs (λ (one other : ℕ). one < other) l in
    subst P (sym live) (course_keeps _ c.self.invariant.is_course).ascending

pub returns-in_default : goal.returns-in_default
returns-in_default g c =
    let lines : c.deref.result.now ≡ c.self.inside.lines.items = c.deref.ensures.value in
    let live : c.deref-2.result.now ≡ c.self.inside.live.items = c.deref-2.ensures.value in
    let P : BookParts → Type 0 = λ b. ¬ CanBeKilled b.course.state c.args.k in
    let Q : List Line → Type 0 = λ l. (place : ℕ) → ¬ IsReplaceable (rules_of l) c.deref-2.result.now c.args.k place in
    let R : List ℕ → Type 0 = λ l. (place : ℕ) → ¬ IsReplaceable (rules_of c.self.inside.lines.items) l c.args.k place in
    (refl, subst P c.self.view_is (cannot_be_killed _ c.args.k (subst R live (subst Q lines c.in_default.ensures.none))))

pub remove-requires : goal.remove-requires
remove-requires g c =
    let lines : c.deref.result.now ≡ c.self.inside.lines.items = c.deref.ensures.value in
    let live : c.deref-2.result.now ≡ c.self.inside.live.items = c.deref-2.ensures.value in
    let R : List ℕ → Type 0 = λ l. IsReplaceable (rules_of c.deref.result.now) l c.args.k c.in-Some.place in
    let own = subst R live c.in-Some.ensures.some in
    place_within (rule_numbered c.self.inside.lines.items) c.self.inside.live.items _ c.args.k c.in-Some.place c.self.invariant.reduces own.at

pub remove-requires-2 : goal.remove-requires-2
remove-requires-2 g c =
    let live : c.deref-2.result.now ≡ c.self.inside.live.items = c.deref-2.ensures.value in
    let R : List ℕ → Type 0 = λ l. IsReplaceable (rules_of c.deref.result.now) l c.args.k c.in-Some.place in
    let own = subst R live c.in-Some.ensures.some in
    let within : c.in-Some.place < length c.self.inside.live.items = slice_get_within c.self.inside.live.items c.in-Some.place c.args.k own.at in
    omega (arith, c.self.inside.live.ok.0)

pub invariant_of-self-2 : goal.invariant_of-self-2
invariant_of-self-2 g c =
    let lines : c.deref.result.now ≡ c.self.inside.lines.items = c.deref.ensures.value in
    let live : c.deref-2.result.now ≡ c.self.inside.live.items = c.deref-2.ensures.value in
    let Q : List Line → Type 0 = λ l. IsReplaceable (rules_of l) c.deref-2.result.now c.args.k c.in-Some.place in
    let R : List ℕ → Type 0 = λ l. IsReplaceable (rules_of c.self.inside.lines.items) l c.args.k c.in-Some.place in
    let own = subst R live (subst Q lines c.in-Some.ensures.some) in
    let events = c.add.ensures.items ∙ ap (λ (l : List Event). l ++ Killed c.args.k ∷ []) c.make_room.ensures.events in
    let pending = c.append.ensures.items ∙ ap (λ (l : List Origin). l ++ origins.Killed c.args.k ∷ []) c.make_room.ensures.origins in
    let kept = c.self.invariant in
    let live_now = c.remove-2.ensures.items in
    let versions = c.take_away.ensures.published in
    let has_live = c.self.invariant.has_live in
    let at = ap (λ (l : List ℕ). slice_get l c.in-Some.place) has_live ∙ own.at in
    book_after kept (killed_takes _ c.args.k c.in-Some.place _ _ _ _ own live_now pending versions events)
    (rules_without (rule_numbered c.self.inside.lines.items) c.self.inside.live.items _ _ _ c.in-Some.place kept.reduces
    c.in_ok-remove.ensures.ok live_now)
    c.remove.ensures.order
    (c.take_away.ensures.live c.in-Some.place at ∙ ap (λ (l : List ℕ). remove l c.in-Some.place) has_live ∙ sym live_now)
    (c.take_away.ensures.lines ∙ kept.has_lines)

pub take_away-requires : goal.take_away-requires
take_away-requires g c =
    let live : c.deref-2.result.now ≡ c.self.inside.live.items = c.deref-2.ensures.value in
    let R : List ℕ → Type 0 = λ l. IsReplaceable (rules_of c.deref.result.now) l c.args.k c.in-Some.place in
    let own = subst R live c.in-Some.ensures.some in
    let P : List ℕ → Type 0 = λ l. Contains l c.args.k in
    subst P (sym c.self.invariant.has_live) (contains_at c.self.inside.live.items c.in-Some.place c.args.k own.at)

pub returns : goal.returns
returns g c =
    let lines : c.deref.result.now ≡ c.self.inside.lines.items = c.deref.ensures.value in
    let live : c.deref-2.result.now ≡ c.self.inside.live.items = c.deref-2.ensures.value in
    let Q : List Line → Type 0 = λ l. IsReplaceable (rules_of l) c.deref-2.result.now c.args.k c.in-Some.place in
    let R : List ℕ → Type 0 = λ l. IsReplaceable (rules_of c.self.inside.lines.items) l c.args.k c.in-Some.place in
    let own = subst R live (subst Q lines c.in-Some.ensures.some) in
    let events = c.add.ensures.items ∙ ap (λ (l : List Event). l ++ Killed c.args.k ∷ []) c.make_room.ensures.events in
    let pending = c.append.ensures.items ∙ ap (λ (l : List Origin). l ++ origins.Killed c.args.k ∷ []) c.make_room.ensures.origins in
    let after = killed_takes _ c.args.k c.in-Some.place _ _ _ _ own c.remove-2.ensures.items pending c.take_away.ensures.published events in
    let P : BookParts → Type 0 = λ b. Takes (Killed c.args.k) b.course (record {
      problem = b.course.problem;
      state = record b.course.state { live = c.remove-2.new.self.items; pending = c.append.new.pending.items; versions = c.take_away.new.self.published };
      journal = c.add.new.list.items;
    }) in
    rw (← c.self.view_is) after
