use Rattle.std.proofs.Common.{◌≡◌, ◌≢◌, ◌<◌, ℕ, List, length, refl, sym, subst, arith, inl, inr}
use Rattle.std.specs.List.{AllPairs}
use Rattle.std.proofs.lemmas.Bool.{eqb-true, eqb-false}
use Rattle.kb_machine.specs.Lines.{rule_of}
use Rattle.kb_machine.specs.States.{rule_numbered}
use Rattle.kb_book.specs.Books.{BookParts}
use Rattle.kb_book.specs.Answers.{CanBeShortened, HasNoRoom}
use Rattle.kb_book.specs.Shorter.{IsShorter}
use Rattle.kb_book.proofs.Courses.{course_keeps}
use Rattle.kb_book.proofs.Apart.{steps_fit}
use Rattle.kb_book.proofs.Reduced.{live_number, reduction, least, shortenable, shorter_line, running, is_halted}
use Rattle.kb_book.proofs.book.Book.shorten.Goals as goal
use Rattle.kb_book.proofs.book.Book.shorten.Goals.{then-len-self-via-then-len-self, then-len-self-via-else-len-self+then-is_some}

pub place_of-requires : goal.place_of-requires
place_of-requires g c =
    let live : c.deref.result.now ≡ c.self.inside.live.items = c.deref.ensures.value in
    let P : List ℕ → Type 0 = λ l. AllPairs (λ (one other : ℕ). one < other) l in
    subst P (sym live) (course_keeps _ c.self.invariant.is_course).ascending

pub line_of-own-requires : goal.line_of-own-requires
line_of-own-requires g c = (
  rule_numbered c.deref-2.result.now c.args.k,
  live_number _ c.args.k c.in-Some.place c.deref-2.result.now c.deref.result.now c.self.invariant.is_course
      c.deref-2.ensures.value c.deref.ensures.value c.in-Some.ensures.some,
)

pub returns-then-is_empty : goal.returns-then-is_empty
returns-then-is_empty g c =
    let P : BookParts → Type 0 = λ b. ¬ CanBeShortened b.course.state c.args.k in
    let empty = eqb-true c.in_ok-trace.trace.steps.len 0 (sym c.if-is_empty.ensures) in
    let none : length c.in_ok-trace.trace.steps.items ≡ 0 = omega (arith, empty, c.in_ok-trace.trace.steps.ok.0) in (
      refl,
      subst P c.self.view_is (least _ c.args.k c.in-Some.place _ _ _
          (reduction _ c.args.k c.in-Some.place _ _ (rule_of c.line_of-own.result.now) _ _ _ c.self.invariant.is_course
          c.deref-2.ensures.value c.deref.ensures.value c.self.invariant.reduces c.in-Some.ensures.some c.line_of-own.ensures
          c.in_ok-trace.ensures.normal c.in_ok-trace.ensures.steps) none),
    )

pub returns-then-len-self : goal.returns-then-len-self
returns-then-len-self g c =
    let P : BookParts → Type 0 = λ b. CanBeShortened b.course.state c.args.k in
    let Q : BookParts → Type 0 = λ b. HasNoRoom b.course in
    let full : c.in_ok-trace.trace.steps.len ≢ 0 = eqb-false c.in_ok-trace.trace.steps.len 0 (sym c.if-is_empty.ensures) in
    let some : 0 < length c.in_ok-trace.trace.steps.items = omega (arith, full, c.in_ok-trace.trace.steps.ok.0) in (
      refl,
      subst P c.self.view_is (shortenable _ c.args.k c.in-Some.place _ _ _
          (reduction _ c.args.k c.in-Some.place _ _ (rule_of c.line_of-own.result.now) _ _ _ c.self.invariant.is_course
          c.deref-2.ensures.value c.deref.ensures.value c.self.invariant.reduces c.in-Some.ensures.some c.line_of-own.ensures
          c.in_ok-trace.ensures.normal c.in_ok-trace.ensures.steps) some),
      subst Q c.self.view_is (elim c.then-len-self.branch [
        | then-len-self-via-then-len-self w ↦ inl (omega (arith, c.self.inside.lines.ok.0))
        | then-len-self-via-else-len-self+then-is_some w ↦ inr (is_halted c.self.inside.halt w.if-is_some.ensures)
      ]),
    )

pub shorter-requires : goal.shorter-requires
shorter-requires g c =
    steps_fit c.self.inside.lines.items c.self.inside.live.items _ _ _ _ _ c.in_ok-trace.trace.word c.self.invariant.reduces
    c.deref-3.ensures.value refl c.in_ok-trace.ensures.steps

pub replace-requires : goal.replace-requires
replace-requires g c =
    let P : BookParts → Type 0 = λ b. IsShorter b.course c.args.k c.in-Some.place c.in_ok-line.line in
    let full : c.in_ok-trace.trace.steps.len ≢ 0 = eqb-false c.in_ok-trace.trace.steps.len 0 (sym c.if-is_empty.ensures) in
    let some : 0 < length c.in_ok-trace.trace.steps.items = omega (arith, full, c.in_ok-trace.trace.steps.ok.0) in
    subst P c.self.view_is (shorter_line _ c.args.k c.in-Some.place c.line_of-own.result.now c.in_ok-line.line _ _ _
    (reduction _ c.args.k c.in-Some.place _ _ (rule_of c.line_of-own.result.now) _ _ _ c.self.invariant.is_course
    c.deref-2.ensures.value c.deref.ensures.value c.self.invariant.reduces c.in-Some.ensures.some c.line_of-own.ensures
    c.in_ok-trace.ensures.normal c.in_ok-trace.ensures.steps)
    some (running c.self.inside.halt c.if-is_some.ensures) (omega (arith, c.self.inside.lines.ok.0)) c.deref-3.ensures.value c.in_ok-line.ensures.origin c.in_ok-line.ensures.left
    c.in_ok-line.ensures.right c.in_ok-line.ensures.first_steps c.in_ok-line.ensures.second_steps)
