use Rattle.std.proofs.Common.{◌≡◌, ℕ, List, map, refl, sym, ap, ◌∙◌, subst}
use Rattle.kb_machine.specs.declared.line.Line.{Line}
use Rattle.kb_machine.specs.Lines.{rules_of, IsPairOf}
use Rattle.kb_word.specs.Words.{Pair}
use Rattle.kb_machine.specs.States.{live_rules}
use Rattle.kb_book.specs.Books.{BookParts}
use Rattle.kb_book.specs.Normal.{IsNext, by_line}
use Rattle.kb_rules.specs.declared.trace.Step.{Step}
use Rattle.kb_book.proofs.Courses.{course_keeps}
use Rattle.kb_book.proofs.Apart.{forms_differ, next_line_is, pair_of_words, steps_fit}
use Rattle.kb_book.proofs.book.Book.next_line.Goals as goal

pub log_steps-requires : goal.log_steps-requires
log_steps-requires g c =
    steps_fit c.self.inside.lines.items c.self.inside.live.items _ _ c.first.result.now _ _ c.in_ok-first.first.word
    c.self.invariant.reduces c.deref-3.ensures.value c.deref-4.ensures.value c.in_ok-first.ensures.steps

pub log_steps-requires-2 : goal.log_steps-requires-2
log_steps-requires-2 g c =
    steps_fit c.self.inside.lines.items c.self.inside.live.items _ _ c.second.result.now _ _ c.in_ok-second.second.word
    c.self.invariant.reduces c.deref-5.ensures.value c.deref-6.ensures.value c.in_ok-second.ensures.steps

pub ordered-left-requires : goal.ordered-left-requires
ordered-left-requires g c =
    let pair : Pair = (c.first.result.now, c.second.result.now) in
    let lines : c.deref-2.result.now ≡ c.self.inside.lines.items = c.deref-2.ensures.value in
    let Q : List Line → Type 0 = λ l. IsPairOf c.deref.result.now (rules_of l) c.args.origin pair in
    let V : BookParts → Type 0 = λ b. IsPairOf c.deref.result.now (rules_of b.course.state.lines) c.args.origin pair in
    let is_pair = pair_of_words _ _ c.args.origin c.put_pair.new.pair pair.0 pair.1 c.in_ok-put_pair.ensures c.first.ensures c.second.ensures in
    forms_differ c.args.self.now.course c.args.origin c.requires.apart c.deref.result.now pair _ _ _
    (c.deref.ensures.value ∙ ap (λ (b : BookParts). b.course.problem.relations) c.self.view_is)
    (c.self.invariant.reduces ∙ ap (λ (b : BookParts). live_rules b.course.state) c.self.view_is)
    (subst V c.self.view_is (subst Q lines is_pair))
    c.in_ok-first.ensures.normal c.in_ok-second.ensures.normal

pub returns-clause-line : goal.returns-clause-line
returns-clause-line g c =
    let N : BookParts → Type 0 = λ b. IsNext b.course c.args.origin in
    let next = subst N (sym c.self.view_is) c.requires.next in
    let numbers = (course_keeps _ c.self.invariant.is_course).numbers in
    let first_is = c.in_ok-first_steps.ensures ∙ ap (λ (l : List ℕ). map (by_line l) c.deref-4.result.now) c.deref-3.ensures.value
    ∙ ap (λ (l : List Step). map (by_line c.self.inside.live.items) l) c.deref-4.ensures.value in
    let second_is = c.in_ok-second_steps.ensures ∙ ap (λ (l : List ℕ). map (by_line l) c.deref-6.result.now) c.deref-5.ensures.value
    ∙ ap (λ (l : List Step). map (by_line c.self.inside.live.items) l) c.deref-6.ensures.value in
    let is_pair = pair_of_words _ _ c.args.origin c.put_pair.new.pair c.first.result.now c.second.result.now
    c.in_ok-put_pair.ensures c.first.ensures c.second.ensures in
    rw (← c.self.view_is)
    (next_line_is _ c.args.origin c.deref.result.now c.deref-2.result.now c.self.inside.live.items
    (c.first.result.now, c.second.result.now) _ _ _ _ _ _ next numbers
    c.deref.ensures.value c.deref-2.ensures.value refl c.self.invariant.reduces
    is_pair c.in_ok-first.ensures.normal c.in_ok-second.ensures.normal
    c.in_ok-first.ensures.steps c.in_ok-second.ensures.steps refl c.ordered-left.ensures.both c.ordered-left.ensures.less
    first_is second_is)
