use Rattle.std.proofs.Common.{◌∙◌, List, sym, ap, subst, length, arith}
use Rattle.std.proofs.lemmas.Result.{err_from_is_err_and}
use Rattle.kb_lines.proofs.ReadingLemmas.{no-length, sink-goes-on-then, sink-stays}
use Rattle.kb_lines.specs.declared.together.BlockAnswer.{BlockAnswer}
use Rattle.kb_lines.proofs.TogetherLemmas.{IsAdding, adding-start, adding-next, added-next, next-room, next-stops, adding-end}
use Rattle.kb_lines.proofs.progress.Progress.add_all.Goals as goal

pub loop-answer-init : goal.loop-answer-init
loop-answer-init g c =
    let given = c.into_iter-answer-iterator.ensures.into_iter_gives in
    let progress = c.args.self.now in
    let out = g.O.Sink.state c.args.out.now in
    let Adds : List BlockAnswer → Type 0 = λ list.
    IsAdding (g.A.Answerer.parts c.args.answerer.now) (g.A.Answerer.answers c.args.answerer.now) c.args.blocks.now list progress progress out out in
    record {
      counted = given.1 ∙ c.args.answers.ok.0 ∙ ap length (sym given.0);
      adding = subst Adds (sym given.0) (adding-start c.args.blocks.now c.args.answers.items progress out c.requires.each c.requires.answers c.requires.fresh);
      fresh = c.requires.fresh;
      goes_on = sink-stays out;
    }

pub add-requires-clause-room : goal.add-requires-clause-room
add-requires-clause-room g c =
    let next = adding-next c.in-Some.answer c.next.new.self.rest.items c.in-Some.ensures.steps.0 c.loop-answer.invariant.adding in
    let fit = next-room next in
    let room = c.requires.room in
    omega (arith, fit, room)

pub returns-in_err-add-clause-stops : goal.returns-in_err-add-clause-stops
returns-in_err-add-clause-stops g c = λ told.
    let kept = c.loop-answer.invariant in
    let next = adding-next c.in-Some.answer c.next.new.self.rest.items c.in-Some.ensures.steps.0 kept.adding in
    let p = err_from_is_err_and c.from_residual.result c.from_residual.ensures.1 in
    rw (p.1, p.2)
    (next-stops (g.O.Sink.state c.add.new.out) c.in_err-add.field-0.0 next told
    (c.in_err-add.ensures.stops next.block next.are next.is (rw kept.goes_on.told told)))

pub loop-answer-preserved : goal.loop-answer-preserved
loop-answer-preserved g c =
    let kept = c.loop-answer.invariant in
    let step = c.in-Some.ensures.steps in
    let next = adding-next c.in-Some.answer c.next.new.self.rest.items step.0 kept.adding in
    record {
      counted = omega (arith, step.1, kept.counted, ap length step.0);
      adding = added-next next (λ told. c.in_ok-add.ensures.advances next.block next.are next.is (rw kept.goes_on.told told)) c.in_ok-add.ensures.number;
      fresh = c.in_ok-add.ensures.fresh;
      goes_on = sink-goes-on-then kept.goes_on c.add.ensures.goes_on;
    }

pub returns-clause-advances : goal.returns-clause-advances
returns-clause-advances g c = λ told.
    let kept = c.loop-answer.invariant in
    adding-end (no-length c.loop-answer.answer-iterator.rest.items (sym kept.counted ∙ c.in-None.ensures.steps.0)) kept.adding told

pub returns-clause-number : goal.returns-clause-number
returns-clause-number g c =
    let number = c.loop-answer.invariant.adding.number in
    omega (arith, number)
