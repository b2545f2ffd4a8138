use Rattle.std.proofs.Common.{◌∙◌, ℕ, List, [], length, refl, sym, ap, subst, arith, length-append}
use Rattle.std.proofs.lemmas.Bool.{eqb-true}
use Rattle.std.proofs.lemmas.Result.{err_from_is_err_and}
use Rattle.kb_lines.specs.Progress.{Advances}
use Rattle.kb_lines.specs.Batches.{taken, joined}
use Rattle.kb_lines.specs.declared.batch.Batch.{Batch}
use Rattle.kb_lines.specs.declared.progress.Progress.{Progress}
use Rattle.kb_lines.proofs.BatchLemmas.{no-joined, none-wait, none-taken, ended-advances, ended-stops, answered-held, answered-least}
use Rattle.kb_lines.proofs.ProgressLemmas.{nothing-in}
use Rattle.kb_lines.proofs.ReadingLemmas.{no-length}
use Rattle.kb_lines.proofs.batch.Batch.answer_taken.Goals as goal

-- memory ran out before the lines were answered
pub returns-in_err-end_block-clause-stops : goal.returns-in_err-end_block-clause-stops
returns-in_err-end_block-clause-stops g c = λ told.
    let p = err_from_is_err_and c.from_residual.result c.from_residual.ensures.1 in
    rw (p.1, p.2)
    (nothing-in (g.A.Answerer.parts c.args.answerer.now) (g.A.Answerer.answers c.args.answerer.now) (taken c.args.self.now)
    c.args.self.now.progress (g.O.Sink.state c.args.out.now))

-- no lines were taken
pub returns-then-is_empty-clause-advances : goal.returns-then-is_empty-clause-advances
returns-then-is_empty-clause-advances g c = λ told.
    let old = c.args.self.now in
    let ended : Batch = c.end_block.new.self in
    let out = g.O.Sink.state c.args.out.now in
    let none = no-length ended.blocks.items (omega (arith, eqb-true _ _ (sym c.if-is_empty.ensures), ended.blocks.ok)) in
    subst (λ (progress : Progress). Advances (g.A.Answerer.parts c.args.answerer.now) (g.A.Answerer.answers c.args.answerer.now)
    (taken old) [] old.progress progress out out)
    (sym c.end_block.ensures.progress)
    (none-taken old out told c.requires.ready (sym c.in_ok-end_block.ensures.taken ∙ no-joined ended.blocks.items none))

pub returns-then-is_empty-clause-ready : goal.returns-then-is_empty-clause-ready
returns-then-is_empty-clause-ready g c =
    let ended : Batch = c.end_block.new.self in
    let ready = c.in_ok-end_block.ensures.ready in
    let none = no-length ended.blocks.items (omega (arith, eqb-true _ _ (sym c.if-is_empty.ensures), ended.blocks.ok)) in
    answered-held ended _ ready none c.in_ok-end_block.ensures.none refl refl ready.fresh ready.sent

pub answer_together-requires-clause-fresh : goal.answer_together-requires-clause-fresh
answer_together-requires-clause-fresh g c = λ κs lives. c.in_ok-end_block.ensures.ready.fresh

pub answer_together-requires-clause-few : goal.answer_together-requires-clause-few
answer_together-requires-clause-few g c = rw c.deref.ensures.value (λ κs lives. c.in_ok-end_block.ensures.ready.few)

pub answer_together-requires-clause-room : goal.answer_together-requires-clause-room
answer_together-requires-clause-room g c =
    let old = c.args.self.now in
    let room = c.requires.room in
    let same = ap (λ (progress : Progress). progress.number) c.end_block.ensures.progress in
    let size = ap (λ (blocks : List (List ℕ)). length (joined blocks)) c.deref.ensures.value in
    let all = ap length c.in_ok-end_block.ensures.taken in
    omega (arith, room, same, size, all, length-append (taken old) old.line.items)

pub answer_together-requires-clause-each : goal.answer_together-requires-clause-each
answer_together-requires-clause-each g c = rw c.deref.ensures.value (λ κs lives. c.in_ok-end_block.ensures.ready.each)

pub returns-in_err-answer_together-clause-stops : goal.returns-in_err-answer_together-clause-stops
returns-in_err-answer_together-clause-stops g c = λ told.
    let p = err_from_is_err_and c.from_residual-in_err-answer_together.result c.from_residual-in_err-answer_together.ensures.1 in
    rw (p.1, p.2)
    (ended-stops (g.A.Answerer.parts c.args.answerer.now) (g.A.Answerer.answers c.args.answerer.now) c.args.self.now c.end_block.new.self
    (g.O.Sink.state c.args.out.now) (g.O.Sink.state c.answer_together.new.out) c.in_err-answer_together.field-0.0
    c.in_ok-end_block.ensures.taken c.end_block.ensures.progress (rw c.deref.ensures.value at (c.in_err-answer_together.ensures.stops told)))

pub returns-clause-advances : goal.returns-clause-advances
returns-clause-advances g c = λ told.
    ended-advances c.args.self.now c.end_block.new.self _ c.in_ok-end_block.ensures.taken c.end_block.ensures.progress
    (rw c.deref.ensures.value at (c.in_ok-answer_together.ensures.advances told))

pub returns-clause-ready : goal.returns-clause-ready
returns-clause-ready g c =
    let answer = c.in_ok-answer_together.ensures in
    answered-held c.end_block.new.self _ c.in_ok-end_block.ensures.ready c.clear.ensures.items c.in_ok-end_block.ensures.none refl refl
    answer.fresh answer.sent

pub returns-clause-none : goal.returns-clause-none
returns-clause-none g c =
    none-wait c.clear.new.self.items c.end_block.new.self.block.items c.clear.ensures.items c.in_ok-end_block.ensures.none

pub returns-clause-number : goal.returns-clause-number
returns-clause-number g c =
    let ended : Batch = c.end_block.new.self in
    let same = ap (λ (progress : Progress). progress.number) c.end_block.ensures.progress in
    let size = ap (λ (blocks : List (List ℕ)). length (joined blocks)) c.deref.ensures.value in
    let all = ap length c.in_ok-end_block.ensures.taken in
    let number = c.in_ok-answer_together.ensures.number in
    answered-least c.args.self.now c.clear.new.self.items ended.block.items ended.line.items c.answer_together.new.self.number
    (none-wait c.clear.new.self.items ended.block.items c.clear.ensures.items c.in_ok-end_block.ensures.none) c.end_block.ensures.line
    (omega (arith, same, size, all, number))
