use Rattle.std.proofs.Common.{subst}
use Rattle.kb_lines.specs.Batches.{IsBlockAnswer}
use Rattle.kb_lines.specs.declared.together.BlockAnswer.{BlockAnswer}
use Rattle.kb_lines.proofs.progress.Progress.add.Goals as goal

pub returns-in-Given-clause-advances : goal.returns-in-Given-clause-advances
returns-in-Given-clause-advances g c = λ block are is told.
    let Is : BlockAnswer → Type 0 = λ answer. IsBlockAnswer (g.A.Answerer.parts c.args.answerer.now) (g.A.Answerer.answers c.args.answerer.now) block answer in
    c.add_text.ensures.advances block are (rw c.deref.ensures.value (subst Is c.in-Given.is is)) told

pub returns-in-Given-clause-stops : goal.returns-in-Given-clause-stops
returns-in-Given-clause-stops g c = λ block are is told.
    let Is : BlockAnswer → Type 0 = λ answer. IsBlockAnswer (g.A.Answerer.parts c.args.answerer.now) (g.A.Answerer.answers c.args.answerer.now) block answer in
    c.add_text.ensures.stops block are (rw c.deref.ensures.value (subst Is c.in-Given.is is)) told

pub returns-in-Faulty-clause-stops : goal.returns-in-Faulty-clause-stops
returns-in-Faulty-clause-stops g c = λ block are is told.
    let Is : BlockAnswer → Type 0 = λ answer. IsBlockAnswer (g.A.Answerer.parts c.args.answerer.now) (g.A.Answerer.answers c.args.answerer.now) block answer in
    c.refuse.ensures.stops block (rw c.deref-in-Faulty.ensures.value (subst Is c.in-Faulty.is is)) told
