use Rattle.kb_share.proofs.LineSteps.{shorten_left}
use Rattle.kb_share.proofs.Rests.{shortens_none, shortens_more, shortens_all}
use Rattle.kb_share.proofs.simplifying.shorten_each.Goals as goal

pub loop-line-init : goal.loop-line-init
loop-line-init g c = shortens_none c.args.book.now.course c.args.lines.now

pub loop-line-preserved : goal.loop-line-preserved
loop-line-preserved g c =
    shortens_more c.args.book.now.course c.loop-line.book.course c.shorten.new.self.course c.args.lines.now c.loop-line.line-index
    c.in_ok-shorten.field-0 c.in_ok-shorten.ensures c.book_is_sound.ensures c.loop-line.invariant

pub returns-in_err-shorten-clause-lefts : goal.returns-in_err-shorten-clause-lefts
returns-in_err-shorten-clause-lefts g c = λ none.
    shorten_left _ c.loop-line.book.course c.shorten.new.self.course c.shorten.result c.shorten.ensures c.book_is_sound.ensures
    (c.loop-line.invariant.lefts none)

pub returns-clause-rights : goal.returns-clause-rights
returns-clause-rights g c = λ runs only.
    shortens_all c.args.book.now.course c.loop-line.book.course c.args.lines.now c.loop-line.line-index c.loop-line-test.false
    c.loop-line.invariant runs only
