use Rattle.kb_share.proofs.Rests.{kills_none, kills_more, none_left}
use Rattle.kb_share.proofs.simplifying.kill_each.Goals as goal
use Rattle.kb_share.specs.declared.finding.Side.TheVariants.{Left}

pub loop-line-init : goal.loop-line-init
loop-line-init g c = kills_none c.args.book.now.course c.args.lines.now

pub loop-line-preserved : goal.loop-line-preserved
loop-line-preserved g c =
    kills_more c.args.book.now.course c.loop-line.book.course c.kill.new.self.course c.args.lines.now c.loop-line.line-index
    c.in_ok-kill.field-0 c.in_ok-kill.ensures c.book_is_sound.ensures c.loop-line.invariant

pub returns-clause-lefts : goal.returns-clause-lefts
returns-clause-lefts g c = λ only.
    none_left Left c.loop-line.book.course.state c.args.lines.now c.loop-line.line-index c.loop-line-test.false
    (c.loop-line.invariant.lefts only)
