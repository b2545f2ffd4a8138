use Rattle.std.proofs.Common.{arith, rules}
use Rattle.kb_record.proofs.LastPassed.{walk_starts, walk_goes, walk_ends, walk_stops}
use Rattle.kb_record.proofs.passed.last_passed.Goals as goal

pub loop-steps-init : goal.loop-steps-init
loop-steps-init c = walk_starts c.args.bytes.now c.args.passed

pub returns-in_default : goal.returns-in_default
returns-in_default c = let l = c.loop-steps in walk_stops c.args.bytes.now c.args.passed l.steps l.last l.rest.now l.invariant (search rules) (search rules)

pub loop-steps-preserved : goal.loop-steps-preserved
loop-steps-preserved c =
    let l = c.loop-steps in
    walk_goes c.args.bytes.now c.args.passed l.steps l.last l.rest.now c.in-Some.lexeme l.invariant (search rules) c.in-Some.ensures.first c.in-Some.ensures.text

pub returns : goal.returns
returns c = let l = c.loop-steps in walk_ends c.args.bytes.now c.args.passed l.steps l.last l.rest.now l.invariant (grind arith)
