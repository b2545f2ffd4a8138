use Rattle.std.proofs.Common.{arith}
use Rattle.kb_explore.proofs.Traces.{IsTracing-begun, tracing_within, IsTracing-more, tracing_smaller, IsTraced-whole}
use Rattle.kb_explore.proofs.exploration.text_to.Goals as goal

pub loop-parent-init : goal.loop-parent-init
loop-parent-init c = rw c.new-text.ensures.items (IsTracing-begun c.requires.traced.1)

pub bounds-origins-parent : goal.bounds-origins-parent
bounds-origins-parent c =
    let within = tracing_within c.loop-parent.invariant c.loop-parent-test.true in let some = c.loop-parent-test.true in omega arith

pub bounds-origins-parent-in-loop-parent : goal.bounds-origins-parent-in-loop-parent
bounds-origins-parent-in-loop-parent c =
    let within = tracing_within c.loop-parent.invariant c.loop-parent-test.true in let some = c.loop-parent-test.true in omega arith

pub loop-parent-smaller : goal.loop-parent-smaller
loop-parent-smaller c = tracing_smaller c.loop-parent.invariant c.requires.from_earlier c.loop-parent-test.true

pub loop-parent-preserved : goal.loop-parent-preserved
loop-parent-preserved c = rw c.in_ok-push.ensures.items (IsTracing-more c.loop-parent.invariant c.loop-parent-test.true)

pub returns : goal.returns
returns c = rw c.reverse.ensures.items (IsTraced-whole c.loop-parent.invariant c.loop-parent-test.false)
