use Rattle.std.proofs.Common.{arith}
use Rattle.kb_draw.proofs.Sums.{total-popped}
use Rattle.kb_threads.specs.Shared.{PassParts}
use Rattle.kb_threads.proofs.shared.gathered.Goals as goal

pub loop-pass-init : goal.loop-pass-init
loop-pass-init g c =
    let fewer = c.in-Some.ensures.len in
    let own = c.into_share-all.ensures in
    let sum = total-popped (λ (pass : PassParts). pass.entered) c.args.passes.items c.pop.new.self.items c.in-Some.last
    c.in-Some.ensures.items in
    (omega (arith, fewer, own.0), omega (arith, sum, own.1))

pub loop-pass-preserved : goal.loop-pass-preserved
loop-pass-preserved g c =
    let before = c.loop-pass.invariant in
    let parts_before = before.0 in
    let amount_before = before.1 in
    let fewer = c.in-Some-pop.ensures.len in
    let own = c.into_share.ensures in
    let merged = c.merge.ensures in
    let sum = total-popped (λ (pass : PassParts). pass.entered) c.loop-pass.passes.items
    c.pop-in-loop-pass.new.self.items c.in-Some-pop.pass c.in-Some-pop.ensures.items in (
      omega (arith, parts_before, fewer, own.0, merged.parts),
      omega (arith, amount_before, sum, own.1, merged.amount),
    )
