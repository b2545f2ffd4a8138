use Rattle.std.proofs.Common.{◌≡◌, ◌+◌, length}
use Rattle.kb_threads.specs.Shared.{entered_by}
use Rattle.kb_threads.proofs.shared.gathered.Given as goal

abbrev pub invariant-loop-pass : goal.invariant-loop-pass
invariant-loop-pass g l = (l.all.parts + length l.passes.items ≡ length l.fn.passes.items)
    × (l.all.amount + entered_by l.passes.items ≡ entered_by l.fn.passes.items)

abbrev pub decreases-loop-pass : goal.decreases-loop-pass
decreases-loop-pass g l = goal.left-loop-pass g l
