use Rattle.std.proofs.Common.{◌≡◌, ◌+◌, length}
use Rattle.std.specs.List.{All}
use Rattle.kb_threads.specs.Shared.{AreNumbered}
use Rattle.kb_threads.proofs.shared.passes_of.Given as goal

abbrev pub invariant-loop-worker : goal.invariant-loop-worker
invariant-loop-worker g l = (l.rest.parts + l.worker ≡ l.workers) × (l.rest.amount ≡ 0)
    × (length l.passes.items ≡ l.worker) × All (λ pass. pass.entered ≡ 0) l.passes.items
    × AreNumbered l.passes.items
