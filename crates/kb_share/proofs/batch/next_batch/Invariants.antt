use Rattle.std.specs.List.{All}
use Rattle.kb_share.specs.Passes.{IsApart}
use Rattle.kb_share.proofs.batch.next_batch.Given as goal

abbrev pub invariant-loop-one : goal.invariant-loop-one
invariant-loop-one g l = All (IsApart l.version) l.batch.items

abbrev pub decreases-loop-one : goal.decreases-loop-one
decreases-loop-one g l = l.waiting
