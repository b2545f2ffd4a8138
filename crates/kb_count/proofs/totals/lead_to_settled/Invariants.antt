use Rattle.std.proofs.Common.{ℕ, ◌<◌, get_or}
use Rattle.kb_fsa.specs.Graphs.{IsMarked}
use Rattle.kb_count.proofs.totals.lead_to_settled.Given as goal

abbrev pub invariant-loop-target : goal.invariant-loop-target
invariant-loop-target l = (k : ℕ) → k < l.target-index → IsMarked l.settled (get_or l.row k (0, 0)).1
