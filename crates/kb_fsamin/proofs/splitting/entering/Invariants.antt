use Rattle.std.proofs.Common.{take}
use Rattle.kb_fsamin.specs.Splitting.{AreGathered, AreListing}
use Rattle.kb_fsamin.proofs.splitting.entering.Given as goal

abbrev pub invariant-loop-state : goal.invariant-loop-state
invariant-loop-state l = AreGathered l.edges (take l.state-index l.state-items) l.listed.items

abbrev pub invariant-loop-number : goal.invariant-loop-number
invariant-loop-number l = AreListing l.edges l.state-items l.state-index l.number l.listed.items

-- numbers fall
abbrev pub decreases-loop-number : goal.decreases-loop-number
decreases-loop-number l = l.number
