use Rattle.std.proofs.Common.{◌-◌, length}
use Rattle.kb_share.proofs.finding.Finder.meet.Given as goal
use Rattle.kb_share.specs.Finding.{KnowsLines}

abbrev pub invariant-loop-line : goal.invariant-loop-line
invariant-loop-line l = KnowsLines l.self l.lines l.live

abbrev pub decreases-loop-line : goal.decreases-loop-line
decreases-loop-line l = length l.lines - l.self.met
