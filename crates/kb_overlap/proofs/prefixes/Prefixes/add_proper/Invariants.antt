use Rattle.std.proofs.Common.{◌-◌, length}
use Rattle.kb_overlap.proofs.Sweeping.{Sweeping}
use Rattle.kb_overlap.proofs.prefixes.Prefixes.add_proper.Given as goal

-- the overlaps at the levels so far were added
abbrev pub invariant-loop-left : goal.invariant-loop-left
invariant-loop-left l =
    Sweeping l.self.rules.now l.self.automaton.now.words l.index l.count l.level.items l.fn.found.items l.found.items

abbrev pub decreases-loop-left : goal.decreases-loop-left
decreases-loop-left l = length l.self.automaton.now.words - l.count
