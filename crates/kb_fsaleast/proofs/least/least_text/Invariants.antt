use Rattle.std.proofs.Common.{◌-◌, length}
use Rattle.kb_fsaleast.specs.Classes.{IsUnderWay}
use Rattle.kb_fsaleast.proofs.least.least_text.Given as goal

-- so many classes are followed
abbrev pub invariant-loop-followed : goal.invariant-loop-followed
invariant-loop-followed l = IsUnderWay l.nfa l.classes l.followed

-- there are no more classes than states
abbrev pub decreases-loop-followed : goal.decreases-loop-followed
decreases-loop-followed l = length l.nfa.rows - l.followed
