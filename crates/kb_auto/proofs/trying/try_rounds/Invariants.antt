use Rattle.std.specs.Prelude.{◌-◌, length}
use Rattle.kb_system.specs.Problems.{limits_of}
use Rattle.kb_auto.specs.Autgroup.{tried_by}
use Rattle.kb_auto.specs.Trials.{Gathers}
use Rattle.kb_auto.proofs.trying.try_rounds.Given as goal

-- the differences are those of the rules and of the failed rounds so far
abbrev pub invariant-rounds : goal.invariant-rounds
invariant-rounds g l = Gathers (tried_by (limits_of l.limits) l.limits.diffs l.presentation l.rules.rules) l.gathered

-- how many more may be kept
abbrev pub decreases-rounds : goal.decreases-rounds
decreases-rounds g l = l.limits.diffs - length l.gathered.differences.words
