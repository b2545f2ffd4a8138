use Rattle.std.proofs.Common.{length}
use Rattle.kb_fsaleast.specs.Classes.{Partway}
use Rattle.kb_fsaleast.proofs.classes.follow.Given as goal

-- all moves but the rest are followed
abbrev pub invariant-loop-first : goal.invariant-loop-first
invariant-loop-first l = Partway l.nfa l.classes.members.items l.classes.origins.items l.classes.seen.items l.followed l.rest

abbrev pub decreases-loop-first : goal.decreases-loop-first
decreases-loop-first l = length l.rest
