use Rattle.kb_relations.specs.Progress.{AreFollowedTo}
use Rattle.kb_relations.proofs.following.follow.Given as goal

abbrev pub invariant-loop-letter : goal.invariant-loop-letter
invariant-loop-letter l = AreFollowedTo l.acceptor l.multipliers l.letters l.fn.from l.letter-index l.end
