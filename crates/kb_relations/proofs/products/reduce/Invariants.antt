use Rattle.std.proofs.Common.{[]}
use Rattle.kb_relations.specs.Progress.{AreFollowedTo}
use Rattle.kb_relations.specs.Trails.{AreTrails}
use Rattle.kb_relations.proofs.products.reduce.Given as goal

-- the letters so far lead from the empty word to the one that is reached, and there are trails along it
abbrev pub invariant-loop-letter : goal.invariant-loop-letter
invariant-loop-letter l =
    AreFollowedTo l.acceptor l.multipliers l.fn.word [] l.letter-index l.reached
    × AreTrails l.multipliers l.reached l.trails.items
