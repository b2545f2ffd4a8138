use Rattle.std.proofs.Common.{◌≡◌, take}
use Rattle.kb_round.specs.Figures.{largest_of}
use Rattle.kb_round.proofs.making.largest.Given as goal

-- so many states the largest of the automata before this one has
abbrev pub invariant-loop-fsa : goal.invariant-loop-fsa
invariant-loop-fsa l = l.most ≡ largest_of (take l.fsa-index l.automata)
