use Rattle.std.proofs.Common.{map, ◌+◌}
use Rattle.kb_fsamin.specs.Rounds.{IsRound, sight_of}
use Rattle.kb_fsamin.proofs.rounds.round.Given as goal

-- the states up to the row's have new classes
abbrev pub invariant-loop-place : goal.invariant-loop-place
invariant-loop-place l = IsRound l.table l.classes (l.place + 1) (map sight_of l.signatures.keys) l.next.items
