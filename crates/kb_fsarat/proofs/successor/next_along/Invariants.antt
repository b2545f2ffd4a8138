use Rattle.std.proofs.Common.{take, drop}
use Rattle.kb_fsa.specs.Table.{state_after}
use Rattle.kb_fsarat.specs.Successors.{NoneLater}
use Rattle.kb_fsarat.proofs.successor.next_along.Given as goal

-- no later text goes on from this place
abbrev pub invariant-loop-place : goal.invariant-loop-place
invariant-loop-place l =
    NoneLater l.layers.table (state_after l.layers.table (take l.place l.word)) (drop l.place l.word)
