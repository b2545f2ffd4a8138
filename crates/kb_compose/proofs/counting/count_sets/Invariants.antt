use Rattle.std.proofs.Common.{◌≤◌, length, take}
use Rattle.kb_compose.specs.Progress.{AreSetsOf}
use Rattle.kb_compose.proofs.counting.count_sets.Given as goal

abbrev pub invariant-loop-place : goal.invariant-loop-place
invariant-loop-place l =
    record { are_sets : AreSetsOf (take l.place-index l.places) l.sets.keys; few : length l.sets.keys ≤ l.limit }
