use Rattle.std.proofs.Common.{◌≡◌, map, take}
use Rattle.kb_labelled.specs.Labels.{listed_for}
use Rattle.kb_fsamin.proofs.reduction.labels_of.Given as goal

-- the labels of the states that are passed
abbrev pub invariant-loop-state : goal.invariant-loop-state
invariant-loop-state l = l.own.items ≡ map (listed_for l.labels) (take l.state-index l.states)
