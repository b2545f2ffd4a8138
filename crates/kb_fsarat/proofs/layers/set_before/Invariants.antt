use Rattle.std.proofs.Common.{◌≡◌, take}
use Rattle.kb_fsarat.specs.Layers.{targets_of_each}
use Rattle.kb_fsarat.proofs.layers.set_before.Given as goal

-- where the moves of the members so far lead
abbrev pub invariant-loop-member : goal.invariant-loop-member
invariant-loop-member l = l.sources.items ≡ targets_of_each l.turned (take l.member-index l.member-items)
