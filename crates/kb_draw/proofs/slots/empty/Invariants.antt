use Rattle.std.proofs.Common.{◌-◌, ◌≤◌, length}
use Rattle.kb_draw.specs.Slots.{AreEmpty}
use Rattle.kb_draw.proofs.slots.empty.Given as goal

-- all slots so far are empty
abbrev pub invariant-loop-slots : goal.invariant-loop-slots
invariant-loop-slots g l = AreEmpty (length l.slots.items) l.slots.items × (length l.slots.items ≤ l.places)

abbrev pub decreases-loop-slots : goal.decreases-loop-slots
decreases-loop-slots g l = l.places - length l.slots.items
