use Rattle.std.proofs.Common.{◌≡◌, List, Option, length}
use Rattle.kb_draw.specs.Shares.{AreWithin, IsAmong}
use Rattle.kb_draw.specs.Slots.{IsFilled}
use Rattle.kb_draw.proofs.slots.fill.Given as goal

-- what fills the slots with those that are left fills them with all from the beginning
abbrev pub invariant-loop-one : goal.invariant-loop-one
invariant-loop-one g l = (length l.slots.items ≡ length l.initial.slots.items) × AreWithin (length l.initial.slots.items) l.all.items
    × ((after : List (Option _)) → IsFilled (IsAmong l.all.items) l.slots.items after
    → IsFilled (IsAmong l.initial.all.items) l.initial.slots.items after)

abbrev pub decreases-loop-one : goal.decreases-loop-one
decreases-loop-one g l = length l.all.items
