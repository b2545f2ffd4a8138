use Rattle.std.proofs.Common.{◌≡◌, List, Option, length}
use Rattle.std.specs.List.{All}
use Rattle.kb_draw.specs.Shares.{AreWithin, IsMadeBy}
use Rattle.kb_draw.specs.Slots.{IsFilled}
use Rattle.kb_draw.proofs.slots.fill_all.Given as goal

-- what fills the slots with the shares that are left fills them with all from the beginning
abbrev pub invariant-loop-share : goal.invariant-loop-share
invariant-loop-share g l = (length l.slots.items ≡ length l.initial.slots.items)
    × All (λ share. AreWithin (length l.initial.slots.items) share.made.items) l.shares.items
    × ((after : List (Option _)) → IsFilled (IsMadeBy l.shares.items) l.slots.items after
    → IsFilled (IsMadeBy l.initial.shares.items) l.initial.slots.items after)

abbrev pub decreases-loop-share : goal.decreases-loop-share
decreases-loop-share g l = length l.shares.items
