use Rattle.kb_overlap.proofs.Indexing.{sorted_overlaps}
use Rattle.kb_overlap.proofs.left_sides.LeftSides.overlaps.Goals as goal

pub returns : goal.returns
returns c =
    let found = c.in_ok-add_overlaps.ensures in
    rw (← c.self.view_is, ← c.letters.ensures.letters)
    (sorted_overlaps c.self.inside.rules.now c.self.inside.sides.items c.letters.result.now c.add_overlaps.new.found.items
    c.sort_unstable.new.self.items c.self.invariant (rw c.deref.ensures.value at found) c.sort_unstable.ensures.permutation
    c.sort_unstable.ensures.sorted)
