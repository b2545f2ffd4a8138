use Rattle.kb_index.proofs.Sides.{have_lefts}
use Rattle.kb_index.proofs.index.Index.settle.Goals as goal

pub with_room-requires : goal.with_room-requires
with_room-requires c = have_lefts _ _ c.as_slice.result.now c.as_slice.ensures.decreasing c.as_slice.ensures.rules
