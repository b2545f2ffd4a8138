use Rattle.kb_index.proofs.Sides.{have_lefts}
use Rattle.kb_index.proofs.index.IndexReducer.copy.Goals as goal

pub of-requires : goal.of-requires
of-requires c = have_lefts _ _ c.as_slice.result.now c.as_slice.ensures.decreasing c.as_slice.ensures.rules
