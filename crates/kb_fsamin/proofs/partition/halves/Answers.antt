use Rattle.kb_fsamin.specs.Partitions.AreHalves.{others_first, marked_first}
use Rattle.kb_fsamin.proofs.partition.halves.Goals as goal

pub returns-then-others-first : goal.returns-then-others-first
returns-then-others-first c = others_first

pub returns-else-others-first : goal.returns-else-others-first
returns-else-others-first c = marked_first
