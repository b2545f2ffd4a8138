use Rattle.kb_fsamin.specs.Splitting.{AreClassesOfBlocks}
use Rattle.kb_fsamin.proofs.splitting.classes_of_blocks.Given as goal

abbrev pub invariant-loop-state : goal.invariant-loop-state
invariant-loop-state l = AreClassesOfBlocks l.start l.blocks l.state l.classes.items
