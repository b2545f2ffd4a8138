use Rattle.std.proofs.Common.{◌+◌, ◌-◌, ◌^◌, ℕ, List}
use Rattle.kb_fsamin.specs.Splitting.{ArePaired, KeepsSplitting}
use Rattle.kb_fsamin.proofs.splitting.refine.Given as goal

abbrev pub invariant-loop-block : goal.invariant-loop-block
invariant-loop-block l = record {
  paired : ArePaired l.edges l.start l.blocks l.cords;
  keeps : (symbols : List ℕ) → KeepsSplitting l.edges symbols l.start l.initial.blocks l.initial.cords l.blocks l.cords;
}

-- the parts that may still come
abbrev pub decreases-loop-block : goal.decreases-loop-block
decreases-loop-block l = (2 ^ 32 - l.block) + (2 ^ 32 - l.cord)
