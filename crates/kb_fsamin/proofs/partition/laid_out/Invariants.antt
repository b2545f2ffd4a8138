use Rattle.std.proofs.Common.{◌≡◌, take, sum}
use Rattle.kb_fsamin.specs.Partitions.{AreRanges}
use Rattle.kb_fsamin.proofs.partition.laid_out.Given as goal

abbrev pub invariant-loop-count : goal.invariant-loop-count
invariant-loop-count l = record {
  first : l.first ≡ sum (take l.count-index l.counts);
  ranges : AreRanges l.counts l.count-index l.parts.items;
}
