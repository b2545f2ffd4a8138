use Rattle.kb_fsamin.specs.Partitions.{AreCounts}
use Rattle.kb_fsamin.proofs.partition.counts_of.Given as goal

abbrev pub invariant-loop-part : goal.invariant-loop-part
invariant-loop-part l = AreCounts l.of l.part-index l.count l.counts.items
