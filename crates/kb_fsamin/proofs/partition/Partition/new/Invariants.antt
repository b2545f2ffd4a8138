use Rattle.std.proofs.Common.{map}
use Rattle.kb_fsamin.specs.Partitions.{AreFilled, plain}
use Rattle.kb_fsamin.proofs.partition.Partition.new.Given as goal

abbrev pub invariant-loop-item : goal.invariant-loop-item
invariant-loop-item l = AreFilled l.fn.of.items l.counts.items l.item l.elements.items l.places.items (map plain l.parts.items)
