use Rattle.std.proofs.Common.{◌≡◌}
use Rattle.kb_fsamin.specs.Partitions.{AreRelabelled}
use Rattle.kb_fsamin.proofs.partition.Partition.relabel.Given as goal

abbrev pub invariant-loop-place : goal.invariant-loop-place
invariant-loop-place l = record {
  others : l.self ≡ record l.initial.self { of = l.self.of };
  relabelled : AreRelabelled l.initial.self.places.items l.fn.range.first l.part l.place l.initial.self.of.items l.self.of.items;
}
