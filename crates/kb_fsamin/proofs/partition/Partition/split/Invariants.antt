use Rattle.std.proofs.Common.{length, take}
use Rattle.kb_fsamin.specs.Partitions.{AreMarked, AreDivided, AreLed}
use Rattle.kb_fsamin.proofs.partition.Partition.split.Given as goal

abbrev pub invariant-loop-item : goal.invariant-loop-item
invariant-loop-item l = record {
  marked : AreMarked (take l.item-index l.items) l.fn.self l.self;
  led : AreLed l.items l.item-index l.self;
}

abbrev pub invariant-loop-item-2 : goal.invariant-loop-item-2
invariant-loop-item-2 l = record {
  divided : AreDivided l.items (take l.item-index l.items) l.fn.self l.self;
  led : AreLed l.items (length l.items) l.self;
}
