use Rattle.std.proofs.Common.{◌≡◌, ◌++◌, length, map}
use Rattle.kb_record.specs.Reading.{remaining, whole_of}
use Rattle.kb_record.specs.Numbers.{list_place}
use Rattle.kb_record.proofs.NumberLists.{with_commas}
use Rattle.kb_record.proofs.numbers.lists.Given as goal

abbrev pub invariant-loop-alloc : goal.invariant-loop-alloc
invariant-loop-alloc g l =
    (remaining l.fn.tokens ≡ with_commas (map (list_place g.T.Item.seen) l.lists) ++ remaining l.tokens) × (whole_of l.tokens ≡ whole_of l.fn.tokens)

abbrev pub decreases-loop-alloc : goal.decreases-loop-alloc
decreases-loop-alloc g l = length (remaining l.tokens)
