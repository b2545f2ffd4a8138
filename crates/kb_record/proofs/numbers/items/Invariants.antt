use Rattle.std.proofs.Common.{◌≡◌, ◌++◌, length, map}
use Rattle.kb_record.specs.Reading.{remaining, whole_of}
use Rattle.kb_record.proofs.NumberLists.{with_commas}
use Rattle.kb_record.proofs.numbers.items.Given as goal

abbrev pub invariant-loop-item : goal.invariant-loop-item
invariant-loop-item g l =
    (remaining l.fn.tokens ≡ with_commas (map g.T.Item.seen l.items.items) ++ remaining l.tokens) × (whole_of l.tokens ≡ whole_of l.fn.tokens)

abbrev pub decreases-loop-item : goal.decreases-loop-item
decreases-loop-item g l = length (remaining l.tokens)
