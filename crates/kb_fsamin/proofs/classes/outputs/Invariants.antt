use Rattle.kb_fsamin.specs.Firsts.{output_at}
use Rattle.kb_fsamin.specs.Splitting.{AreNumbered}
use Rattle.kb_fsamin.proofs.classes.outputs.Given as goal

-- the outputs of the states that are passed are numbered
abbrev pub invariant-loop-place : goal.invariant-loop-place
invariant-loop-place l = AreNumbered (output_at l.table l.labels) l.place l.seen.keys l.numbers.items
