use Rattle.std.proofs.Common.{arith}
use Rattle.kb_draw.specs.Totals.{total}
use Rattle.kb_draw.specs.Seats.{numbers_of}
use Rattle.kb_draw.proofs.Sums.{total-popped}
use Rattle.kb_draw.proofs.draw.Draw.gathered.Goals as goal

pub returns-clause-numbers : goal.returns-clause-numbers
returns-clause-numbers c = λ weight.
    let rest = c.with_all.ensures.numbers weight in
    let all = total-popped (λ seat. total weight (numbers_of seat)) _ _ c.in-Some.last c.in-Some.ensures.items in
    omega (arith, rest, all)
