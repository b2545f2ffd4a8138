use Rattle.std.proofs.Common.{refl, arith}
use Rattle.std.proofs.lemmas.Int.{ints, to_z-of_z}
use Rattle.kb_fsafile.proofs.NumberLemmas.{empty_range, whole_range}
use Rattle.kb_fsafile.proofs.accepting.range_within.Goals as goal

pub returns-then-from-to-clause-read : goal.returns-then-from-to-clause-read
returns-then-from-to-clause-read c =
    let f = c.ranges.from in let t = c.ranges.to in
    let above = simp to_z-of_z at c.if-from-to.true in
    empty_range c.args.count c.args.from c.args.to (λ z low high. grind (arith, ints))

pub returns-in_default-clause-fault : goal.returns-in_default-clause-fault
returns-in_default-clause-fault c =
    let f = c.ranges.from in let t = c.ranges.to in
    let none = simp to_z-of_z at c.in_default.ensures.none in
    let upto = simp to_z-of_z at c.if-from-to.false in
    (refl, c.args.from, (omega (arith, ints), grind (arith, ints)), none)

pub returns-in-None-clause-fault : goal.returns-in-None-clause-fault
returns-in-None-clause-fault c =
    let f = c.ranges.from in let t = c.ranges.to in
    let none = simp to_z-of_z at c.in-None.ensures.none in
    let upto = simp to_z-of_z at c.if-from-to.false in
    (refl, c.args.to, (grind (arith, ints), omega (arith, ints)), none)

pub returns-in-Some-number_within-clause-read : goal.returns-in-Some-number_within-clause-read
returns-in-Some-number_within-clause-read c =
    let f = c.ranges.from in let t = c.ranges.to in
    let first = simp to_z-of_z at c.in-Some.ensures.is in
    let last = simp to_z-of_z at c.in-Some-number_within.ensures.is in
    whole_range c.args.count c.in-Some.from c.in-Some-number_within.to c.args.from c.args.to first last c.in-Some.ensures.positive c.in-Some-number_within.ensures.within
