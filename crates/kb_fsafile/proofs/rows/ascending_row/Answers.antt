use Rattle.std.proofs.Common.{ℤ, List, pos, ◌<◌, length, get_or, refl, subst, arith}
use Rattle.std.proofs.lemmas.List.{take_all, get_or_default}
use Rattle.std.proofs.lemmas.Option.{slice_get-get_or}
use Rattle.kb_fsafile.specs.declared.error.FsaError.TheVariants as errors
use Rattle.kb_fsafile.proofs.RowFaults.{sparse_outside}
use Rattle.kb_fsafile.specs.RowsRead.{AreAscendingEntries}
use Rattle.kb_fsafile.proofs.RowLemmas.{ascending_more, ascending_row_is}
use Rattle.kb_fsafile.proofs.rows.ascending_row.Goals as goal

pub returns-in_default-clause-fault : goal.returns-in_default-clause-fault
returns-in_default-clause-fault c =
    let pairs = c.args.pairs.now in
    let pair = get_or pairs c.loop-pair.pair-index (pos 0, pos 0) in
    let within : c.loop-pair.pair-index < length c.args.pairs.now = omega arith in
    let k = c.loop-pair.pair-index in
    sparse_outside c.args.size c.args.count pairs _ refl k c.loop-pair.invariant.entries c.loop-pair.invariant.are pair.0 pair.1 errors.TargetOutOfRange refl
    (slice_get-get_or pairs k (pos 0, pos 0) within) c.in_default.ensures.none

pub loop-pair-preserved : goal.loop-pair-preserved
loop-pair-preserved c =
    let pairs = c.args.pairs.now in
    let k = c.loop-pair.pair-index in
    let pair = get_or pairs k (pos 0, pos 0) in
    let within : c.loop-pair.pair-index < length c.args.pairs.now = omega arith in
    ascending_more c.args.size c.args.count c.loop-pair.last pairs k pair c.loop-pair.moves.items c.keep.new.moves.items c.in-Some.symbol c.in-Some.target within
    (get_or_default pairs k (pos 0, pos 0) pair within) c.loop-pair.invariant c.in-Some.ensures.is c.in-Some.ensures.symbol c.in-Some.ensures.target
    c.if-symbol-last.false c.in_ok-keep.ensures

pub returns-clause-read : goal.returns-clause-read
returns-clause-read c =
    let Q : List (ℤ × ℤ) → Type 0 = λ ps. AreAscendingEntries c.args.size c.args.count c.loop-pair.last ps c.loop-pair.moves.items in
    let whole = subst Q (take_all c.loop-pair.pair-index c.args.pairs.now c.loop-pair-test.false) c.loop-pair.invariant in
    ascending_row_is c.args.size c.args.count c.loop-pair.last c.args.pairs.now c.loop-pair.moves.items whole
