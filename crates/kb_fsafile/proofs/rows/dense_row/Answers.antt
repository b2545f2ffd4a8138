use Rattle.std.proofs.Common.{ℤ, pos, ◌+◌, ◌<◌, List, length, get_or, refl, ap, subst, w64, SFits, rules, arith}
use Rattle.std.proofs.lemmas.Int.{to_z-of_z}
use Rattle.std.proofs.lemmas.List.{take_all, get_or_default}
use Rattle.std.proofs.lemmas.Option.{slice_get-get_or}
use Rattle.kb_fsafile.specs.RowsRead.{AreRowTargets}
use Rattle.kb_fsafile.specs.declared.error.FsaError.TheVariants as errors
use Rattle.kb_fsafile.proofs.RowFaults.{dense_outside}
use Rattle.kb_fsafile.proofs.RowLemmas.{targets_more}
use Rattle.kb_fsafile.proofs.rows.dense_row.Goals as goal

pub returns-in_default-clause-fault : goal.returns-in_default-clause-fault
returns-in_default-clause-fault c =
    let numbers = c.args.numbers.now in
    let fits : SFits w64 (get_or c.args.numbers.now c.loop-number.number-index (pos 0)) = search rules in
    let none = rw c.from.ensures at (simp to_z-of_z at c.in_default.ensures.none) in
    let within : c.loop-number.number-index < length c.args.numbers.now = omega arith in
    let k = c.loop-number.number-index in
    let are = c.loop-number.invariant.are in
    dense_outside c.args.size c.args.count numbers _ refl c.requires k are.targets (get_or numbers k (pos 0)) errors.TargetOutOfRange refl are.same are.within
    (slice_get-get_or numbers k (pos 0) within) none

pub loop-number-preserved : goal.loop-number-preserved
loop-number-preserved c =
    let numbers = c.args.numbers.now in
    let z = get_or numbers c.loop-number.number-index (pos 0) in
    let fits : SFits w64 (get_or c.args.numbers.now c.loop-number.number-index (pos 0)) = search rules in
    let is = simp to_z-of_z at c.in-Some.ensures.is in
    let within : c.loop-number.number-index < length c.args.numbers.now = omega arith in record {
      same = ap (λ n. n + 1) c.loop-number.invariant.same;
      are = targets_more c.args.count numbers c.loop-number.number-index z c.loop-number.moves.items c.keep.new.moves.items (c.loop-number.symbol + 1) c.in-Some.target within
          (get_or_default numbers c.loop-number.number-index (pos 0) z within) c.loop-number.invariant.are (ap (λ n. n + 1) c.loop-number.invariant.same) is
          (rw c.from.ensures at c.in-Some.ensures.within) c.in_ok-keep.ensures;
    }

pub returns-clause-read : goal.returns-clause-read
returns-clause-read c =
    let Q : List ℤ → Type 0 = λ ns. AreRowTargets c.args.count ns c.loop-number.moves.items in
    subst Q (take_all c.loop-number.number-index c.args.numbers.now c.loop-number-test.false) c.loop-number.invariant.are
