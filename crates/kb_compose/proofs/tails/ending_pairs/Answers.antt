use Rattle.std.proofs.Common.{ℕ, Bool, List, length, sym, subst}
use Rattle.kb_compose.specs.Progress.{AreEndingBelow}
use Rattle.kb_compose.specs.Tails.{AreEnding}
use Rattle.kb_compose.proofs.Endings.{ending_marked}
use Rattle.kb_compose.proofs.tails.ending_pairs.Goals as goal

pub returns : goal.returns
returns c =
    let n = c.args.symbols.n in
    let first = c.args.first.now in
    let second = c.args.second.now in
    let pairs = c.as_slice-pairs.result.now in
    let table = c.in_ok-table.table in
    let explored = c.in_ok-table.ensures in
    let marks = c.in_ok-marks.marks.items in
    let ending = c.in_ok-ending.ending.items in
    let P : List Bool → Type 0 = λ m. AreEndingBelow table m pairs (length pairs) ending in
    let below = subst P c.as_slice.ensures.value c.in_ok-ending.ensures in
    let are = ending_marked n first second pairs c.requires.first c.requires.second table explored.0 explored.1.0 explored.1.1 marks ending
    c.in_ok-marks.ensures.live below in
    let Q : List ℕ → Type 0 = λ l. AreEnding n first second l c.of.result in
    let R : List ℕ → Type 0 = λ e. AreEnding n first second pairs e in
    subst Q c.as_slice-pairs.ensures.pairs (subst R (sym c.of.ensures) are)
