use Rattle.std.proofs.Common.{ap, ◌≡◌, subst, ℕ, ◌+◌, arith}
use Rattle.kb_diff.specs.Kept.{KeptDifferences}
use Rattle.kb_diff.specs.Tables.{AddsRows}
use Rattle.kb_diff.proofs.Entries.{rows_none, rows_more}
use Rattle.kb_diff.proofs.differences.Differences.add_rows.Goals as goal

pub loop-first-init : goal.loop-first-init
loop-first-init g c = rows_none c.args.self.now.group c.args.self.now.words c.args.difference.now c.args.table.now.items

pub loop-first-preserved : goal.loop-first-preserved
loop-first-preserved g c =
    let now = c.args.self.now in
    rows_more now.group now.words c.args.difference.now c.loop-first.first c.read_first.new.scratch.front c.args.table.now.items c.loop-first.table.items
    c.add_targets.new.table.items c.loop-first.invariant c.in_ok-read_first.ensures c.in_ok-add_targets.ensures

pub returns : goal.returns
returns g c =
    let now = c.args.self.now in
    let same : c.self.inside.presentation.n ≡ now.group.n = ap (λ (kept : KeptDifferences). kept.group.n) c.self.view_is in
    let count : c.loop-first.first ≡ now.group.n + 1 =
    omega (arith, c.loop-first.auto.first-end, c.loop-first-test.false, c.from-first-end.ensures, same) in
    let P : ℕ → Type 0 = λ k. AddsRows now.group now.words c.args.difference.now k c.args.table.now.items c.loop-first.table.items in
    subst P count c.loop-first.invariant
