use Rattle.std.proofs.Common.{ap, ◌∙◌, ◌+◌, ℕ, suc}
use Rattle.kb_count.specs.Counts.{AreSoMany, IsAcceptedOfLength}
use Rattle.kb_count.specs.Totals.{sum_along}
use Rattle.kb_count.proofs.Settling.{longer-number, pushed-count, pushed-right}
use Rattle.kb_count.proofs.lengths.numbers_of_longer.Goals as goal

pub loop-state-preserved : goal.loop-state-preserved
loop-state-preserved c =
    let table = c.args.table.now in
    let state = c.loop-state.state in
    let before = c.loop-state.longer.items in
    let pushed = c.push.new.self.items in
    let total = c.in_ok-sum_along.field-0 in
    record {
      count = pushed-count before pushed state total c.loop-state.invariant.count c.in_ok-push.ensures.items;
      right = λ long s numbers within.
          pushed-right (λ (t : ℕ) (n : ℕ). AreSoMany (IsAcceptedOfLength table (suc long) t) n) before pushed state total
          c.loop-state.invariant.count c.in_ok-push.ensures.items
          (λ t below. c.loop-state.invariant.right long t numbers below)
          (longer-number table c.args.numbers.now long state c.in_ok-none.none total c.rows.ensures.table numbers
          c.in_ok-none.ensures
          (c.in_ok-sum_along.ensures ∙ ap (λ row. c.in_ok-none.none + sum_along c.args.numbers.now row) c.row.ensures.moves))
          s within;
    }
