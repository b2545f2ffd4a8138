use Rattle.std.proofs.Common.{add-one, ap, arith, get_or, length, subst, sym, ◌∙◌, ◌+◌, ◌<◌, ◌≡◌, ◌≤◌, ℕ, suc}
use Rattle.std.proofs.lemmas.List.{get_or_read}
use Rattle.kb_count.specs.Counts.{AreSoMany, IsAcceptedOfLength}
use Rattle.kb_count.specs.Totals.{AreNumbersOfLength}
use Rattle.kb_count.proofs.Settling.{pushed-count, pushed-right}
use Rattle.kb_count.proofs.lengths.counts_over.Goals as goal

pub index-requires-in-loop : goal.index-requires-in-loop
index-requires-in-loop c =
    let table = c.table-table.result.now in
    let longer = c.in_ok-numbers-2.ensures c.loop.counter
    (subst (AreNumbersOfLength table c.loop.counter) (sym c.as_slice.ensures.value) c.loop.invariant.numbers) in
    let rows : length table.rows ≡ length c.args.fsa.now.table.rows = ap (λ t. length t.rows) c.table-table.ensures.table in
    omega (
      arith,
      longer.one_each,
      c.in_ok-numbers-2.numbers.ok,
      c.table-table.ensures.automaton.table.initial,
      c.initial-first.ensures,
    )

pub loop-preserved : goal.loop-preserved
loop-preserved c =
    let table = c.table-table.result.now in
    let first = c.initial-first.result in
    let counter = c.loop.counter in
    let numbers = c.in_ok-numbers-2.numbers.items in
    let before = c.loop.counts.items in
    let pushed = c.push-in-loop.new.self.items in
    let number = c.in_ok-copy-2.field-0 in
    let rows : length table.rows ≡ length c.args.fsa.now.table.rows = ap (λ t. length t.rows) c.table-table.ensures.table in
    let longer : AreNumbersOfLength table (suc counter) numbers = c.in_ok-numbers-2.ensures counter
    (subst (AreNumbersOfLength table counter) (sym c.as_slice.ensures.value) c.loop.invariant.numbers) in
    let within : first ≤ length table.rows = omega (arith, c.table-table.ensures.automaton.table.initial, c.initial-first.ensures) in
    let read : c.index-in-loop.result.now ≡ get_or numbers first 0 =
    get_or_read numbers first c.index-in-loop.result.now (omega (arith, longer.one_each)) c.index-in-loop.ensures 0 in
    let is : number ≡ get_or numbers first 0 = c.in_ok-copy-2.ensures ∙ read in
    let here : AreSoMany (IsAcceptedOfLength table (counter + 1) first) number =
    subst (λ long. AreSoMany (IsAcceptedOfLength table long first) number) (sym (add-one counter))
    (subst (AreSoMany (IsAcceptedOfLength table (suc counter) first)) (sym is) (longer.right first within)) in
    record {
      count = pushed-count before pushed (counter + 1) number c.loop.invariant.count c.in_ok-push-2.ensures.items;
      numbers = subst (λ long. AreNumbersOfLength table long numbers) (sym (add-one counter)) longer;
      right = λ long below.
          pushed-right (λ (k : ℕ) (n : ℕ). AreSoMany (IsAcceptedOfLength table k first) n) before pushed (counter + 1) number
          c.loop.invariant.count c.in_ok-push-2.ensures.items
          (λ k less. c.loop.invariant.right k (let at_most : k ≤ counter = omega arith in at_most)) here long
          (let less : long < counter + 1 + 1 = omega arith in less);
    }
