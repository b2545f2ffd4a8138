use Rattle.std.proofs.Common.{subst, sym, ap, ◌∙◌, ◌≡◌, ◌≤◌, false, get_or, length, arith}
use Rattle.kb_count.specs.Totals.{AreStuckAbove}
use Rattle.kb_count.proofs.Endless.{endless}
use Rattle.kb_count.proofs.counting.count_canonical.Goals as goal

pub returns : goal.returns
returns c =
    let table = c.args.fsa.now.table in
    let settled = c.in_ok-totals.totals.settled.items in
    let is_table = c.table.ensures.automaton.table in
    let stuck = subst (λ t. AreStuckAbove 0 t settled) c.table.ensures.table c.in_ok-totals.ensures.stuck in
    let unsettled : get_or settled table.initial false ≡ false =
    ap (λ state. get_or settled state false) (sym c.initial.ensures) ∙ c.in-None.ensures.none in
    let one = c.requires.initial in
    let within : table.initial ≤ length table.rows = is_table.initial in
    endless table is_table settled stuck c.requires.trim one
    (record { positive = omega (arith, one); within = within; unsettled = unsettled })
