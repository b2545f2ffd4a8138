use Rattle.std.proofs.Common.{refl, arith}
use Rattle.atomic_table.specs.Table.{keeps}
use Rattle.kb_publish.proofs.notes.add.Goals as goal

pub compare_exchange_with-requires : goal.compare_exchange_with-requires
compare_exchange_with-requires g c =
    let one_word = c.book.invariant.1 in
    (c.book.invariant.0, omega (arith, one_word), (λ s rule deep at small. (_, keeps, tt, tt, refl)))
