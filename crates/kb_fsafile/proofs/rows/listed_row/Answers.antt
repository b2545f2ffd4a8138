use Rattle.std.proofs.Common.{◌∙◌}
use Rattle.std.proofs.lemmas.Option.{same_Some}
use Rattle.kb_fsafile.specs.declared.format.Format.TheVariants.{Dense}
use Rattle.kb_fsafile.proofs.RowFaults.{other_row_kind}
use Rattle.kb_fsafile.proofs.rows.listed_row.Goals as goal

pub returns-in_default-clause-fault : goal.returns-in_default-clause-fault
returns-in_default-clause-fault c =
    let other = rw c.in_default.is at c.in_ok-numbers.ensures.other in
    other_row_kind Dense c.args.size c.args.count _ _ c.no_row.ensures (λ value is kind. other kind.0 (same_Some _ _ is ∙ kind.1))
