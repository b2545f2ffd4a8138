use Rattle.std.proofs.Common.{arith}
use Rattle.kb_confluence.proofs.RowVerdicts.{named_here, names_first, still_joined}
use Rattle.kb_confluence.proofs.rows.RowsWork.take.Goals as goal

pub returns-in_default-clause-sound : goal.returns-in_default-clause-sound
returns-in_default-clause-sound g c = names_first c.args.self.now.rules.now c.args.row c.in_ok-no.no c.in_ok-no.ensures

pub returns-in_default-clause-done : goal.returns-in_default-clause-done
returns-in_default-clause-done g c = λ low.
    let here = named_here c.args.self.now.rules.now c.args.row c.in_ok-no.no c.in_ok-no.ensures c.in_default.not-Yes in
    absurd (omega (arith, low, here))

pub returns-in_default-clause-earlier : goal.returns-in_default-clause-earlier
returns-in_default-clause-earlier g c = λ other joined low.
    let early = c.if-named_row-row.false in let named = c.named_row.ensures in
    still_joined c.args.self.now.rules.now c.args.row c.args.share.now.verdict c.in_ok-no.no (omega (arith, early, named))
    (named_here c.args.self.now.rules.now c.args.row c.in_ok-no.no c.in_ok-no.ensures c.in_default.not-Yes) other joined low
