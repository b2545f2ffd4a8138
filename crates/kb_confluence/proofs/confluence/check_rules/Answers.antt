use Rattle.std.proofs.Common.{List, subst}
use Rattle.kb_word.specs.Words.{Pair}
use Rattle.kb_confluence.specs.Answers.{IsVerdict}
use Rattle.kb_confluence.proofs.RowVerdicts.{verdict_of_all}
use Rattle.kb_confluence.proofs.confluence.check_rules.Goals as goal

pub returns : goal.returns
returns g c =
    let rows = c.in_ok-rows.rows in
    let shares = c.in_ok-shares.ensures in
    subst (λ (rules : List Pair). IsVerdict rules c.earliest.result) c.in_ok-rows.ensures
    (verdict_of_all rows.rules.now c.in_ok-shares.shares.items c.earliest.result rows.few shares.sound shares.done c.earliest.ensures)
