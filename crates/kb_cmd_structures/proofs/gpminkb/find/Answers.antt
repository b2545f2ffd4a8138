use Rattle.std.proofs.Common.{sym, subst}
use Rattle.kb_task.specs.Statuses.{IsYes}
use Rattle.kb_cmd_structures.specs.Gpminkb.{not_own}
use Rattle.kb_cmd_structures.proofs.FoundLemmas.{found_own}
use Rattle.kb_cmd_structures.proofs.RunLemmas.{other-no_yes}
use Rattle.kb_cmd_structures.proofs.gpminkb.find.Goals as goal

pub system_finding-requires-clause-passes : goal.system_finding-requires-clause-passes
system_finding-requires-clause-passes g c =
    let own = found_own c.in_ok-finding.ensures (subst IsYes (sym c.in-Yes.is) tt) in own.0

pub system_finding-requires-clause-own : goal.system_finding-requires-clause-own
system_finding-requires-clause-own g c =
    let own = found_own c.in_ok-finding.ensures (subst IsYes (sym c.in-Yes.is) tt) in own.1

pub returns-in_default : goal.returns-in_default
returns-in_default g c = not_own c.in_ok-finding.ensures (other-no_yes c.in_ok-finding.finding.status c.in_default.not-Yes)
