use Rattle.std.proofs.Common.{sym, subst}
use Rattle.kb_word.specs.Presentations.{parts_of}
use Rattle.kb_word.specs.declared.presentation.Presentation.{Presentation}
use Rattle.kb_bylog.specs.LogLines.{IsJustifiedBy}
use Rattle.kb_cmd_structures.specs.ByLog.{HoldsLogBeside, at_logged_automata}
use Rattle.kb_cmd_structures.proofs.logged.load_all.Goals as goal

pub returns-in-Ok-clause-holds : goal.returns-in-Ok-clause-holds
returns-in-Ok-clause-holds g c = λ told held.
    let Logs : Presentation → Type 0 = λ p. HoldsLogBeside (g.F.Shelf.state c.args.shelf.now).holds c.args.file.now p c.args.log in
    (c.in-Ok.ensures.holds told held.group, subst Logs (sym c.in-Ok.ensures.same) held.log_is)

pub returns-in-Ok-clause-ready : goal.returns-in-Ok-clause-ready
returns-in-Ok-clause-ready g c =
    let By : Presentation → Type 0 = λ p. IsJustifiedBy (parts_of p) c.args.log in
    record { over = c.in-Ok.ensures.over; justified = subst By (sym c.in-Ok.ensures.same) c.requires.justified; few = c.requires.few }

pub returns-in-Err-clause-ends : goal.returns-in-Err-clause-ends
returns-in-Err-clause-ends g c = λ told held. at_logged_automata held c.requires.justified (c.in-Err.ensures.ends told)
