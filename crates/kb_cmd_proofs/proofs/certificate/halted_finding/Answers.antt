use Rattle.std.proofs.Common.{◌≡◌, ap}
use Rattle.kb_word.specs.Presentations.{PresentationParts, parts_of}
use Rattle.kb_evidence.proofs.ShownLemmas.{shown-halted}
use Rattle.kb_cmd_proofs.specs.Given.{KbcertifyGiven}
use Rattle.kb_cmd_proofs.proofs.CertifyLemmas.{found-limited}
use Rattle.kb_cmd_proofs.proofs.certificate.halted_finding.Goals as goal

pub returns : goal.returns
returns c =
    let given : KbcertifyGiven = c.args.task.now in
    let parts : PresentationParts = parts_of c.args.presentation.now in
    let file : c.task.inside.file ≡ given.file = ap (λ (it : KbcertifyGiven). it.file) c.task.view_is in
    let shown = c.args.shown in
    found-limited given parts c.limited.result c.limited.ensures
    (shown-halted given.limits given.file parts c.task.inside.file file c.in_ok-evidence.evidence shown.lines.items shown.waiting
    shown.rules.rules shown.reached c.requires.1 c.in_ok-evidence.ensures)
