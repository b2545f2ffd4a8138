use Rattle.std.proofs.Common.{◌≡◌, ap}
use Rattle.kb_word.specs.Presentations.{PresentationParts, parts_of}
use Rattle.kb_evidence.proofs.ShownLemmas.{shown-too_large}
use Rattle.kb_cmd_proofs.specs.Given.{KbcertifyGiven}
use Rattle.kb_cmd_proofs.proofs.CertifyLemmas.{found-limited}
use Rattle.kb_cmd_proofs.proofs.certificate.too_large_finding.Goals as goal

pub returns : goal.returns
returns c =
    let given : KbcertifyGiven = c.args.task.now in
    let parts : PresentationParts = parts_of c.args.presentation.now in
    let file : c.task.inside.file ≡ given.file = ap (λ (it : KbcertifyGiven). it.file) c.task.view_is in
    found-limited given parts c.limited.result c.limited.ensures
    (shown-too_large given.limits given.file parts c.task.inside.file file c.in_ok-evidence.evidence c.args.lines.items
    c.args.rules.now.rules c.requires c.in_ok-evidence.ensures)
