use Rattle.std.proofs.Common.{◌≡◌, ap}
use Rattle.kb_word.specs.Presentations.{PresentationParts, parts_of}
use Rattle.kb_task.specs.Stores.{text_of, texts_of}
use Rattle.kb_cmd_proofs.specs.Given.{KbcertifyGiven}
use Rattle.kb_cmd_proofs.proofs.CertifyLemmas.{found-completed}
use Rattle.kb_cmd_proofs.proofs.certificate.completed.Goals as goal

pub automaton_file-requires : goal.automaton_file-requires
automaton_file-requires c = c.requires.completion.completion.acceptor

pub returns : goal.returns
returns c =
    let given : KbcertifyGiven = c.args.task.now in
    let parts : PresentationParts = parts_of c.args.presentation.now in
    let file : c.task.inside.file ≡ given.file = ap (λ (it : KbcertifyGiven). it.file) c.task.view_is in
    found-completed given parts c.task.inside.file file c.args.lines.items c.args.rules.now.rules c.args.acceptor.now
    c.requires.certificate c.requires.completion (texts_of c.in_ok-files.files.items) (text_of c.in_ok-automaton.automaton)
    c.in_ok-line.line.items c.in_ok-files.ensures c.in_ok-automaton.ensures c.in_ok-line.ensures.items
