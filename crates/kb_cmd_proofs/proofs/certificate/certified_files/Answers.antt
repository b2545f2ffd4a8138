use Rattle.std.proofs.Common.{◌∙◌, List, [], ◌∷◌, ◌++◌, ap}
use Rattle.std.proofs.lemmas.List.{map-append}
use Rattle.kb_task.specs.Stores.{Text, text_of, texts_of}
use Rattle.kb_task.specs.declared.storing.TextFile.{TextFile}
use Rattle.kb_cmd_proofs.proofs.certificate.certified_files.Goals as goal

pub returns : goal.returns
returns c =
    let files : List TextFile = c.in_ok-files.files.items in
    let last : TextFile = c.args.last in
    ap (λ (all : List TextFile). texts_of all) c.in_ok-push.ensures.items
    ∙ (map-append text_of files (last ∷ []) ∙ ap (λ (texts : List Text). texts ++ text_of last ∷ []) c.in_ok-files.ensures)
