use Rattle.std.proofs.Common.{◌≡◌, ℕ, List, sym, ap, subst}
use Rattle.kb_word.specs.Words.{Pair}
use Rattle.kb_word.specs.Presentations.{PresentationParts, parts_of}
use Rattle.kb_reduced.specs.Reduced.{IsReducedComplete}
use Rattle.kb_system.specs.Completed.{below, relations}
use Rattle.kb_task.specs.Stores.{Text, texts_of}
use Rattle.kb_cmd_completion.specs.Files.{completed_texts}
use Rattle.kb_cmd_completion.specs.Given.{KbprogGiven}
use Rattle.kb_cmd_completion.proofs.conclusion.completed.Goals as goal

pub returns : goal.returns
returns c =
    let given : KbprogGiven = c.args.task.now in
    let parts : PresentationParts = parts_of c.args.presentation in
    let rules = c.args.rules.now.rules in
    let acceptor = c.args.acceptor.now in
    let texts : List Text = texts_of c.in_ok-files.files.items in
    let file : c.task.inside.file ≡ given.file = ap (λ (it : KbprogGiven). it.file) c.task.view_is in
    let are : texts ≡ completed_texts given.file parts rules acceptor =
    subst (λ (name : List ℕ). texts ≡ completed_texts name parts rules acceptor) file c.in_ok-files.ensures in
    let Reduced : List Pair → Type 0 = λ r. IsReducedComplete (below parts) (relations parts) r in (
      record { rules = rules; acceptor = acceptor; completion = c.requires; are = are },
      ap parts_of c.in_ok-reader.ensures,
      subst Reduced (sym c.in_ok-index.ensures.rules) c.requires.completion.reduced,
    )
