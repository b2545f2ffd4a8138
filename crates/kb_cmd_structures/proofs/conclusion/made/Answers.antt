use Rattle.std.proofs.Common.{◌≡◌, ◌∙◌, sym, ap, subst}
use Rattle.kb_word.specs.Presentations.{parts_of}
use Rattle.kb_word.specs.declared.presentation.Presentation.{Presentation}
use Rattle.kb_reduce.specs.Leading.{LeadToLeastWords}
use Rattle.kb_task.specs.Stores.{texts_of}
use Rattle.kb_cmd_structures.specs.Given.{AutgroupGiven}
use Rattle.kb_cmd_structures.proofs.MadeStructures.{are_made, leads}
use Rattle.kb_cmd_structures.proofs.conclusion.made.Goals as goal

pub new-least_words-requires : goal.new-least_words-requires
new-least_words-requires c =
    let same : c.in_ok-reader.reader.presentation ≡ c.args.presentation = c.in_ok-reader.ensures in
    let Lead : Presentation → Type 0 = λ p. LeadToLeastWords p c.args.structure.acceptor c.args.structure.multipliers.items in
    subst Lead (sym same) (leads c.requires.own c.requires.shortlex)

pub returns : goal.returns
returns c =
    let given : AutgroupGiven = c.args.task.now in
    let same : c.in_ok-reader.reader.presentation ≡ c.args.presentation = c.in_ok-reader.ensures in
    let file : c.task.inside.file ≡ given.file = ap (λ (it : AutgroupGiven). it.file) c.task.view_is in (
      are_made c.requires.own given.file c.task.inside.file file (texts_of c.in_ok-files.files.items) c.in_ok-files.ensures.acceptor
          c.in_ok-files.ensures.multipliers c.in_ok-files.ensures.files,
      c.new-least_words.ensures ∙ ap parts_of same,
    )
