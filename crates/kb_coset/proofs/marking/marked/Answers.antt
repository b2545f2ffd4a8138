use Rattle.std.proofs.Common.{◌∙◌}
use Rattle.kb_word.specs.Presentations.{parts_of}
use Rattle.kb_coset.proofs.MarkedPresentation.{made_presentation, made_marks}
use Rattle.kb_coset.proofs.marking.marked.Goals as goal

pub new-requires : goal.new-requires
new-requires c =
    let old = c.args.presentation.now in
    made_presentation old.n c.args.generators.now (parts_of old) old.is_presentation c.requires.letters
    c.in_ok-order.order c.in_ok-names.names c.in_ok-inv.inv c.in_ok-eqs.eqs
    c.in_ok-order.ensures c.in_ok-names.ensures c.in_ok-inv.ensures c.in_ok-eqs.ensures

pub returns-clause-cosets : goal.returns-clause-cosets
returns-clause-cosets c =
    let old = c.args.presentation.now in
    let new = c.new.result in
    made_marks old.n c.args.generators.now (parts_of old) old.is_presentation c.requires.letters
    new.order new.names new.inv new.eqs
    (c.new.ensures.order ∙ c.in_ok-order.ensures) (c.new.ensures.names ∙ c.in_ok-names.ensures)
    (c.new.ensures.inv ∙ c.in_ok-inv.ensures) (c.new.ensures.eqs ∙ c.in_ok-eqs.ensures)
