use Rattle.std.proofs.Common.{◌≡◌, [], sym, ◌∙◌, subst}
use mathlib.Core.List.{IsPrefix}
use Rattle.std.proofs.lemmas.Result.{IfErr-weaker}
use Rattle.left_right.specs.Sides.{view}
use Rattle.kb_publish.specs.Versions.{counted}
use Rattle.kb_publish.specs.Readers.{seen_through}
use Rattle.kb_publish.proofs.Lists.{begins_nothing}
use Rattle.kb_publish.proofs.Steps.{looks}
use Rattle.kb_publish.proofs.glass.RuledGlass.look_from.Goals as goal

pub enter_as-requires : goal.enter_as-requires
enter_as-requires g c = looks g.V.Absorb.state _ _

pub returns-in-Ok-clause-refuses : goal.returns-in-Ok-clause-refuses
returns-in-Ok-clause-refuses g c =
    let begins = c.in-Ok.ensures.1.0 in
    IfErr-weaker _ _ _ (λ glass (refused : ((view c.in-Ok.taken.place).seen ≡ []) × (seen_through glass ≡ []) × (glass.refusals ≡ counted c.args.refusals)).
    let nothing = begins_nothing (view c.args.place.place).seen (subst (λ xs. IsPrefix (view c.args.place.place).seen xs) refused.0 begins) in
    (refused.1 ∙ sym nothing, refused.2)) c.over.ensures.refuses
