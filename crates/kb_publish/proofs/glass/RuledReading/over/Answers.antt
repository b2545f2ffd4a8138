use Rattle.std.proofs.Common.{◌≡◌, false, sym, ap, ◌∙◌, rules}
use Rattle.left_right.specs.Sides.{view}
use Rattle.kb_publish.specs.declared.versions.Shown.{Shown}
use Rattle.kb_publish.proofs.Entering.{unshown_before}
use Rattle.kb_publish.proofs.Lists.{empty_without_last}
use Rattle.kb_publish.proofs.glass.RuledReading.over.Goals as goal

pub returns-clause-refuses : goal.returns-clause-refuses
returns-clause-refuses g c =
    let shown = c.args.place.part.value in
    let unbegun : shown.begun ≡ false = sym (ap (λ (x : Shown g.row.V.Denot). x.begun) c.get.ensures) ∙ c.if-get.false in
    let nothing = empty_without_last (view c.args.place.place).seen (c.requires ∙ unshown_before g.V.Absorb.state shown unbegun) in
    let left = c.leave.ensures.1 in
    let window = c.refusing.ensures.0 in
    (nothing, search rules, c.refusing.ensures.1)
