use Rattle.std.proofs.Common.{◌≡◌, Bool, true, drop, ap, ◌∙◌}
use Rattle.left_right.specs.Sides.{view}
use Rattle.kb_publish.specs.Entries.{stage}
use Rattle.kb_publish.proofs.Entering.{has_begun, applies_all}
use Rattle.kb_publish.proofs.Steps.{publishes}
use Rattle.kb_publish.proofs.publisher.show.Goals as goal

pub publish_in_place-requires : goal.publish_in_place-requires
publish_in_place-requires g c next is =
    let press = c.args.press.now in
    let entries = drop press.behind press.log.items in
    let begins = has_begun g.V.Absorb.applied g.V.Absorb.state (view press.desk.place) press.desk.shown.value entries c.requires in
    let begun : next.begun ≡ true = ap (λ (p : Bool × g.row.V-State.Denot). p.0) is ∙ begins in
    publishes g.V.Absorb.state _ _ _ next entries c.requires begun

pub returns-clause-shown : goal.returns-clause-shown
returns-clause-shown g c =
    let press = c.args.press.now in
    let entries = drop press.behind press.log.items in
    let is = c.in_ok-publish_in_place.ensures.shown in
    let begins = has_begun g.V.Absorb.applied g.V.Absorb.state (view press.desk.place) press.desk.shown.value entries c.requires in
    let applies = applies_all g.V.Absorb.applied (stage g.V.Absorb.state press.desk.shown.value) entries in
    (ap (λ (p : Bool × g.row.V-State.Denot). p.0) is ∙ begins, ap (λ (p : Bool × g.row.V-State.Denot). p.1) is ∙ applies)
