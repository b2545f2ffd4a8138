use Rattle.kb_round.proofs.Elements.{relations}
use Rattle.kb_round.proofs.Certificates.{complete_group, refuted_lacks_image}
use Rattle.kb_round.proofs.laws.rounds_by_reduced_systems_lack_images.Goals as goal

pub returns : goal.returns
returns c presentation rules words limit cert keeps refuted =
    let complete = c.reduced_complete_systems_are_complete.ensures.complete presentation.order (relations presentation) rules keeps.reduced in
    let least = c.reduced_complete_systems_are_complete.ensures.irreducible presentation.order (relations presentation) rules in
    refuted_lacks_image presentation rules words limit keeps
    (complete_group keeps complete (λ w. least w keeps.reduced)) cert refuted
