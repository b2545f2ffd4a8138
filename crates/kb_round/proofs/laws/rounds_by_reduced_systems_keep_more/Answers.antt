use Rattle.kb_round.proofs.Elements.{relations}
use Rattle.kb_round.proofs.Certificates.{complete_group, lacking_difference, lacking_irreducible}
use Rattle.kb_round.proofs.laws.rounds_by_reduced_systems_keep_more.Goals as goal

pub returns-clause-first : goal.returns-clause-first
returns-clause-first c presentation rules words limit x u keeps refuted =
    let complete = c.reduced_complete_systems_are_complete.ensures.complete presentation.order (relations presentation) rules keeps.reduced in
    let least = c.reduced_complete_systems_are_complete.ensures.irreducible presentation.order (relations presentation) rules in
    lacking_irreducible presentation rules words limit keeps
    (complete_group keeps complete (λ w. least w keeps.reduced)) x u refuted

pub returns-clause-more : goal.returns-clause-more
returns-clause-more c presentation rules words limit x u v keeps refuted normal =
    let complete = c.reduced_complete_systems_are_complete.ensures.complete presentation.order (relations presentation) rules keeps.reduced in
    let least = c.reduced_complete_systems_are_complete.ensures.irreducible presentation.order (relations presentation) rules in
    lacking_difference presentation rules words limit keeps
    (complete_group keeps complete (λ w. least w keeps.reduced)) x u refuted v normal
