use Rattle.std.proofs.Common.{length, arith}
use Rattle.kb_structure.specs.StructureOf.{OfAutomata, structure_of}
use Rattle.kb_structure.specs.Certificates.{MissingExtension}
use Rattle.kb_certificates.specs.First.{HasNone, IsFirstWord}
use Rattle.kb_certificates.proofs.Loops.{first_word, none_up_to, found_as, none_as}
use Rattle.kb_certificates.proofs.extension.missing_extension.Goals as goal

pub returns-clause-found : goal.returns-clause-found
returns-clause-found g c =
    let acceptor = c.args.acceptor.now in let multipliers = c.args.multipliers.now in
    found_as {Q = λ certificate.
    OfAutomata acceptor multipliers (λ structure. IsFirstWord (MissingExtension structure) certificate.0 certificate.1)}
    c.first_found.result c.first_found.ensures.found (λ certificate found order relations.
    first_word (MissingExtension (structure_of order relations acceptor multipliers)) (λ x u one. one.generator.0) found.place
    certificate.0 certificate.1
    (λ place low. found.earlier place low order relations) (found.has order relations))

pub returns-clause-none : goal.returns-clause-none
returns-clause-none g c =
    let acceptor = c.args.acceptor.now in let multipliers = c.args.multipliers.now in
    none_as {Q =
    OfAutomata acceptor multipliers (λ structure. HasNone (MissingExtension structure))}
    c.first_found.result c.first_found.ensures.none (λ each order relations x u certificate.
    let all = c.requires.fit.one_each in let top = certificate.generator.1 in
    none_up_to (MissingExtension (structure_of order relations acceptor multipliers)) (λ y a one. one.generator.0) (length multipliers)
    (λ place low. each place low order relations) x u (omega (arith, top, all)) certificate)
