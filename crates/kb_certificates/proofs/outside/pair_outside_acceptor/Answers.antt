use Rattle.std.proofs.Common.{length, arith}
use Rattle.kb_structure.specs.StructureOf.{OfAutomata, structure_of}
use Rattle.kb_structure.specs.Certificates.{PairOutsideAcceptor}
use Rattle.kb_certificates.specs.First.{HasNoPair, IsFirstPair}
use Rattle.kb_certificates.proofs.Loops.{first_pair, no_pair_up_to, found_as, none_as}
use Rattle.kb_certificates.proofs.outside.pair_outside_acceptor.Goals as goal

pub returns-clause-found : goal.returns-clause-found
returns-clause-found g c =
    let acceptor = c.args.acceptor.now in let multipliers = c.args.multipliers.now in
    found_as {Q = λ certificate.
    OfAutomata acceptor multipliers (λ structure. IsFirstPair (PairOutsideAcceptor structure) certificate.0 certificate.1 certificate.2)}
    c.first_found.result c.first_found.ensures.found (λ certificate found order relations.
    first_pair (PairOutsideAcceptor (structure_of order relations acceptor multipliers)) (λ x u v one. one.generator.0) found.place
    certificate.0 certificate.1 certificate.2
    (λ place low. found.earlier place low order relations) (found.has order relations))

pub returns-clause-none : goal.returns-clause-none
returns-clause-none g c =
    let acceptor = c.args.acceptor.now in let multipliers = c.args.multipliers.now in
    none_as {Q =
    OfAutomata acceptor multipliers (λ structure. HasNoPair (PairOutsideAcceptor structure))}
    c.first_found.result c.first_found.ensures.none (λ each order relations x u v certificate.
    let all = c.requires.fit.one_each in let top = certificate.generator.1 in
    no_pair_up_to (PairOutsideAcceptor (structure_of order relations acceptor multipliers)) (λ y a b one. one.generator.0) (length multipliers)
    (λ place low. each place low order relations) x u v (omega (arith, top, all)) certificate)
