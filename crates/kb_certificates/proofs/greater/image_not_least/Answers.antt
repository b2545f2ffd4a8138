use Rattle.std.proofs.Common.{List, length, arith}
use Rattle.kb_word.specs.Words.{Pair as Sides}
use Rattle.kb_word.specs.declared.word_order.WordOrder.TheVariants.{ShortLex}
use Rattle.kb_structure.specs.StructureOf.{structure_of}
use Rattle.kb_structure.specs.Certificates.{ImageNotLeast}
use Rattle.kb_certificates.specs.First.{HasNoPair, IsFirstPair}
use Rattle.kb_certificates.proofs.Loops.{first_pair, no_pair_up_to, found_as, none_as}
use Rattle.kb_certificates.proofs.greater.image_not_least.Goals as goal

pub returns-clause-found : goal.returns-clause-found
returns-clause-found g c =
    let acceptor = c.args.acceptor.now in let multipliers = c.args.multipliers.now in
    found_as {Q = λ certificate.
    (relations : List Sides) → IsFirstPair (ImageNotLeast (structure_of ShortLex relations acceptor multipliers)) certificate.0 certificate.1 certificate.2}
    c.first_found.result c.first_found.ensures.found (λ certificate found relations.
    first_pair (ImageNotLeast (structure_of ShortLex relations acceptor multipliers)) (λ x u v one. one.generator.0) found.place
    certificate.0 certificate.1 certificate.2
    (λ place low. found.earlier place low relations) (found.has relations))

pub returns-clause-none : goal.returns-clause-none
returns-clause-none g c =
    let acceptor = c.args.acceptor.now in let multipliers = c.args.multipliers.now in
    none_as {Q =
    (relations : List Sides) → HasNoPair (ImageNotLeast (structure_of ShortLex relations acceptor multipliers))}
    c.first_found.result c.first_found.ensures.none (λ each relations x u v certificate.
    let all = c.requires.fit.one_each in let top = certificate.generator.1 in
    no_pair_up_to (ImageNotLeast (structure_of ShortLex relations acceptor multipliers)) (λ y a b one. one.generator.0) (length multipliers)
    (λ place low. each place low relations) x u v (omega (arith, top, all)) certificate)
