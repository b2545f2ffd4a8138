use Rattle.kb_checks.proofs.batches.can_be_followed.Goals as goal

pub returns : goal.returns
returns g c = λ yes.
    c.automata_without_certificates_can_be_followed.ensures c.args.acceptor.now c.args.multipliers.now c.requires
    (rw c.in-Given.is at c.in_ok-check_images.ensures).0
    ((rw c.in-None.is at c.in_ok-prefix_not_accepted.ensures.none) c.args.multipliers.now)
    (rw c.in-None-2.is at c.in_ok-pair_outside_acceptor.ensures.none)
    (rw c.in-None-3.is at c.in_ok-two_images.ensures.none)
