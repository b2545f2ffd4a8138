use Rattle.kb_certificates.proofs.TwoImages.{least_two_words, no_two}
use Rattle.kb_certificates.proofs.two.least_two.Goals as goal

pub returns-in_default-clause-none : goal.returns-in_default-clause-none
returns-in_default-clause-none c = no_two c.args.pairs.now (rw c.in_default.is at c.in_ok-word.ensures.none)

pub returns-in-Some-3-clause-found : goal.returns-in-Some-3-clause-found
returns-in-Some-3-clause-found c =
    least_two_words c.args.pairs.now c.in-Some.word (rw c.in-Some.is at c.in_ok-word.ensures.found)
    c.in-Some-2.image (rw c.in-Some-2.is at c.in_ok-image.ensures.found)
    c.in-Some-3.other (rw c.in-Some-3.is at c.in_ok-other.ensures.found)
