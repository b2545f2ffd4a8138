use Rattle.std.proofs.Common.{refl}
use Rattle.kb_count.proofs.Listings.{many-same}
use Rattle.kb_count.proofs.lengths.counts_by_length.Goals as goal

pub returns-clause-right : goal.returns-clause-right
returns-clause-right c = λ long within.
    let same = c.in_ok-least.ensures.language in
    many-same refl
    (λ text accepted. record { accepts = (same text).1 accepted.accepts; so_long = accepted.so_long })
    (λ text accepted. record { accepts = (same text).0 accepted.accepts; so_long = accepted.so_long })
    (c.in_ok-counts_over.ensures.right long within)
