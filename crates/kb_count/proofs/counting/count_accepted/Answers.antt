use Rattle.kb_count.proofs.Listings.{count-same}
use Rattle.kb_count.proofs.counting.count_accepted.Goals as goal

pub returns : goal.returns
returns c =
    let same = c.in_ok-least.ensures.language in
    count-same c.in_ok-count_canonical.field-0 (λ text. (same text).1) (λ text. (same text).0) c.in_ok-count_canonical.ensures
