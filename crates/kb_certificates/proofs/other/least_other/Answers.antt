use Rattle.std.proofs.Common.{◌≡◌, ℕ, List, ap, ◌∙◌}
use Rattle.kb_fsa.specs.Language.{generators}
use Rattle.kb_leastpair.specs.LeastPair.{IsLeastWord}
use Rattle.kb_certificates.specs.First.{IsOther}
use Rattle.kb_certificates.specs.Followers.{other_second}
use Rattle.kb_certificates.proofs.LedWords.{product_pair}
use Rattle.kb_certificates.proofs.Loops.{found_as, none_as}
use Rattle.kb_certificates.proofs.OtherWords.{least_other_word, no_other_word}
use Rattle.kb_certificates.proofs.other.least_other.Goals as goal

pub returns-clause-found : goal.returns-clause-found
returns-clause-found c =
    let pairs = c.args.pairs.now in
    let n : ℕ = c.generators-n.result in
    let is_n : n ≡ generators pairs.alphabet = c.generators-n.ensures ∙ ap generators c.alphabet.ensures.alphabet in
    let others = c.in_ok-others.others in
    let of = c.in_ok-others.ensures in
    found_as {Q = IsLeastWord (IsOther pairs c.args.first.now c.args.second.now)} c.least_second.result c.least_second.ensures.found
    (least_other_word pairs n is_n c.args.second.now others
    (product_pair pairs others (other_second n pairs.table c.args.second.now) of.alphabet of.language) c.args.first.now)

pub returns-clause-none : goal.returns-clause-none
returns-clause-none c =
    let pairs = c.args.pairs.now in
    let n : ℕ = c.generators-n.result in
    let is_n : n ≡ generators pairs.alphabet = c.generators-n.ensures ∙ ap generators c.alphabet.ensures.alphabet in
    let others = c.in_ok-others.others in
    let of = c.in_ok-others.ensures in
    none_as {Q = (other : List ℕ) → ¬ IsOther pairs c.args.first.now c.args.second.now other} c.least_second.result c.least_second.ensures.none
    (no_other_word pairs n is_n c.args.second.now others
    (product_pair pairs others (other_second n pairs.table c.args.second.now) of.alphabet of.language) c.args.first.now)
