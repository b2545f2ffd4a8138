use Rattle.std.proofs.Common.{List, subst}
use Rattle.kb_word.specs.Words.{Pair}
use Rattle.kb_overlap.specs.Composite.{ArePrimeOverlaps}
use Rattle.kb_overlap.proofs.Sticking.{all_prime, sorted_primes}
use Rattle.kb_overlap.proofs.prime.PrimeOverlaps.of_rule.Goals as goal

pub returns : goal.returns
returns c =
    let rules : List Pair = c.self.inside.prefixes.rules.now in
    let found = c.add_proper.new.found.items in
    let sorted = c.sort_unstable.new.self.items in
    let primes = all_prime rules c.args.index c.clear.new.self.items c.add_contained.new.found.items found
    c.clear.ensures.items c.in_ok-add_contained.ensures c.in_ok-add_proper.ensures in
    let P : List Pair → Type 0 = λ of. ArePrimeOverlaps of c.args.index sorted in
    subst P c.self.view_is (sorted_primes rules c.args.index found sorted c.sort_unstable.ensures.permutation primes)
