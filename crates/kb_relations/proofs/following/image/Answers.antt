use Rattle.std.proofs.Common.{ℕ, ◌-◌, IfSome, IfNone, List, Option, arith, subst}
use Rattle.kb_leastpair.specs.LeastPair.{IsAccepted, IsLeastWord}
use Rattle.kb_relations.proofs.LeastImages.{multiplier_at, reads_pairs, first_over, has_image, is_image}
use Rattle.kb_relations.proofs.following.image.Goals as goal

pub least_second-requires-clause-alphabet : goal.least_second-requires-clause-alphabet
least_second-requires-clause-alphabet c =
    let acceptor = c.args.acceptor.now in let multipliers = c.args.multipliers.now in
    let one_each = c.requires.automata.fit.one_each in
    let at = multiplier_at multipliers (c.from.result - 1) c.args.letter c.index-multipliers-from.result (omega arith) (omega arith) c.index-multipliers-from.is in
    reads_pairs acceptor multipliers c.requires.automata c.alphabet.ensures.automaton c.args.letter c.requires.letter c.index-multipliers-from.result at

pub least_second-requires-clause-first : goal.least_second-requires-clause-first
least_second-requires-clause-first c =
    let acceptor = c.args.acceptor.now in let multipliers = c.args.multipliers.now in
    let one_each = c.requires.automata.fit.one_each in
    let at = multiplier_at multipliers (c.from.result - 1) c.args.letter c.index-multipliers-from.result (omega arith) (omega arith) c.index-multipliers-from.is in
    first_over acceptor multipliers c.requires.automata c.alphabet.ensures.automaton c.args.letter c.requires.letter c.index-multipliers-from.result at
    c.args.word.now c.requires.word

pub unreachable-requires : goal.unreachable-requires
unreachable-requires c =
    let acceptor = c.args.acceptor.now in let multipliers = c.args.multipliers.now in
    let one_each = c.requires.automata.fit.one_each in
    let multiplier = c.index-multipliers-from.result in
    let at = multiplier_at multipliers (c.from.result - 1) c.args.letter multiplier (omega arith) (omega arith) c.index-multipliers-from.is in
    let P : Option (List ℕ) → Type 0 = λ found. IfNone found ((second : List ℕ) → ¬ IsAccepted multiplier c.args.word.now second) in
    has_image acceptor multipliers c.requires.automata c.alphabet.ensures.automaton c.args.letter c.requires.letter multiplier at
    c.args.word.now c.requires.word (subst P c.in-None.is c.in_ok-image.ensures.none)

pub returns : goal.returns
returns c =
    let acceptor = c.args.acceptor.now in let multipliers = c.args.multipliers.now in
    let one_each = c.requires.automata.fit.one_each in
    let multiplier = c.index-multipliers-from.result in
    let at = multiplier_at multipliers (c.from.result - 1) c.args.letter multiplier (omega arith) (omega arith) c.index-multipliers-from.is in
    let P : Option (List ℕ) → Type 0 = λ found. IfSome found (IsLeastWord (IsAccepted multiplier c.args.word.now)) in
    is_image acceptor multipliers c.requires.automata c.alphabet.ensures.automaton c.args.letter c.requires.letter multiplier at
    c.args.word.now c.in-Some.image (subst P c.in-Some.is c.in_ok-image.ensures.found)
