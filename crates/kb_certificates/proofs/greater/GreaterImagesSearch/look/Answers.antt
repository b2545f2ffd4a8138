use Rattle.std.proofs.Common.{◌≡◌, ◌+◌, ℕ, List, Some, ap, ◌∙◌, subst, arith}
use Rattle.kb_word.specs.declared.word_order.WordOrder.TheVariants.{ShortLex}
use Rattle.kb_fsa.specs.Language.{generators}
use Rattle.kb_leastpair.specs.LeastPair.{IsLeastPair}
use Rattle.kb_structure.specs.StructureOf.{multiplier_of, structure_of}
use Rattle.kb_structure.specs.Certificates.{ImageNotLeast}
use Rattle.kb_certificates.proofs.Loops.{own_generators, own_pairs}
use Rattle.kb_certificates.proofs.GreaterImages.{least_greater, none_greater}
use Rattle.kb_certificates.proofs.greater.GreaterImagesSearch.look.Goals as goal

pub least_led_pair-requires : goal.least_led_pair-requires
least_led_pair-requires c =
    let automata = c.args.self.now.automata in
    own_pairs automata.acceptor.now automata.multipliers.now automata.fit (c.args.place + 1) c.at-x.result.1.now c.at-x.ensures.multiplier

pub returns-in-Some-clause-found : goal.returns-in-Some-clause-found
returns-in-Some-clause-found c relations =
    let automata = c.args.self.now.automata in
    let acceptor = automata.acceptor.now in let multipliers = automata.multipliers.now in
    let multiplier = c.at-x.result.1.now in
    let x : ℕ = c.from.result in
    let is_x : x ≡ c.args.place + 1 = c.from.ensures ∙ c.number.ensures ∙ c.at-x.ensures.number in
    let at : multiplier_of multipliers x ≡ Some multiplier = ap (multiplier_of multipliers) is_x ∙ c.at-x.ensures.multiplier in
    let n : ℕ = c.generators-n.result in
    let is_n : n ≡ generators multiplier.alphabet = c.generators-n.ensures ∙ ap generators c.alphabet.ensures.alphabet
    ∙ own_generators acceptor multipliers automata.fit x multiplier at in
    let all = automata.fit.one_each in let low = c.requires in
    let Certificate = ImageNotLeast (structure_of ShortLex relations acceptor multipliers) in
    let least = least_greater relations acceptor multipliers automata.fit x multiplier at n is_n
    (omega (arith, is_x), omega (arith, is_x, all, low)) c.in-Some.first c.in-Some.second (rw c.in-Some.is at c.in_ok-first.ensures.found) in
    let P : ℕ → Type 0 = λ y. IsLeastPair (Certificate y) c.in-Some.first c.in-Some.second in
    record { number = c.at-x.ensures.number; least = subst P is_x least }

pub returns-in-None-clause-none : goal.returns-in-None-clause-none
returns-in-None-clause-none c relations =
    let automata = c.args.self.now.automata in
    let acceptor = automata.acceptor.now in let multipliers = automata.multipliers.now in
    let multiplier = c.at-x.result.1.now in
    let x : ℕ = c.from.result in
    let is_x : x ≡ c.args.place + 1 = c.from.ensures ∙ c.number.ensures ∙ c.at-x.ensures.number in
    let at : multiplier_of multipliers x ≡ Some multiplier = ap (multiplier_of multipliers) is_x ∙ c.at-x.ensures.multiplier in
    let n : ℕ = c.generators-n.result in
    let is_n : n ≡ generators multiplier.alphabet = c.generators-n.ensures ∙ ap generators c.alphabet.ensures.alphabet
    ∙ own_generators acceptor multipliers automata.fit x multiplier at in
    let Certificate = ImageNotLeast (structure_of ShortLex relations acceptor multipliers) in
    let none = none_greater relations acceptor multipliers automata.fit x multiplier at n is_n
    (rw c.in-None.is at c.in_ok-first.ensures.none) in
    let P : ℕ → Type 0 = λ y. (u v : List ℕ) → ¬ Certificate y u v in
    subst P is_x none
