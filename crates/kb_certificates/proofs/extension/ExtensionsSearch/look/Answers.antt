use Rattle.std.proofs.Common.{◌≡◌, ◌+◌, ℕ, List, Some, ap, ◌∙◌, subst, arith}
use Rattle.kb_fsa.specs.Language.{generators}
use Rattle.kb_leastpair.specs.LeastPair.{IsLeastWord}
use Rattle.kb_structure.specs.StructureOf.{multiplier_of, structure_of}
use Rattle.kb_structure.specs.Certificates.{MissingExtension}
use Rattle.kb_certificates.proofs.Extensions.{least_missing, none_missing}
use Rattle.kb_certificates.proofs.extension.ExtensionsSearch.look.Goals as goal

pub returns-in-Some-clause-found : goal.returns-in-Some-clause-found
returns-in-Some-clause-found c order relations =
    let automata = c.args.self.now.automata in
    let acceptor = automata.acceptor.now in let multipliers = automata.multipliers.now in
    let multiplier = c.at-x.result.1.now in
    let x : ℕ = c.from.result in
    let is_x : x ≡ c.args.place + 1 = c.from.ensures ∙ c.number.ensures ∙ c.at-x.ensures.number in
    let at : multiplier_of multipliers x ≡ Some multiplier = ap (multiplier_of multipliers) is_x ∙ c.at-x.ensures.multiplier in
    let n : ℕ = c.generators-n.result in
    let is_n : n ≡ generators acceptor.alphabet = c.generators-n.ensures ∙ ap generators c.alphabet.ensures.alphabet in
    let all = automata.fit.one_each in let low = c.requires in
    let Certificate = MissingExtension (structure_of order relations acceptor multipliers) in
    let least = least_missing order relations acceptor multipliers automata.fit c.alphabet.ensures.automaton x multiplier at n is_n
    (omega (arith, is_x), omega (arith, is_x, all, low)) c.in-Some.word (rw c.in-Some.is at c.in_ok-word.ensures.found) in
    let P : ℕ → Type 0 = λ y. IsLeastWord (Certificate y) c.in-Some.word in
    record { number = c.at-x.ensures.number; least = subst P is_x least }

pub returns-in-None-clause-none : goal.returns-in-None-clause-none
returns-in-None-clause-none c order relations =
    let automata = c.args.self.now.automata in
    let acceptor = automata.acceptor.now in let multipliers = automata.multipliers.now in
    let multiplier = c.at-x.result.1.now in
    let x : ℕ = c.from.result in
    let is_x : x ≡ c.args.place + 1 = c.from.ensures ∙ c.number.ensures ∙ c.at-x.ensures.number in
    let at : multiplier_of multipliers x ≡ Some multiplier = ap (multiplier_of multipliers) is_x ∙ c.at-x.ensures.multiplier in
    let n : ℕ = c.generators-n.result in
    let is_n : n ≡ generators acceptor.alphabet = c.generators-n.ensures ∙ ap generators c.alphabet.ensures.alphabet in
    let Certificate = MissingExtension (structure_of order relations acceptor multipliers) in
    let none = none_missing order relations acceptor multipliers automata.fit c.alphabet.ensures.automaton x multiplier at n is_n
    (rw c.in-None.is at c.in_ok-word.ensures.none) in
    let P : ℕ → Type 0 = λ y. (u : List ℕ) → ¬ Certificate y u in
    subst P is_x none
