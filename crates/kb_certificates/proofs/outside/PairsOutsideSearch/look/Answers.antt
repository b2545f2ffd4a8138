use Rattle.std.proofs.Common.{◌≡◌, ◌+◌, ℕ, ap, ◌∙◌, arith}
use Rattle.kb_fsa.specs.Language.{generators}
use Rattle.kb_certificates.proofs.Loops.{own_generators, own_pairs}
use Rattle.kb_certificates.proofs.OutsidePairs.{least_outside, none_outside}
use Rattle.kb_certificates.proofs.outside.PairsOutsideSearch.look.Goals as goal

pub least_led_pair-requires : goal.least_led_pair-requires
least_led_pair-requires c =
    let automata = c.args.self.now.automata in
    own_pairs automata.acceptor.now automata.multipliers.now automata.fit (c.args.place + 1) c.at-x.result.1.now c.at-x.ensures.multiplier

pub returns-in-Some-clause-found : goal.returns-in-Some-clause-found
returns-in-Some-clause-found c order relations =
    let automata = c.args.self.now.automata in
    let acceptor = automata.acceptor.now in let multipliers = automata.multipliers.now in
    let multiplier = c.at-x.result.1.now in let at = c.at-x.ensures.multiplier in
    let x : ℕ = c.args.place + 1 in
    let n : ℕ = c.generators-n.result in
    let is_n : n ≡ generators multiplier.alphabet = c.generators-n.ensures ∙ ap generators c.alphabet.ensures.alphabet
    ∙ own_generators acceptor multipliers automata.fit x multiplier at in
    let all = automata.fit.one_each in let low = c.requires in record {
      number = c.at-x.ensures.number;
      least = least_outside order relations acceptor multipliers automata.fit c.alphabet.ensures.automaton x multiplier at n is_n
          (omega arith, omega (arith, all, low)) c.in-Some.first c.in-Some.second (rw c.in-Some.is at c.in_ok-first.ensures.found);
    }

pub returns-in-None-clause-none : goal.returns-in-None-clause-none
returns-in-None-clause-none c order relations =
    let automata = c.args.self.now.automata in
    let acceptor = automata.acceptor.now in let multipliers = automata.multipliers.now in
    let multiplier = c.at-x.result.1.now in let at = c.at-x.ensures.multiplier in
    let x : ℕ = c.args.place + 1 in
    let n : ℕ = c.generators-n.result in
    let is_n : n ≡ generators multiplier.alphabet = c.generators-n.ensures ∙ ap generators c.alphabet.ensures.alphabet
    ∙ own_generators acceptor multipliers automata.fit x multiplier at in
    none_outside order relations acceptor multipliers automata.fit c.alphabet.ensures.automaton x multiplier at n is_n
    (rw c.in-None.is at c.in_ok-first.ensures.none)
