use Rattle.std.proofs.Common.{◌≡◌, ℕ, sym, ap, ◌∙◌}
use Rattle.kb_fsa.specs.declared.alphabet.Alphabet.TheVariants.{Pair}
use Rattle.kb_fsa.specs.Language.{generators}
use Rattle.kb_certificates.proofs.LaterPairs.{automaton_reads, first_words_later, found_alike, none_alike}
use Rattle.kb_certificates.proofs.later_pairs.least_later_first.Goals as goal

pub invariant_of-machine-2 : goal.invariant_of-machine-2
invariant_of-machine-2 c =
    let pairs = c.args.pairs.now in
    let n : ℕ = c.generators-n.result in
    let is_n : n ≡ generators pairs.alphabet = c.generators-n.ensures ∙ ap generators c.alphabet.ensures.alphabet in
    record { reads = automaton_reads pairs n is_n c.requires c.alphabet.ensures.automaton }

pub returns-in-Ok-clause-found : goal.returns-in-Ok-clause-found
returns-in-Ok-clause-found c =
    let pairs = c.args.pairs.now in
    let n : ℕ = c.generators-n.result in
    let is_n : n ≡ generators pairs.alphabet = c.generators-n.ensures ∙ ap generators c.alphabet.ensures.alphabet in
    let nfa = c.in-Ok.explored.nfa in
    let reads : nfa.alphabet ≡ pairs.alphabet = c.in-Ok.ensures.explored.alphabet ∙ ap (λ k. Pair k) is_n ∙ sym c.requires in
    found_alike c.least_first.result
    (first_words_later pairs n is_n c.alphabet.ensures.automaton.table nfa reads c.in-Ok.ensures.language) c.least_first.ensures.found

pub returns-in-Ok-clause-none : goal.returns-in-Ok-clause-none
returns-in-Ok-clause-none c =
    let pairs = c.args.pairs.now in
    let n : ℕ = c.generators-n.result in
    let is_n : n ≡ generators pairs.alphabet = c.generators-n.ensures ∙ ap generators c.alphabet.ensures.alphabet in
    let nfa = c.in-Ok.explored.nfa in
    let reads : nfa.alphabet ≡ pairs.alphabet = c.in-Ok.ensures.explored.alphabet ∙ ap (λ k. Pair k) is_n ∙ sym c.requires in
    none_alike c.least_first.result
    (first_words_later pairs n is_n c.alphabet.ensures.automaton.table nfa reads c.in-Ok.ensures.language) c.least_first.ensures.none
