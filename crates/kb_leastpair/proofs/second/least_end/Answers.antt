use Rattle.std.proofs.Common.{◌≡◌, ◌^◌, ◌<◌, ℕ, List, drop, sym, ap, ◌∙◌, subst, arith}
use Rattle.std.specs.List.{All}
use Rattle.kb_fsa.specs.Language.{generators}
use Rattle.kb_leastpair.specs.LeastPair.{IsEnd, IsLeastWord}
use Rattle.kb_leastpair.proofs.Pairs.{least_end_word, no_end_word, second_fits}
use Rattle.kb_leastpair.proofs.second.least_end.Goals as goal

pub word_of-requires : goal.word_of-requires
word_of-requires c =
    let pairs = c.args.pairs.now in
    let n : ℕ = c.generators-n.result in
    let is_n : n ≡ generators pairs.alphabet = c.generators-n.ensures ∙ ap generators c.alphabet.ensures.alphabet in
    let few = c.alphabet.ensures.automaton.generators in
    let least = rw c.in-Ok-Some.field-0-is at c.in-Ok-Some.ensures.found in
    let P : List ℕ → Type 0 = λ word. All (λ letter. letter < 2 ^ 16) word in
    subst P (sym c.as_slice.ensures.value)
    (second_fits pairs n is_n c.args.first.now c.args.place c.args.state (omega arith) c.in-Ok-Some.text.items least.accepted)

pub returns-in_ok-word_of-in-Ok-Some-clause-found : goal.returns-in_ok-word_of-in-Ok-Some-clause-found
returns-in_ok-word_of-in-Ok-Some-clause-found c =
    let pairs = c.args.pairs.now in
    let n : ℕ = c.generators-n.result in
    let is_n : n ≡ generators pairs.alphabet = c.generators-n.ensures ∙ ap generators c.alphabet.ensures.alphabet in
    let least = rw c.in-Ok-Some.field-0-is at c.in-Ok-Some.ensures.found in
    let P : List ℕ → Type 0 = λ word. IsLeastWord (IsEnd pairs c.args.state (drop c.args.place c.args.first.now)) word in
    subst P (sym (c.in_ok-word_of-in-Ok-Some.ensures ∙ c.as_slice.ensures.value))
    (least_end_word pairs n is_n c.args.first.now c.args.place c.args.state c.in-Ok-Some.text.items least)

pub returns-in-Ok-None-clause-none : goal.returns-in-Ok-None-clause-none
returns-in-Ok-None-clause-none c =
    let pairs = c.args.pairs.now in
    let n : ℕ = c.generators-n.result in
    let is_n : n ≡ generators pairs.alphabet = c.generators-n.ensures ∙ ap generators c.alphabet.ensures.alphabet in
    no_end_word pairs n is_n c.args.first.now c.args.place c.args.state (rw c.in-Ok-None.field-0-is at c.in-Ok-None.ensures.none)
