use Rattle.std.proofs.Common.{◌^◌, ◌<◌, List, ℕ, sym, ◌∙◌, subst}
use Rattle.std.specs.List.{All}
use Rattle.kb_fsadet.specs.Projection.{HasSecond}
use Rattle.kb_leastpair.specs.LeastPair.{IsLeastWord}
use Rattle.kb_leastpair.proofs.Pairs.{first_fits, least_first_word, no_first_word}
use Rattle.kb_leastpair.proofs.first.least_first.Goals as goal

pub word_of-requires : goal.word_of-requires
word_of-requires c =
    let least = rw c.in-Some.is at c.in_ok-text.ensures.found in
    let P : List ℕ → Type 0 = λ word. All (λ letter. letter < 2 ^ 16) word in
    subst P (sym c.as_slice.ensures.value)
    (first_fits c.args.pairs.now c.requires.0 c.requires.1 c.in_ok-words.ensures.automaton c.in_ok-words.words
    c.in_ok-words.ensures.reads c.in-Some.text.items least.accepted)

pub returns-in-Some-clause-found : goal.returns-in-Some-clause-found
returns-in-Some-clause-found c =
    let least = rw c.in-Some.is at c.in_ok-text.ensures.found in
    let P : List ℕ → Type 0 = λ word. IsLeastWord (HasSecond c.args.pairs.now) word in
    subst P (sym (c.in_ok-word_of-in-Some.ensures ∙ c.as_slice.ensures.value))
    (least_first_word c.args.pairs.now c.requires.0 c.requires.1 c.in_ok-words.ensures.automaton c.in_ok-words.words
    c.in_ok-words.ensures.reads c.in-Some.text.items least)

pub returns-clause-none : goal.returns-clause-none
returns-clause-none c =
    no_first_word c.args.pairs.now c.requires.0 c.requires.1 c.in_ok-words.ensures.automaton c.in_ok-words.words
    c.in_ok-words.ensures.reads (rw c.in-None.is at c.in_ok-text.ensures.none)
