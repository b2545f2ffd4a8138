use Rattle.std.proofs.Common.{◌^◌, ◌<◌, ℕ, List, sym, ◌∙◌, subst}
use Rattle.std.specs.List.{All}
use Rattle.kb_fsa.specs.Language.{generators}
use Rattle.kb_leastpair.specs.LeastPair.{IsLeastWord}
use Rattle.kb_leastpair.proofs.Pairs.{letters_fit}
use Rattle.kb_certificates.specs.FirstWords.{HasSecond}
use Rattle.kb_certificates.proofs.later_pairs.least_first.Goals as goal

pub word_of-requires : goal.word_of-requires
word_of-requires c =
    let pairs = c.args.pairs.now in
    let least = rw c.in-Some.is at c.in_ok-text.ensures.found in
    let P : List ℕ → Type 0 = λ word. All (λ letter. letter < 2 ^ 16) word in
    subst P (sym c.as_slice.ensures.value)
    (letters_fit (generators pairs.alphabet) c.in-Some.text.items c.in_ok-words.ensures.automaton.generators
    ((c.in_ok-words.ensures.language c.in-Some.text.items).0 least.accepted).first_over)

pub returns-in-Some-clause-found : goal.returns-in-Some-clause-found
returns-in-Some-clause-found c =
    let least = rw c.in-Some.is at c.in_ok-text.ensures.found in
    let language = c.in_ok-words.ensures.language in
    let P : List ℕ → Type 0 = λ word. IsLeastWord (HasSecond c.args.pairs.now) word in
    subst P (sym (c.in_ok-word_of-in-Some.ensures ∙ c.as_slice.ensures.value)) (record {
      holds = (language c.in-Some.text.items).0 least.accepted;
      least = λ other has. least.least other ((language other).1 has);
    })

pub returns-clause-none : goal.returns-clause-none
returns-clause-none c =
    let none = rw c.in-None.is at c.in_ok-text.ensures.none in
    λ word has. none word ((c.in_ok-words.ensures.language word).1 has)
