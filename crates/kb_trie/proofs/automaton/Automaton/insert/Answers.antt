use Rattle.std.proofs.Common.{◌≡◌, ℕ, ◌<◌, List, length, get_or, refl, ◌∙◌, subst, arith}
use Rattle.std.proofs.lemmas.List.{get_or_read}
use Rattle.kb_trie.specs.States.{Grows, word}
use Rattle.kb_trie.specs.Tries.{states_of, words_in}
use Rattle.kb_trie.proofs.Grown.{grows_letter, grows_none, has_word_more}
use Rattle.kb_trie.proofs.automaton.Automaton.insert.Goals as goal

pub loop-letter-init : goal.loop-letter-init
loop-letter-init c =
    record {
      automaton = c.requires;
      word = record { within = c.requires.states.are.some; is = c.requires.states.are.root };
      grows = grows_none _ _ _ refl refl;
    }

pub loop-letter-preserved : goal.loop-letter-preserved
loop-letter-preserved c =
    let items : List ℕ = c.letters-letter-items.result.now in
    let i : ℕ = c.loop-letter.letter-index in
    let within : i < length items = omega arith in
    let read : c.number.result ≡ get_or items i 0 = c.number.ensures ∙ get_or_read items i c.letter-item.result within c.letter-item.is 0 in
    let before = c.loop-letter.invariant in
    record {
      automaton = c.go_to.ensures.automaton;
      word =
          has_word_more (words_in c.go_to.new.self) items (word (words_in c.loop-letter.self) c.loop-letter.state) i c.number.result
          _ within read before.word.is c.in_ok-state.ensures.word;
      grows =
          grows_letter items (word (words_in c.loop-letter.self) c.loop-letter.state) i c.number.result (states_of c.args.self.now)
          (states_of c.loop-letter.self) (states_of c.go_to.new.self) within read before.word.is before.grows c.go_to.ensures.grows;
    }

pub returns-in_err-state-clause-grows : goal.returns-in_err-state-clause-grows
returns-in_err-state-clause-grows c =
    let items : List ℕ = c.letters-letter-items.result.now in
    let i : ℕ = c.loop-letter.letter-index in
    let within : i < length items = omega arith in
    let read : c.number.result ≡ get_or items i 0 = c.number.ensures ∙ get_or_read items i c.letter-item.result within c.letter-item.is 0 in
    let before = c.loop-letter.invariant in
    let G : List ℕ → Type 0 = λ w. Grows w (states_of c.args.self.now) (states_of c.go_to.new.self) in
    subst G c.letters-letter-items.ensures.letters
    (grows_letter items (word (words_in c.loop-letter.self) c.loop-letter.state) i c.number.result (states_of c.args.self.now)
    (states_of c.loop-letter.self) (states_of c.go_to.new.self) within read before.word.is before.grows c.go_to.ensures.grows)
