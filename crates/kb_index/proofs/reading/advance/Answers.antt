use Rattle.std.proofs.Common.{◌≡◌, ℕ, ◌-◌, ◌∷◌, [], ◌++◌, List, length, get_or, arith, subst}
use Rattle.std.proofs.lemmas.List.{get_or_read}
use Rattle.kb_trie.specs.States.{word}
use Rattle.kb_trie.specs.Steps.{IsLongestSuffix}
use Rattle.kb_index.specs.Automata.{StandsFor}
use Rattle.kb_index.proofs.Fronts.{front_pushed, states_next}
use Rattle.kb_index.proofs.reading.advance.Goals as goal

pub returns-clause-state : goal.returns-clause-state
returns-clause-state c =
    let words : List (List ℕ) = c.args.automaton.now.words in
    let states : List ℕ = c.args.states.now.items in
    let x : ℕ = c.args.letter in
    let at : c.len.result - 1 ≡ length states - 1 = omega (arith, c.len.ensures, c.args.states.now.ok) in
    let last : c.index.result.now ≡ get_or states (c.len.result - 1) 0 =
    get_or_read states (c.len.result - 1) c.index.result.now (omega (arith, c.requires.states.count, at)) c.index.ensures 0 in
    let P : ℕ → Type 0 = λ s. IsLongestSuffix words (word words s ++ c.number.result ∷ []) (word words c.step-state.result) in
    let Q : ℕ → Type 0 = λ i. IsLongestSuffix words (word words (get_or states i 0) ++ c.number.result ∷ []) (word words c.step-state.result) in
    let R : ℕ → Type 0 = λ y. IsLongestSuffix words (word words (get_or states (length states - 1) 0) ++ y ∷ []) (word words c.step-state.result) in
    let longest : P c.index.result.now = c.step-state.ensures.longest in
    states_next words c.requires.words c.args.front.now states x c.step-state.result c.requires.states
    c.step-state.ensures.within (subst R c.number.ensures (subst Q at (subst P last longest)))

pub returns-clause-states : goal.returns-clause-states
returns-clause-states c =
    let words : List (List ℕ) = c.args.automaton.now.words in
    let stands : StandsFor words (c.args.front.now ++ c.args.letter ∷ []) c.step-state.result = returns-clause-state c in
    front_pushed words c.args.front.now c.push.new.self c.args.states.now.items c.push-2.new.self.items c.args.letter c.step-state.result
    c.requires.states stands c.in_ok-push.ensures.ok c.in_ok-push-2.ensures.items
