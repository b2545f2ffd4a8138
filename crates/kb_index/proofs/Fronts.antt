-- What is read, its states, and the rule whose left side is the first that ends it.
use Rattle.std.proofs.Common.{◌≡◌, ℕ, ◌+◌, ◌-◌, ◌<◌, ◌≤◌, List, [], ◌∷◌, ◌++◌, length, get_or, take, slice_get, Some, None, refl, sym, ap, ◌∙◌, subst, inl, inr, arith}
use Rattle.std.proofs.lemmas.List.{get_or_append_left, get_or_push, length_push, take-append-le, take_all, take-take, length-take-le, get_or-take, length-map}
use Rattle.std.proofs.lemmas.Option.{get_or_from_slice_get, slice_get_within}
use Rattle.std.proofs.lemmas.Bool.{cases_lt}
use Rattle.kb_word.specs.Words.{Pair, EndsWith}
use Rattle.kb_rules.specs.Ending.{IsFirstEnding, NoneEnds}
use Rattle.kb_trie.specs.States.{AreWords, word}
use Rattle.kb_trie.specs.LeftSides.{IsLeast, IsLeastOf}
use Rattle.kb_trie.specs.Steps.{IsLongestSuffix}
use Rattle.kb_trie.proofs.Longest.{longest_more, longest_nil}
use Rattle.kb_trie.proofs.Suffixes.{ends_within}
use Rattle.kb_index.specs.Lefts.{AreStates, EndsAt, StandsAt}
use Rattle.kb_index.specs.Automata.{AreStatesAlong, ReadsBy, Sides, StandsFor}
use Rattle.kb_index.proofs.Sides.{side_of}

stands_along : (words : List (List ℕ)) (v w : List ℕ) (s t : ℕ) → v ≡ w → s ≡ t → StandsFor words v s → StandsFor words w t
stands_along words v w s t same_word same_state stands =
    let P : List ℕ → Type 0 = λ u. StandsFor words u s in
    subst (StandsFor words w) same_state (subst P same_word stands)

pub states_first : (words : List (List ℕ)) → AreWords words → AreStatesAlong words [] (0 ∷ [])
states_first words are =
    record {
      count = omega arith;
      each = λ i within.
          let first : StandsFor words [] 0 = record { within = are.some; longest = longest_nil words are } in
          let same : 0 ≡ i = omega arith in
          let P : ℕ → Type 0 = λ k. StandsFor words (take k []) (get_or (0 ∷ []) k 0) in
          subst P same first;
    }

states_push : (words : List (List ℕ)) (w : List ℕ) (states : List ℕ) (x state : ℕ) → AreStatesAlong words w states
    → StandsFor words (w ++ x ∷ []) state → AreStatesAlong words (w ++ x ∷ []) (states ++ state ∷ [])
states_push words w states x state are last =
    record {
      count = omega (arith, length_push w x, length_push states state, are.count);
      each = λ i within.
          elim (cases_lt i (length states)) [
            | inl earlier ↦
                let fits : i ≤ length w = omega (arith, are.count) in
                stands_along words (take i w) (take i (w ++ x ∷ [])) (get_or states i 0) (get_or (states ++ state ∷ []) i 0)
                (sym (take-append-le i w (x ∷ []) fits)) (sym (get_or_append_left states (state ∷ []) 0 i earlier)) (are.each i fits)
            | inr late ↦
                let same : length states ≡ i = omega (arith, length_push w x, are.count) in
                stands_along words (w ++ x ∷ []) (take i (w ++ x ∷ [])) state (get_or (states ++ state ∷ []) i 0)
                (sym (take_all i (w ++ x ∷ []) (omega (arith, length_push w x, are.count)))) (sym (get_or_push states state 0 i same)) last
          ];
    }

states_cut : (words : List (List ℕ)) (w : List ℕ) (states : List ℕ) (kept : ℕ) → kept ≤ length w → AreStatesAlong words w states
    → AreStatesAlong words (take kept w) (take (kept + 1) states)
states_cut words w states kept fits are =
    let long : length (take kept w) ≡ kept = length-take-le kept w fits in
    record {
      count = omega (arith, length-take-le (kept + 1) states (omega (arith, are.count)));
      each = λ i within.
          stands_along words (take i w) (take i (take kept w)) (get_or states i 0) (get_or (take (kept + 1) states) i 0)
          (sym (take-take i kept w (omega arith))) (sym (get_or-take (kept + 1) states i 0 (omega arith))) (are.each i (omega arith));
    }

-- the state of what is read is the last one
pub states_last : (words : List (List ℕ)) (w : List ℕ) (states : List ℕ) → AreStatesAlong words w states
    → StandsFor words w (get_or states (length states - 1) 0)
states_last words w states are =
    let last : ℕ = length states - 1 in
    stands_along words (take last w) w (get_or states last 0) (get_or states last 0) (take_all last w (omega (arith, are.count))) refl
    (are.each last (omega (arith, are.count)))

-- the state after a letter more
pub states_next : (words : List (List ℕ)) → AreWords words → (w : List ℕ) (states : List ℕ) (x state : ℕ) → AreStatesAlong words w states
    → state < length words
    → IsLongestSuffix words (word words (get_or states (length states - 1) 0) ++ x ∷ []) (word words state)
    → StandsFor words (w ++ x ∷ []) state
states_next words are_words w states x state are within stepped =
    let last : ℕ = length states - 1 in
    record {
      within = within;
      longest = longest_more words are_words w (word words (get_or states last 0)) (word words state) x (states_last words w states are).longest stepped;
    }

states_same : (words : List (List ℕ)) (v w : List ℕ) (ss ts : List ℕ) → v ≡ w → ss ≡ ts → AreStatesAlong words w ts → AreStatesAlong words v ss
states_same words v w ss ts same_word same_states are =
    let P : List ℕ → Type 0 = λ u. AreStatesAlong words u ts in
    subst (AreStatesAlong words v) (sym same_states) (subst P (sym same_word) are)

-- the letter has joined the front
pub front_pushed : (words : List (List ℕ)) (w w' : List ℕ) (states states' : List ℕ) (x state : ℕ) → AreStatesAlong words w states
    → StandsFor words (w ++ x ∷ []) state → w' ≡ w ++ x ∷ [] → states' ≡ states ++ state ∷ [] → AreStatesAlong words w' states'
front_pushed words w w' states states' x state are stands joined pushed =
    states_same words w' (w ++ x ∷ []) states' (states ++ state ∷ []) joined pushed (states_push words w states x state are stands)

-- and the front has been cut
pub front_cut : (words : List (List ℕ)) (w v : List ℕ) (states rest : List ℕ) (kept : ℕ) → kept ≤ length w → AreStatesAlong words w states
    → v ≡ take kept w → rest ≡ take (kept + 1) states → AreStatesAlong words v rest
front_cut words w v states rest kept fits are cut rest_cut =
    states_same words v (take kept w) rest (take (kept + 1) states) cut rest_cut (states_cut words w states kept fits are)

-- a left side that ends what is read ends the state's word
ends_state : (words lefts : List (List ℕ)) (w : List ℕ) (state : ℕ) → AreStates words lefts → StandsFor words w state → (left : List ℕ) (place : ℕ)
    → StandsAt lefts left place → EndsWith w left → EndsAt lefts (word words state) place
ends_state words lefts w state are stands left place here ends =
    let own = are.states place left here in
    let P : List ℕ → Type 0 = λ v. EndsWith w v in
    let Q : List ℕ → Type 0 = λ v. EndsWith (word words state) v in
    record {
      left = left;
      stands = here;
      ends = subst Q own.1.is (stands.longest.longest own.0 own.1.within (subst P (sym own.1.is) ends));
    }

-- the rule at the first place whose left side ends the state's word is the first whose left side ends what is read
pub first_ending : (rules : List Pair) (automaton : Sides) → ReadsBy rules automaton → (w : List ℕ) (state place : ℕ) (rule : Pair)
    → StandsFor automaton.words w state → IsLeast (EndsAt automaton.lefts (word automaton.words state)) 0 place
    → slice_get rules place ≡ Some rule → IsFirstEnding rules w place rule
first_ending rules automaton reads w state place rule stands least is =
    let own : StandsAt automaton.lefts rule.0 place = side_of rules automaton.lefts reads.lefts place rule is in
    let P : List ℕ → Type 0 = λ v. EndsWith w v in
    let same : least.is.left ≡ rule.0 =
    sym (get_or_from_slice_get automaton.lefts place least.is.left [] least.is.stands) ∙ get_or_from_slice_get automaton.lefts place rule.0 [] own in
    record {
      is_rule = is;
      ends = subst P same (ends_within w (word automaton.words state) least.is.left stands.longest.ends least.is.ends);
      first = λ earlier other less one ends.
          let at = ends_state automaton.words automaton.lefts w state reads.states stands other.0 earlier
          (side_of rules automaton.lefts reads.lefts earlier other one) ends in
          omega (arith, least.least earlier (omega arith) at);
    }

-- where there is no such place, no rule's left side ends what is read
pub none_ending : (rules : List Pair) (automaton : Sides) → ReadsBy rules automaton → (w : List ℕ) (state : ℕ)
    → StandsFor automaton.words w state → IsLeastOf (EndsAt automaton.lefts (word automaton.words state)) 0 None → NoneEnds rules w
none_ending rules automaton reads w state stands none pair one ends =
    none one.0 (omega arith)
    (ends_state automaton.words automaton.lefts w state reads.states stands pair.0 one.0
    (side_of rules automaton.lefts reads.lefts one.0 pair one.1) ends)

-- the place of a left side is that of a rule
pub place_within : (rules : List Pair) (automaton : Sides) → ReadsBy rules automaton → (w : List ℕ) (place : ℕ)
    → IsLeast (EndsAt automaton.lefts w) 0 place → place < length rules
place_within rules automaton reads w place least =
    omega (
      arith,
      slice_get_within automaton.lefts place least.is.left least.is.stands,
      ap (λ (ls : List (List ℕ)). length ls) reads.lefts,
      length-map rules (λ (rule : Pair). rule.0),
    )
