-- The states of several automata after a text.
use Rattle.std.proofs.Common.{◌≡◌, ◌≢◌, ℕ, zero, suc, nat_eq, not, true, IsTrue, List, [], ◌∷◌, ◌++◌, get_or, slice_get, Some, refl, sym, ap, ap₂, ◌∙◌, inl, inr, arith}
use Rattle.std.proofs.lemmas.Bool.{false≢true, or_cases, or_left, or_right, ne_eqb, not_from_false}
use Rattle.std.proofs.lemmas.Option.{none-some, same_Some}
use Rattle.kb_fsa.specs.Table.{state_after}
use Rattle.kb_fsa.specs.Language.{Automaton}
use Rattle.kb_minkb.specs.Rules.{states_after, has_state}
use Rattle.kb_minkb.specs.RuleMachine.{next_states}
use Rattle.kb_minkb.proofs.Places.{state_push}

-- a symbol leads on from them to those after the text with the symbol
pub next_states_push : (multipliers : List Automaton) (text : List ℕ) (symbol : ℕ)
    → next_states multipliers (states_after multipliers text) symbol ≡ states_after multipliers (text ++ symbol ∷ [])
next_states_push [] text symbol = refl
next_states_push (multiplier ∷ multipliers) text symbol =
    ap₂ (λ state states. state ∷ states) (sym (state_push multiplier.table text symbol)) (next_states_push multipliers text symbol)

-- the state of one of them
pub state_at : (multipliers : List Automaton) (text : List ℕ) (place : ℕ) (multiplier : Automaton)
    → slice_get multipliers place ≡ Some multiplier → get_or (states_after multipliers text) place 0 ≡ state_after multiplier.table text
state_at [] text place multiplier at = absurd (none-some multiplier at)
state_at (first ∷ multipliers) text zero multiplier at =
    ap (λ (one : Automaton). state_after one.table text) (same_Some first multiplier at)
state_at (first ∷ multipliers) text (suc place) multiplier at = state_at multipliers text place multiplier at

-- one of them has a state after the text
pub record HasSomeState (multipliers : List Automaton) (text : List ℕ) : Type 0 where
  pub place : ℕ
  pub multiplier : Automaton
  pub at : slice_get multipliers place ≡ Some multiplier
  pub some : state_after multiplier.table text ≢ 0

isnt_none : (state : ℕ) → not (nat_eq state 0) ≡ true → state ≢ 0
isnt_none zero holds none = false≢true holds
isnt_none (suc state) holds none = let no : ⊥ = omega arith in no

pub some_state : (multipliers : List Automaton) (text : List ℕ) → IsTrue (has_state (states_after multipliers text))
    → HasSomeState multipliers text
some_state [] text holds = absurd (false≢true holds)
some_state (first ∷ multipliers) text holds =
    let state = state_after first.table text in
    elim (or_cases (not (nat_eq state 0)) (has_state (states_after multipliers text)) holds) [
      | inl here ↦ record { place = 0; multiplier = first; at = refl; some = isnt_none state here }
      | inr later ↦
          let rest = some_state multipliers text later in
          record { place = suc rest.place; multiplier = rest.multiplier; at = rest.at; some = rest.some }
    ]

pub has_some_state : (multipliers : List Automaton) (text : List ℕ) (place : ℕ) (multiplier : Automaton)
    → slice_get multipliers place ≡ Some multiplier → state_after multiplier.table text ≢ 0
    → IsTrue (has_state (states_after multipliers text))
has_some_state [] text place multiplier at some = absurd (none-some multiplier at)
has_some_state (first ∷ multipliers) text zero multiplier at some =
    let state = state_after first.table text in
    let same = ap (λ (one : Automaton). state_after one.table text) (same_Some first multiplier at) in
    or_left (not (nat_eq state 0)) (has_state (states_after multipliers text))
    (not_from_false (nat_eq state 0) (ne_eqb state 0 (λ none. some (sym same ∙ none))))
has_some_state (first ∷ multipliers) text (suc place) multiplier at some =
    or_right (not (nat_eq (state_after first.table text) 0)) (has_state (states_after multipliers text))
    (has_some_state multipliers text place multiplier at some)
