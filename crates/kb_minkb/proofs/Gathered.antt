-- States of several automata, gathered one by one.
use Rattle.std.proofs.Common.{◌≡◌, ℕ, ◌+◌, ◌<◌, ◌≤◌, List, [], ◌∷◌, ◌++◌, All, length, get_or, take, map, zip, min, refl, sym, ap, ap₂, ◌∙◌, subst, arith}
use Rattle.std.proofs.lemmas.List.{map_more, take_more, take_all}
use Rattle.std.proofs.lemmas.List.Elements.{All-nil, All-push}
use Rattle.std.proofs.lemmas.Slice.Zip.{get_or-zip, length-zip}
use Rattle.kb_fsa.specs.Table.{step, state_after}
use Rattle.kb_fsa.specs.Language.{Automaton, IsAutomaton}
use Rattle.kb_minkb.specs.Rules.{states_after}
use Rattle.kb_minkb.specs.RuleMachine.{next_states}
use Rattle.kb_minkb.specs.Progress.{AreInitialStates, first_states}

-- ---- initial states

pub no_initial_states : (multipliers : List Automaton) → AreInitialStates multipliers 0 []
no_initial_states multipliers = record { initial = refl; automata = All-nil IsAutomaton }

pub initial_states_more : {multipliers : List Automaton} {many : ℕ} {states : List ℕ} → AreInitialStates multipliers many states
    → (multiplier : Automaton) → many < length multipliers → multiplier ≡ get_or multipliers many multiplier
    → IsAutomaton multiplier → AreInitialStates multipliers (many + 1) (states ++ multiplier.table.initial ∷ [])
initial_states_more {multipliers} {many} {states} before multiplier low at is =
    let front = take many multipliers in
    let list = take_more multipliers many multiplier low ∙ ap (λ (m : Automaton). front ++ m ∷ []) (sym at) in
    let mapped = map_more (λ (m : Automaton). state_after m.table []) multipliers many multiplier low
    ∙ ap (λ (m : Automaton). states_after front [] ++ m.table.initial ∷ []) (sym at) in
    record {
      initial = ap (λ l. l ++ multiplier.table.initial ∷ []) before.initial ∙ sym mapped;
      automata = subst (All IsAutomaton) (sym list) (All-push IsAutomaton front multiplier before.automata is);
    }

pub all_initial_states : {multipliers : List Automaton} {many : ℕ} {states : List ℕ} → AreInitialStates multipliers many states
    → length multipliers ≤ many → (states ≡ states_after multipliers []) × All IsAutomaton multipliers
all_initial_states {multipliers} {many} {states} before whole =
    let list = take_all many multipliers whole in
    (before.initial ∙ ap (λ l. states_after l []) list, subst (All IsAutomaton) list before.automata)

-- ---- states after a symbol

module _ (multipliers : List Automaton) (states : List ℕ) (symbol : ℕ) where
  pub next_states_more : (many : ℕ) (multiplier : Automaton) (state : ℕ) → many < length multipliers → many < length states
      → multiplier ≡ get_or multipliers many multiplier → state ≡ get_or states many state
      → first_states multipliers states symbol (many + 1)
      ≡ first_states multipliers states symbol many ++ step multiplier.table state symbol ∷ []
  next_states_more many multiplier state low also_low at also_at =
      let pairs = zip multipliers states in
      let long = length-zip multipliers states in
      let both : get_or pairs many (multiplier, state) ≡ (multiplier, state) =
      get_or-zip multipliers states many (multiplier, state) low also_low ∙ ap₂ (λ (m : Automaton) (s : ℕ). (m, s)) (sym at) (sym also_at) in
      map_more (λ (pair : Automaton × ℕ). step pair.0.table pair.1 symbol) pairs many (multiplier, state) (omega arith)
      ∙ ap (λ (pair : Automaton × ℕ). first_states multipliers states symbol many ++ step pair.0.table pair.1 symbol ∷ []) both

  pub all_next_states : (many : ℕ) → many ≡ min (length multipliers) (length states)
      → first_states multipliers states symbol many ≡ next_states multipliers states symbol
  all_next_states many whole =
      let long = length-zip multipliers states in
      ap (map (λ (pair : Automaton × ℕ). step pair.0.table pair.1 symbol)) (take_all many (zip multipliers states) (omega arith))
