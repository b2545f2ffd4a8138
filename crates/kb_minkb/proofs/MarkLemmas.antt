-- Marks of the symbols by which automata have moves, gathered one by one.
use Rattle.std.proofs.Common.{◌≡◌, ◌≢◌, ℕ, ◌+◌, ◌<◌, ◌≤◌, nat_eq, not, ◌||◌, Bool, false, Some, None, List, [], ◌∷◌, All, length, get_or, min, unwrap_or, refl, sym, ap, ap₂, ◌∙◌, subst}
use Rattle.std.specs.List.{list_any}
use Rattle.std.proofs.lemmas.Bool.{cond-false}
use Rattle.std.proofs.lemmas.List.{take_all}
use Rattle.std.proofs.lemmas.List.Elements.{All-nil, All-more}
use Rattle.std.proofs.lemmas.List.Folds.{list_any-append}
use Rattle.kb_fsa.specs.Table.{Moves, Table, moves_of, step}
use Rattle.kb_fsa.specs.Language.{Automaton}
use Rattle.kb_fsa.proofs.Lookups.{lookup_nowhere}
use Rattle.kb_minkb.specs.declared.place.LeftPlace.{LeftPlace}
use Rattle.kb_minkb.specs.Rules.{has_state}
use Rattle.kb_minkb.specs.RuleMachine.{next_states, place_with}
use Rattle.kb_minkb.specs.Progress.{first_states}
use Rattle.kb_minkb.specs.Marks.{IsUnmarked, AreAllMarked, AreFirstMarked, AreMovesMarked, AreFirstMovesMarked}
use Rattle.kb_minkb.proofs.Gathered.{next_states_more, all_next_states}

-- ---- the moves of one state

pub no_moves_marked : (moves : Moves) (marks : List Bool) → AreFirstMovesMarked moves 0 marks marks
no_moves_marked moves marks = λ symbol unmarked. (unmarked, All-nil (λ (move : ℕ × ℕ). move.0 ≢ symbol))

pub one_move_marked : (moves : Moves) (many : ℕ) (before between after : List Bool) → many < length moves
    → AreFirstMovesMarked moves many before between → ¬ IsUnmarked after (get_or moves many (0, 0)).0
    → ((other : ℕ) → IsUnmarked after other → IsUnmarked between other) → AreFirstMovesMarked moves (many + 1) before after
one_move_marked moves many before between after low first here others = λ symbol unmarked.
    let earlier = first symbol (others symbol unmarked) in
    let apart : (get_or moves many (0, 0)).0 ≢ symbol = λ same. here (subst (IsUnmarked after) (sym same) unmarked) in
    (earlier.0, All-more (λ (move : ℕ × ℕ). move.0 ≢ symbol) moves many (0, 0) low earlier.1 apart)

pub all_moves_marked : (table : Table) (state : ℕ) (moves : Moves) (many : ℕ) (before after : List Bool) → moves ≡ moves_of table state
    → length moves ≤ many → AreFirstMovesMarked moves many before after → AreMovesMarked table state before after
all_moves_marked table state moves many before after are whole first = λ symbol unmarked.
    let marked = first symbol unmarked in
    let P : Moves → Type 0 = λ entries. All (λ move. move.0 ≢ symbol) entries in
    let none = lookup_nowhere (moves_of table state) symbol (subst P (take_all many moves whole ∙ are) marked.1) in
    (marked.0, ap (λ found. unwrap_or found 0) none)

-- ---- several automata

module _ (automata : List Automaton) (states : List ℕ) where
  pub no_automaton_marked : (marks : List Bool) → AreFirstMarked automata states 0 marks
  no_automaton_marked marks = λ symbol unmarked. refl

  pub one_automaton_marked : (many : ℕ) (automaton : Automaton) (state : ℕ) → many < length automata → many < length states
      → automaton ≡ get_or automata many automaton → state ≡ get_or states many state
      → (before after : List Bool) → AreFirstMarked automata states many before
      → AreMovesMarked automaton.table state before after → AreFirstMarked automata states (many + 1) after
  one_automaton_marked many automaton state low also_low at also_at before after first marked = λ symbol unmarked.
      let is : ℕ → Bool = λ s. not (nat_eq s 0) in
      let here = marked symbol unmarked in
      let earlier = first symbol here.0 in
      let stuck : list_any is (step automaton.table state symbol ∷ []) ≡ false = ap (λ s. list_any is (s ∷ [])) here.1 in
      ap has_state (next_states_more automata states symbol many automaton state low also_low at also_at)
      ∙ list_any-append is (first_states automata states symbol many) (step automaton.table state symbol ∷ [])
      ∙ ap₂ (λ (a : Bool) (b : Bool). a || b) earlier stuck

  pub all_automata_marked : (many : ℕ) (marks : List Bool) → many ≡ min (length automata) (length states)
      → AreFirstMarked automata states many marks → AreAllMarked automata states marks
  all_automata_marked many marks whole first = λ symbol unmarked.
      ap has_state (sym (all_next_states automata states symbol many whole)) ∙ first symbol unmarked

  -- by a symbol without a mark the multipliers lead to no place
  pub nowhere_unmarked : (marks : List Bool) (symbol : ℕ) (left : LeftPlace) → AreAllMarked automata states marks → IsUnmarked marks symbol
      → None ≡ place_with left (next_states automata states symbol)
  nowhere_unmarked marks symbol left marked unmarked =
      let after = next_states automata states symbol in
      sym (cond-false (has_state after) (Some (record { left = left; states = after })) None (marked symbol unmarked))
