-- The moves between marked states.
use Rattle.std.proofs.Common.{◌≡◌, ℕ, ◌<◌, ◌≤◌, Bool, true, false, List, [], ◌∷◌, get_or, Option, Some, None, option_map, if◌then◌else◌, refl, sym, ap, ◌∙◌, subst, inl, inr, arith}
use Rattle.std.specs.List.{All, cons_option}
use Rattle.std.specs.Option.{option_and_then}
use Rattle.std.proofs.lemmas.Bool.{cases_eq, cases_Bool}
use Rattle.std.proofs.lemmas.List.Elements.{All-nil, All-cons, All-head, All-tail, All-weaker}
use Rattle.std.proofs.lemmas.List.Kept.{AllPairs-cons}
use Rattle.kb_fsa.specs.Table.{Moves, lookup, Ascends, moves_of}
use Rattle.kb_fsa.specs.Language.{Automaton, IsAutomaton, symbols}
use Rattle.kb_fsa.proofs.Lookups.{lookup_here, lookup_there, lookup_below, Ascends-head, Ascends-tail, All-moves_of, IsRow-moves_of}
use Rattle.kb_explore.specs.Machine.{AreMovesOf}
use Rattle.kb_labels.specs.LivePart.{marked_state, marked_part, marked_moves}

module _ (marks : List Bool) where
  pub not_marked : (state : ℕ) → get_or marks state false ≡ false → marked_state marks state ≡ None
  not_marked state is = ap (λ b. if b then Some state else None) is

  pub is_marked : (state : ℕ) → get_or marks state false ≡ true → marked_state marks state ≡ Some state
  is_marked state is = ap (λ b. if b then Some state else None) is

  -- a move whose target isn't marked is left out
  left_out : (move : ℕ × ℕ) (moves : Moves) → get_or marks move.1 false ≡ false
      → marked_moves marks (move ∷ moves) ≡ marked_moves marks moves
  left_out move moves none =
      ap (λ o. cons_option (option_map (λ state. (move.0, state)) o) (marked_moves marks moves)) (not_marked move.1 none)

  kept : (move : ℕ × ℕ) (moves : Moves) → get_or marks move.1 false ≡ true
      → marked_moves marks (move ∷ moves) ≡ (move.0, move.1) ∷ marked_moves marks moves
  kept move moves some =
      ap (λ o. cons_option (option_map (λ state. (move.0, state)) o) (marked_moves marks moves)) (is_marked move.1 some)

  -- what holds of the symbols is kept
  symbols_kept : (P : ℕ → Type 0) (moves : Moves) → All (λ move. P move.0) moves → All (λ move. P move.0) (marked_moves marks moves)
  symbols_kept P [] all = All-nil (λ (move : ℕ × ℕ). P move.0)
  symbols_kept P (move ∷ moves) all =
      let Q : ℕ × ℕ → Type 0 = λ m. P m.0 in
      let rest = symbols_kept P moves (All-tail Q move moves all) in
      elim (cases_Bool (get_or marks move.1 false)) [
        | inl some ↦
            subst (All Q) (sym (kept move moves some))
            (All-cons Q (move.0, move.1) (marked_moves marks moves) (All-head Q move moves all) rest)
        | inr none ↦ subst (All Q) (sym (left_out move moves none)) rest
      ]

  ascends_kept : (moves : Moves) → Ascends moves → Ascends (marked_moves marks moves)
  ascends_kept [] ascends = λ i j d low high. absurd (let no : ⊥ = omega arith in no)
  ascends_kept (move ∷ moves) ascends =
      let P : Moves → Type 0 = λ ms. Ascends ms in
      let rest = ascends_kept moves (Ascends-tail move moves ascends) in
      elim (cases_Bool (get_or marks move.1 false)) [
        | inl some ↦
            let above = symbols_kept (λ x. move.0 < x) moves (Ascends-head move moves ascends) in
            subst P (sym (kept move moves some))
            (AllPairs-cons (λ (earlier : ℕ × ℕ) (later : ℕ × ℕ). earlier.0 < later.0) (move.0, move.1)
            (marked_moves marks moves) above rest)
        | inr none ↦ subst P (sym (left_out move moves none)) rest
      ]

  -- a look-up finds the target, if it is marked
  lookup_kept : (moves : Moves) (symbol : ℕ) → Ascends moves
      → lookup (marked_moves marks moves) symbol ≡ option_and_then (marked_state marks) (lookup moves symbol)
  lookup_kept [] symbol ascends = refl
  lookup_kept (move ∷ moves) symbol ascends =
      let rest = lookup_kept moves symbol (Ascends-tail move moves ascends) in
      let P : ℕ → Type 0 = λ x. All (λ (later : ℕ × ℕ). x < later.0) moves in
      let Found = λ (ms : Moves). lookup ms symbol in
      let Marked : Option ℕ → Option ℕ = λ o. option_and_then (marked_state marks) o in
      elim (cases_eq move.0 symbol) [
        | inl same ↦
            let here = ap Marked (lookup_here move moves symbol same) in
            elim (cases_Bool (get_or marks move.1 false)) [
              | inl some ↦
                  ap Found (kept move moves some) ∙ lookup_here (move.0, move.1) (marked_moves marks moves) symbol same
                  ∙ sym (here ∙ is_marked move.1 some)
              | inr none ↦
                  let later = lookup_below moves symbol (subst P same (Ascends-head move moves ascends)) in
                  ap Found (left_out move moves none) ∙ rest ∙ ap Marked later ∙ sym (here ∙ not_marked move.1 none)
            ]
        | inr differ ↦
            let there = ap Marked (lookup_there move moves symbol differ) in
            elim (cases_Bool (get_or marks move.1 false)) [
              | inl some ↦
                  ap Found (kept move moves some) ∙ lookup_there (move.0, move.1) (marked_moves marks moves) symbol differ ∙ rest ∙ sym there
              | inr none ↦ ap Found (left_out move moves none) ∙ rest ∙ sym there
            ]
      ]

-- the moves of a state in the marked part
pub part_moves : (automaton : Automaton) → IsAutomaton automaton → (marks : List Bool) (state : ℕ)
    → AreMovesOf (marked_part automaton.table marks) (symbols automaton.alphabet) state (marked_moves marks (moves_of automaton.table state))
part_moves automaton is marks state =
    let moves = moves_of automaton.table state in
    let row = IsRow-moves_of automaton.table state is.table in
    let k = symbols automaton.alphabet in
    let low = All-weaker (λ (m : ℕ × ℕ). (0 < m.0) × (0 < m.1)) (λ (m : ℕ × ℕ). 0 < m.0) (λ m h. h.0) moves row.numbers in
    let high = All-moves_of (λ ms. All (λ (m : ℕ × ℕ). m.0 ≤ k) ms) automaton.table state (All-nil (λ (m : ℕ × ℕ). m.0 ≤ k)) is.symbols in
    record {
      ascends = ascends_kept marks moves row.ascends;
      symbols = symbols_kept marks (λ x. (0 < x) × (x ≤ k)) moves (λ i d within. (low i d within, high i d within));
      follow = λ symbol. lookup_kept marks moves symbol row.ascends;
    }
