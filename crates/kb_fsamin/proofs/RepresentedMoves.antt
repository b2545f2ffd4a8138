-- The moves of the quotient.
use Rattle.std.proofs.Common.{◌≡◌, ◌≢◌, ℕ, ◌<◌, ◌≤◌, List, [], ◌∷◌, option_map, refl, sym, ap, ◌∙◌, subst, inl, inr, arith}
use Rattle.std.specs.List.{All, cons_option}
use Rattle.std.specs.Option.{unwrap_or}
use Rattle.std.proofs.lemmas.Bool.{cases_eq}
use Rattle.std.proofs.lemmas.List.Elements.{All-nil, All-cons, All-head, All-tail, All-weaker}
use Rattle.std.proofs.lemmas.List.Kept.{AllPairs-cons}
use Rattle.kb_fsa.specs.Table.{Moves, lookup, target, Ascends, moves_of}
use Rattle.kb_fsa.specs.Language.{Automaton, IsAutomaton, symbols}
use Rattle.kb_fsa.proofs.Lookups.{lookup_here, lookup_there, lookup_below, Ascends-head, Ascends-tail, target_none, target_some, All-moves_of, IsRow-moves_of}
use Rattle.kb_explore.specs.Machine.{AreMovesOf}
use Rattle.kb_fsamin.specs.Classes.{representative}
use Rattle.kb_fsamin.specs.Quotient.{some_state, quotient_of, represented_moves}
use Rattle.kb_fsamin.proofs.Represented.{some_state_is}

module _ (listed : List ℕ) where
  -- a move whose target has no representative is left out
  left_out : (move : ℕ × ℕ) (moves : Moves) → representative listed move.1 ≡ 0
      → represented_moves listed (move ∷ moves) ≡ represented_moves listed moves
  left_out move moves none =
      ap (λ r. cons_option (option_map (λ class. (move.0, class)) (some_state r)) (represented_moves listed moves)) none

  kept : (move : ℕ × ℕ) (moves : Moves) → representative listed move.1 ≢ 0
      → represented_moves listed (move ∷ moves) ≡ (move.0, representative listed move.1) ∷ represented_moves listed moves
  kept move moves some =
      ap (λ o. cons_option (option_map (λ class. (move.0, class)) o) (represented_moves listed moves))
      (some_state_is (representative listed move.1) some)

  -- what holds of the symbols is kept
  symbols_kept : (P : ℕ → Type 0) (moves : Moves) → All (λ move. P move.0) moves → All (λ move. P move.0) (represented_moves listed moves)
  symbols_kept P [] all = All-nil (λ (move : ℕ × ℕ). P move.0)
  symbols_kept P (move ∷ moves) all =
      let Q : ℕ × ℕ → Type 0 = λ m. P m.0 in
      let rest = symbols_kept P moves (All-tail Q move moves all) in
      elim (cases_eq (representative listed move.1) 0) [
        | inl none ↦ subst (All Q) (sym (left_out move moves none)) rest
        | inr some ↦
            subst (All Q) (sym (kept move moves some))
            (All-cons Q (move.0, representative listed move.1) (represented_moves listed moves) (All-head Q move moves all) rest)
      ]

  ascends_kept : (moves : Moves) → Ascends moves → Ascends (represented_moves listed moves)
  ascends_kept [] ascends = λ i j d low high. absurd (let no : ⊥ = omega arith in no)
  ascends_kept (move ∷ moves) ascends =
      let P : Moves → Type 0 = λ ms. Ascends ms in
      let rest = ascends_kept moves (Ascends-tail move moves ascends) in
      elim (cases_eq (representative listed move.1) 0) [
        | inl none ↦ subst P (sym (left_out move moves none)) rest
        | inr some ↦
            let above = symbols_kept (λ x. move.0 < x) moves (Ascends-head move moves ascends) in
            subst P (sym (kept move moves some))
            (AllPairs-cons (λ (earlier : ℕ × ℕ) (later : ℕ × ℕ). earlier.0 < later.0) (move.0, representative listed move.1)
            (represented_moves listed moves) above rest)
      ]

  target_here : (move : ℕ × ℕ) (moves : Moves) (symbol : ℕ) → move.0 ≡ symbol → target (move ∷ moves) symbol ≡ move.1
  target_here move moves symbol same = target_some (move ∷ moves) symbol move.1 (lookup_here move moves symbol same)

  -- a look-up finds the representative of the target
  lookup_kept : (moves : Moves) (symbol : ℕ) → Ascends moves
      → lookup (represented_moves listed moves) symbol ≡ some_state (representative listed (target moves symbol))
  lookup_kept [] symbol ascends = refl
  lookup_kept (move ∷ moves) symbol ascends =
      let rest = lookup_kept moves symbol (Ascends-tail move moves ascends) in
      let P : ℕ → Type 0 = λ x. All (λ (later : ℕ × ℕ). x < later.0) moves in
      let Found = λ (ms : Moves). lookup ms symbol in
      elim (cases_eq move.0 symbol) [
        | inl same ↦
            let here = target_here move moves symbol same in
            let result = ap (λ s. some_state (representative listed s)) here in
            elim (cases_eq (representative listed move.1) 0) [
              | inl none ↦
                  let later = target_none moves symbol (lookup_below moves symbol (subst P same (Ascends-head move moves ascends))) in
                  ap Found (left_out move moves none) ∙ rest ∙ ap (λ s. some_state (representative listed s)) later
                  ∙ sym (result ∙ ap some_state none)
              | inr some ↦
                  ap Found (kept move moves some)
                  ∙ lookup_here (move.0, representative listed move.1) (represented_moves listed moves) symbol same
                  ∙ sym (result ∙ some_state_is (representative listed move.1) some)
            ]
        | inr differ ↦
            let there = ap (λ o. unwrap_or o 0) (lookup_there move moves symbol differ) in
            let result = ap (λ s. some_state (representative listed s)) there in
            elim (cases_eq (representative listed move.1) 0) [
              | inl none ↦ ap Found (left_out move moves none) ∙ rest ∙ sym result
              | inr some ↦
                  ap Found (kept move moves some)
                  ∙ lookup_there (move.0, representative listed move.1) (represented_moves listed moves) symbol differ
                  ∙ rest ∙ sym result
            ]
      ]

-- the moves of a state in the quotient
pub quotient_moves : (automaton : Automaton) → IsAutomaton automaton → (listed : List ℕ) (state : ℕ)
    → AreMovesOf (quotient_of automaton.table listed) (symbols automaton.alphabet) state (represented_moves listed (moves_of automaton.table state))
quotient_moves automaton is listed state =
    let moves = moves_of automaton.table state in
    let row = IsRow-moves_of automaton.table state is.table in
    let k = symbols automaton.alphabet in
    let low = All-weaker (λ (m : ℕ × ℕ). (0 < m.0) × (0 < m.1)) (λ (m : ℕ × ℕ). 0 < m.0) (λ m h. h.0) moves row.numbers in
    let high = All-moves_of (λ ms. All (λ (m : ℕ × ℕ). m.0 ≤ k) ms) automaton.table state (All-nil (λ (m : ℕ × ℕ). m.0 ≤ k)) is.symbols in
    record {
      ascends = ascends_kept listed moves row.ascends;
      symbols = symbols_kept listed (λ x. (0 < x) × (x ≤ k)) moves (λ i d within. (low i d within, high i d within));
      follow = λ symbol. lookup_kept listed moves symbol row.ascends;
    }
