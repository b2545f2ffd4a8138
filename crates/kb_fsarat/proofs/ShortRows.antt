-- Rows of fewer moves than there are symbols.
use Rattle.std.proofs.Common.{◌≡◌, ◌↔◌, ℕ, suc, ◌+◌, ◌<◌, ◌≤◌, Bool, true, nat_lt, IsTrue, [], ◌∷◌, length, get_or, None, refl, sym, ap, ◌∙◌, inl, inr, arith}
use Rattle.std.specs.List.{All, list_any}
use Rattle.std.proofs.lemmas.Bool.{cases_eq, cases_order}
use Rattle.std.proofs.lemmas.Bool.Decides.{Decides-ltb}
use Rattle.std.proofs.lemmas.List.{get_or_default}
use Rattle.std.proofs.lemmas.List.Elements.{All-cons, All-head, All-tail, All-nil}
use Rattle.std.proofs.lemmas.List.Folds.{Any-from_list_any, list_any_at}
use Rattle.std.proofs.lemmas.Option.{none-some}
use Rattle.kb_fsa.specs.Table.{Moves, lookup, Ascends, IsRow, moves_of}
use Rattle.kb_fsa.specs.Language.{Automaton, IsAutomaton, symbols}
use Rattle.kb_fsa.proofs.Lookups.{lookup_here, lookup_there, lookup_below, lookup_from_no_target, target_none, Ascends-head, Ascends-tail, All-moves_of, IsRow-moves_of}
use Rattle.kb_fsarat.specs.Repetitions.{LacksMove}
use Rattle.kb_fsarat.proofs.Chaining.{place_of}

-- fewer moves than symbols leave out the first symbol that isn't the next one
gap_from_short : (low k : ℕ) (row : Moves) → Ascends row → All (λ move. low < move.0) row → low + length row < k
    → (symbol : ℕ) × (((low < symbol) × (symbol ≤ k)) × (lookup row symbol ≡ None))
gap_from_short low k [] ascends above short = (low + 1, ((omega arith, omega arith), refl))
gap_from_short low k (move ∷ row) ascends above short =
    elim (cases_eq move.0 (low + 1)) [
      | inl next ↦
          let head = Ascends-head move row ascends in
          let gap = gap_from_short (low + 1) k row (Ascends-tail move row ascends) (λ i d within. omega (arith, head i d within)) (omega arith) in
          let over = gap.1.0.0 in
          let differ = λ (same : move.0 ≡ gap.0). let no : ⊥ = omega arith in no in
          (gap.0, ((omega arith, gap.1.0.1), lookup_there move row gap.0 differ ∙ gap.1.1))
      | inr later ↦
          let first = All-head (λ (m : ℕ × ℕ). low < m.0) move row above in
          let head = Ascends-head move row ascends in
          let beyond : low + 1 < move.0 = omega (arith, later) in (
            low + 1,
            (
              (omega arith, omega arith),
              lookup_below (move ∷ row) (low + 1)
                  (All-cons (λ (m : ℕ × ℕ). low + 1 < m.0) move row beyond (λ i d within. omega (arith, head i d within))),
            ),
          )
    ]

-- the symbols after the first are above it
after_first : (low k : ℕ) (move : ℕ × ℕ) (row : Moves) → Ascends (move ∷ row) → All (λ m. (low < m.0) × (m.0 ≤ k)) (move ∷ row)
    → All (λ m. (move.0 < m.0) × (m.0 ≤ k)) row
after_first low k move row ascends within i d in_range =
    let rest = All-tail (λ (m : ℕ × ℕ). (low < m.0) × (m.0 ≤ k)) move row within in
    (Ascends-head move row ascends i d in_range, (rest i d in_range).1)

-- there are no more moves than symbols
room : (low k : ℕ) (row : Moves) → low ≤ k → Ascends row → All (λ move. (low < move.0) × (move.0 ≤ k)) row → low + length row ≤ k
room low k [] le ascends within = omega arith
room low k (move ∷ row) le ascends within =
    let first = All-head (λ (m : ℕ × ℕ). (low < m.0) × (m.0 ≤ k)) move row within in
    let rest = room move.0 k row first.1 (Ascends-tail move row ascends) (after_first low k move row ascends within) in
    omega (arith, first.0)

-- and fewer where a symbol is left out
short_from_gap : (low k symbol : ℕ) (row : Moves) → Ascends row → All (λ move. (low < move.0) × (move.0 ≤ k)) row
    → low < symbol → symbol ≤ k → lookup row symbol ≡ None → low + length row < k
short_from_gap low k symbol [] ascends within above le none = omega arith
short_from_gap low k symbol (move ∷ row) ascends within above le none =
    let first = All-head (λ (m : ℕ × ℕ). (low < m.0) × (m.0 ≤ k)) move row within in
    let others = after_first low k move row ascends within in
    let up = Ascends-tail move row ascends in
    elim (cases_order move.0 symbol) [
      | inl same ↦ absurd (none-some move.1 (sym none ∙ lookup_here move row symbol same))
      | inr apart ↦ elim apart [
        | inl less ↦
            let differ = λ (same : move.0 ≡ symbol). let no : ⊥ = omega arith in no in
            let rest = short_from_gap move.0 k symbol row up others less le (sym (lookup_there move row symbol differ) ∙ none) in
            omega (arith, first.0)
        | inr more ↦ let rest = room move.0 k row first.1 up others in omega (arith, first.0)
      ]
    ]

-- ---- the rows of an automaton

module _ (automaton : Automaton) (is : IsAutomaton automaton) where
  abbrev is_short : Moves → Bool
  is_short row = nat_lt (length row) (symbols automaton.alphabet)

  lacks_from_short : list_any is_short automaton.table.rows ≡ true → LacksMove automaton
  lacks_from_short found =
      let rows = automaton.table.rows in
      let short = Any-from_list_any is_short rows found in
      let moves = get_or rows short.0 [] in
      let row : IsRow moves = IsRow-moves_of automaton.table (suc short.0) is.table in
      let same : moves ≡ short.1 = get_or_default rows short.0 [] short.1 short.2 ∙ short.3 in
      let less : length short.1 < symbols automaton.alphabet = (Decides-ltb (length short.1) (symbols automaton.alphabet)).0 short.4 in
      let gap = gap_from_short 0 (symbols automaton.alphabet) moves row.ascends (λ i d within. (row.numbers i d within).0)
      (omega (arith, ap length same)) in
      record {
        state = suc short.0;
        is_state = record { positive = omega arith; within = omega (arith, short.2) };
        symbol = gap.0;
        is_symbol = gap.1.0;
        none = target_none moves gap.0 gap.1.1;
      }

  short_from_lacks : LacksMove automaton → list_any is_short automaton.table.rows ≡ true
  short_from_lacks lacks =
      let at = place_of lacks.state lacks.is_state.positive in
      let moves = moves_of automaton.table lacks.state in
      let row = IsRow-moves_of automaton.table lacks.state is.table in
      let within = All-moves_of (λ ms. All (λ move. move.0 ≤ symbols automaton.alphabet) ms) automaton.table lacks.state
      (All-nil (λ move. move.0 ≤ symbols automaton.alphabet)) is.symbols in
      let short = short_from_gap 0 (symbols automaton.alphabet) lacks.symbol moves row.ascends
      (λ i d in_range. ((row.numbers i d in_range).0, within i d in_range)) lacks.is_symbol.0 lacks.is_symbol.1
      (lookup_from_no_target moves lacks.symbol row lacks.none) in
      let same : moves ≡ get_or automaton.table.rows at.0 [] = ap (moves_of automaton.table) at.1 in
      let last = lacks.is_state.within in
      list_any_at is_short automaton.table.rows at.0 [] (omega (arith, at.1))
      ((Decides-ltb (length (get_or automaton.table.rows at.0 [])) (symbols automaton.alphabet)).1 (omega (arith, ap length same)))

  -- some row is shorter than the symbols are many exactly where some state has no move by some of them
  pub lacks_where_short : (found : Bool) → found ≡ list_any is_short automaton.table.rows → IsTrue found ↔ LacksMove automaton
  lacks_where_short found is_found =
      (λ has. lacks_from_short (sym is_found ∙ has), λ lacks. is_found ∙ short_from_lacks lacks)
