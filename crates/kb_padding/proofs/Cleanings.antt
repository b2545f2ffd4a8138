-- The table without the moves that no padded text takes.
use Rattle.std.proofs.Common.{◌≡◌, ◌≢◌, ◌↔◌, ℕ, zero, suc, ◌+◌, ◌-◌, ◌*◌, ◌<◌, ◌≤◌, Bool, true, false, not, nat_eq, IsTrue, if◌then◌else◌, List, [], ◌∷◌, ◌++◌, length, get_or, All, None, refl, sym, ap, ◌∙◌, subst, inl, inr, arith}
use Rattle.std.specs.List.{filter}
use Rattle.std.specs.Option.{unwrap_or}
use Rattle.std.proofs.lemmas.Bool.{cases_eq, cases_Bool, false≢true, true≢false, or_cases, or_left, or_right, or_parts, eqb-true, eqb-false, eq-eqb, not-true, not_from_false}
use Rattle.std.proofs.lemmas.List.Elements.{All-nil, All-cons, All-head, All-tail, All-filter, All-contains, filter_passes}
use Rattle.std.proofs.lemmas.List.Kept.{AllPairs-filter}
use Rattle.kb_fsa.specs.Table.{Moves, lookup, target, IsRow, Table, IsTable, HasSymbols, moves_of, is_accepting, step, after, state_after, AcceptsFrom, IsLive}
use Rattle.kb_fsa.specs.Padding.{IsPadded}
use Rattle.kb_fsa.proofs.Lookups.{lookup_here, lookup_there, entry_from_lookup, lookup_from_target, target_none, after-append, after_none, accepting_positive, All-moves_of, IsRow-moves_of}
use Rattle.kb_fsa.specs.Graphs.{source, end, IsMarked}
use Rattle.kb_fsa.specs.Moves.{AreBackward}
use Rattle.kb_fsa.proofs.MoveLemmas.{edge_from_step}
use Rattle.kb_padding.specs.Misplaced.{IsMisplaced, IsDropped, IsWithoutMisplaced}
use Rattle.kb_padding.specs.Cleaning.{AreReachMarks, is_misplaced, IsAccepted, is_dropped, kept_rows}
use Rattle.kb_padding.proofs.PaddedTexts.{IsSymbol, IsInPlace, in_place_from_padded, padded_from_in_place}
use Rattle.kb_padding.proofs.PaddingReach.{misplaced_from_true, true_from_misplaced}

-- ---- along a text

-- each symbol of a text that leads to a state is that of a move
symbols_along : (n : ℕ) (table : Table) (is : IsTable table) (bounded : HasSymbols ((n + 1) * (n + 1)) table) (state : ℕ) (text : List ℕ)
    → after table state text ≢ 0 → All (IsSymbol n) text
symbols_along n table is bounded state [] some = All-nil (IsSymbol n)
symbols_along n table is bounded state (symbol ∷ text) some =
    let to = step table state symbol in
    let moves : to ≢ 0 = λ none. some (ap (λ s. after table s text) none ∙ after_none table text) in
    let found = lookup_from_target (moves_of table state) symbol to (omega arith) refl in
    let entry = entry_from_lookup (moves_of table state) symbol to found in
    let row = IsRow-moves_of table state is in
    let some_numbers = All-contains (λ (move : ℕ × ℕ). (0 < move.0) × (0 < move.1)) (moves_of table state) (symbol, to) row.numbers entry in
    let low = All-contains (λ (move : ℕ × ℕ). move.0 ≤ (n + 1) * (n + 1)) (moves_of table state) (symbol, to)
    (All-moves_of (λ (row : Moves). All (λ (move : ℕ × ℕ). move.0 ≤ (n + 1) * (n + 1)) row) table state (All-nil (λ (move : ℕ × ℕ). move.0 ≤ (n + 1) * (n + 1))) bounded) entry in
    All-cons (IsSymbol n) symbol text (some_numbers.0, low) (symbols_along n table is bounded to text some)

-- where a text leads to a state, it takes a move by each of its symbols
move_within : (table : Table) (front : List ℕ) (symbol : ℕ) (back : List ℕ) → state_after table (front ++ symbol ∷ back) ≢ 0
    → step table (state_after table front) symbol ≢ 0
move_within table front symbol back some none =
    some (after-append table table.initial front (symbol ∷ back) ∙ ap (λ s. after table s back) none ∙ after_none table back)

accepted_leads : (table : Table) (text : List ℕ) → AcceptsFrom table table.initial text → state_after table text ≢ 0
accepted_leads table text accepts none =
    let positive = accepting_positive table (state_after table text) accepts in let gone = none in absurd (let no : ⊥ = omega arith in no)

-- ---- accepted texts

module _ (n : ℕ) (table : Table) (edges : List (ℕ × ℕ)) (symbols : List ℕ) (is : IsTable table)
    (backward : AreBackward table (suc (length table.rows)) 0 edges symbols) (marks first second live : List Bool)
    (reached : AreReachMarks n table marks first second) (are_live : (state : ℕ) → IsMarked live state ↔ IsLive table state) where
  -- a misplaced move that leads to acceptance lies on an accepted text that isn't padded
  pub unpadded_text : (place : ℕ) → IsAccepted n edges symbols marks first second live place
      → (text : List ℕ) × AcceptsFrom table table.initial text × ¬ IsPadded n text
  unpadded_text place accepted =
      let state = end edges place in
      let symbol = get_or symbols place 0 in
      let back = backward.sound place accepted.within in
      let moves : step table state symbol ≢ 0 = λ none. (let positive = back.from_state.positive in let step = back.step in omega arith) in
      let misplaced = misplaced_from_true n table marks first second reached state symbol moves accepted.misplaced in
      let rest = (are_live (source edges place)).0 accepted.live_target in
      let P : ℕ → Type 0 = λ s. IsTrue (is_accepting table s) in
      let leads : state_after table (misplaced.text ++ symbol ∷ rest.0) ≡ after table (source edges place) rest.0 =
      after-append table table.initial misplaced.text (symbol ∷ rest.0) ∙ ap (λ s. after table (step table s symbol) rest.0) misplaced.leads
      ∙ ap (λ s. after table s rest.0) back.step in (
        misplaced.text ++ symbol ∷ rest.0,
        subst P (sym leads) rest.1,
        λ padded. in_place_from_padded n (misplaced.text ++ symbol ∷ rest.0) padded misplaced.text symbol rest.0 refl misplaced.out_of_place,
      )

  -- where there is none, each accepted text is padded
  pub padded_where_accepted : HasSymbols ((n + 1) * (n + 1)) table → ((place : ℕ) → ¬ IsAccepted n edges symbols marks first second live place)
      → (text : List ℕ) → AcceptsFrom table table.initial text → IsPadded n text
  padded_where_accepted bounded none text accepts =
      let some = accepted_leads table text accepts in
      padded_from_in_place n text (symbols_along n table is bounded table.initial text some) in_place
    where
      in_place : IsInPlace n text
      in_place front symbol back split out =
          let some : state_after table (front ++ symbol ∷ back) ≢ 0 = λ gone. accepted_leads table text accepts (ap (state_after table) split ∙ gone) in
          let state = state_after table front in
          let moves = move_within table front symbol back some in
          let misplaced : IsMisplaced n table state symbol = record { text = front; leads = refl; some = moves; out_of_place = out } in
          let edge = edge_from_step table edges symbols is backward state symbol moves in
          let from : end edges edge.0 ≡ state = ap (λ (e : ℕ × ℕ). e.1) edge.2 in
          let to : source edges edge.0 ≡ step table state symbol = ap (λ (e : ℕ × ℕ). e.0) edge.2 in
          let P : ℕ → Type 0 = λ s. IsTrue (is_accepting table s) in
          let L : ℕ → Type 0 = λ s. IsMarked live s in
          let leads : state_after table text ≡ after table (step table state symbol) back =
          ap (state_after table) split ∙ after-append table table.initial front (symbol ∷ back) in
          none edge.0 (record {
            within = edge.1;
            misplaced =
                ap (λ s. is_misplaced n marks first second s (get_or symbols edge.0 0)) from ∙ ap (is_misplaced n marks first second state) edge.3
                ∙ true_from_misplaced n table marks first second reached state symbol misplaced;
            live_target = subst L (sym to) ((are_live (step table state symbol)).1 (back, subst P leads accepts));
          })

-- ---- rows without some of their moves

module _ (keeps : ℕ → Bool) where
  abbrev kept : Moves → Moves
  kept moves = filter (λ (move : ℕ × ℕ). keeps move.0) moves

  here_kept : (move : ℕ × ℕ) (moves : Moves) → keeps move.0 ≡ true → kept (move ∷ moves) ≡ move ∷ kept moves
  here_kept move moves keep = ap (λ (b : Bool). if b then move ∷ kept moves else kept moves) keep

  here_dropped : (move : ℕ × ℕ) (moves : Moves) → keeps move.0 ≡ false → kept (move ∷ moves) ≡ kept moves
  here_dropped move moves drop = ap (λ (b : Bool). if b then move ∷ kept moves else kept moves) drop

  lookup_kept : (moves : Moves) (symbol : ℕ) → keeps symbol ≡ true → lookup (kept moves) symbol ≡ lookup moves symbol
  lookup_kept [] symbol keep = refl
  lookup_kept (move ∷ moves) symbol keep =
      elim (cases_eq move.0 symbol) [
        | inl same ↦
            ap (λ ms. lookup ms symbol) (here_kept move moves (ap keeps same ∙ keep)) ∙ lookup_here move (kept moves) symbol same
            ∙ sym (lookup_here move moves symbol same)
        | inr other ↦ elim (cases_Bool (keeps move.0)) [
          | inl stays ↦
              ap (λ ms. lookup ms symbol) (here_kept move moves stays) ∙ lookup_there move (kept moves) symbol other
              ∙ lookup_kept moves symbol keep ∙ sym (lookup_there move moves symbol other)
          | inr goes ↦
              ap (λ ms. lookup ms symbol) (here_dropped move moves goes) ∙ lookup_kept moves symbol keep
              ∙ sym (lookup_there move moves symbol other)
        ]
      ]

  lookup_dropped : (moves : Moves) (symbol : ℕ) → keeps symbol ≡ false → lookup (kept moves) symbol ≡ None
  lookup_dropped [] symbol drop = refl
  lookup_dropped (move ∷ moves) symbol drop =
      elim (cases_Bool (keeps move.0)) [
        | inl stays ↦
            ap (λ ms. lookup ms symbol) (here_kept move moves stays)
            ∙ lookup_there move (kept moves) symbol (λ same. true≢false (sym stays ∙ ap keeps same ∙ drop))
            ∙ lookup_dropped moves symbol drop
        | inr goes ↦ ap (λ ms. lookup ms symbol) (here_dropped move moves goes) ∙ lookup_dropped moves symbol drop
      ]

  pub IsRow-kept : (moves : Moves) → IsRow moves → IsRow (filter (λ move. keeps move.0) moves)
  IsRow-kept moves row = record {
    ascends = AllPairs-filter (λ (e : ℕ × ℕ) (later : ℕ × ℕ). e.0 < later.0) (λ move. keeps move.0) moves row.ascends;
    numbers = All-filter (λ move. keeps move.0) (λ (move : ℕ × ℕ). (0 < move.0) × (0 < move.1)) moves row.numbers;
  }

module _ (dropped : ℕ → ℕ → Bool) where
  kept_row_at : (rows : List Moves) (start place : ℕ)
      → get_or (kept_rows dropped start rows) place [] ≡ filter (λ (move : ℕ × ℕ). not (dropped (start + place) move.0)) (get_or rows place [])
  kept_row_at [] start place = refl
  kept_row_at (row ∷ rows) start zero =
      ap (λ s. filter (λ (move : ℕ × ℕ). not (dropped s move.0)) row) (let e : start ≡ start + 0 = omega arith in e)
  kept_row_at (row ∷ rows) start (suc place) =
      kept_row_at rows (suc start) place
      ∙ ap (λ s. filter (λ (move : ℕ × ℕ). not (dropped s move.0)) (get_or rows place [])) (let e : suc start + place ≡ start + suc place = omega arith in e)

  kept_rows_length : (rows : List Moves) (start : ℕ) → length (kept_rows dropped start rows) ≡ length rows
  kept_rows_length [] start = refl
  kept_rows_length (row ∷ rows) start = ap suc (kept_rows_length rows (suc start))

  -- one row more
  pub kept_rows-push : (rows : List Moves) (start state : ℕ) (row : Moves) → state ≡ start + length rows
      → kept_rows dropped start (rows ++ row ∷ []) ≡ kept_rows dropped start rows ++ filter (λ (move : ℕ × ℕ). not (dropped state move.0)) row ∷ []
  kept_rows-push [] start state row is =
      ap (λ s. filter (λ (move : ℕ × ℕ). not (dropped s move.0)) row ∷ []) (let e : start ≡ state = omega arith in e)
  kept_rows-push (first ∷ rows) start state row is =
      ap (λ kept. filter (λ (move : ℕ × ℕ). not (dropped start move.0)) first ∷ kept) (kept_rows-push rows (suc start) state row (omega arith))

  -- what holds of each row, and of a row without some of its moves where it holds of the row, holds of each kept one
  all_kept : (P Q : Moves → Type 0) → ((state : ℕ) (row : Moves) → P row → Q (filter (λ (move : ℕ × ℕ). not (dropped state move.0)) row))
      → (rows : List Moves) (start : ℕ) → All P rows → All Q (kept_rows dropped start rows)
  all_kept P Q stays [] start all = All-nil Q
  all_kept P Q stays (row ∷ rows) start all =
      All-cons Q (filter (λ (move : ℕ × ℕ). not (dropped start move.0)) row) (kept_rows dropped (suc start) rows)
      (stays start row (All-head P row rows all)) (all_kept P Q stays rows (suc start) (All-tail P row rows all))

  abbrev without : Table → Table
  without table = record { initial = table.initial; rows = kept_rows dropped 1 table.rows; accepting = table.accepting }

  pub IsTable-without : (table : Table) → IsTable table
      → IsTable (record { initial = table.initial; rows = kept_rows dropped 1 table.rows; accepting = table.accepting })
  IsTable-without table is =
      let long = kept_rows_length table.rows 1 in
      let size = is.size in let initial = is.initial in let one = is.one_answer_each in
      record {
        one_answer_each = omega arith;
        size = omega arith;
        initial = omega arith;
        rows = all_kept IsRow IsRow (λ state row here. IsRow-kept (λ symbol. not (dropped state symbol)) row here) table.rows 1 is.rows;
        targets = all_kept (All (λ (move : ℕ × ℕ). move.1 ≤ length table.rows)) (All (λ (move : ℕ × ℕ). move.1 ≤ length (kept_rows dropped 1 table.rows)))
            (λ state row here. All-filter (λ (move : ℕ × ℕ). not (dropped state move.0)) (λ (move : ℕ × ℕ). move.1 ≤ length (kept_rows dropped 1 table.rows)) row
            (λ k d h. (let low = here k d h in omega arith)))
            table.rows 1 is.targets;
      }

  moves_without : (table : Table) (state : ℕ) → moves_of (without table) state ≡ filter (λ (move : ℕ × ℕ). not (dropped state move.0)) (moves_of table state)
  moves_without table zero = refl
  moves_without table (suc place) =
      kept_row_at table.rows 1 place
      ∙ ap (λ s. filter (λ (move : ℕ × ℕ). not (dropped s move.0)) (get_or table.rows place [])) (let e : 1 + place ≡ suc place = omega arith in e)

  step_kept : (table : Table) (state symbol : ℕ) → dropped state symbol ≡ false → step (without table) state symbol ≡ step table state symbol
  step_kept table state symbol stays =
      ap (λ ms. target ms symbol) (moves_without table state)
      ∙ ap (λ o. unwrap_or o 0) (lookup_kept (λ x. not (dropped state x)) (moves_of table state) symbol (not_from_false (dropped state symbol) stays))

  step_dropped : (table : Table) (state symbol : ℕ) → dropped state symbol ≡ true → step (without table) state symbol ≡ 0
  step_dropped table state symbol goes =
      ap (λ ms. target ms symbol) (moves_without table state)
      ∙ target_none (filter (λ (move : ℕ × ℕ). not (dropped state move.0)) (moves_of table state)) symbol
      (lookup_dropped (λ x. not (dropped state x)) (moves_of table state) symbol (ap not goes))

  -- where a text leads to a state, it led there before
  after_without : (table : Table) (state : ℕ) (text : List ℕ) → after (without table) state text ≢ 0
      → after table state text ≡ after (without table) state text
  after_without table state [] some = refl
  after_without table state (symbol ∷ text) some =
      elim (cases_Bool (dropped state symbol)) [
        | inl goes ↦
            absurd (some (ap (λ s. after (without table) s text) (step_dropped table state symbol goes) ∙ after_none (without table) text))
        | inr stays ↦
            let same = step_kept table state symbol stays in
            ap (λ s. after table s text) (sym same) ∙ after_without table (step (without table) state symbol) text some
      ]

-- ---- the table without the moves that are dropped

module _ (n : ℕ) (table : Table) (marks first second : List Bool) (is : IsTable table) (reached : AreReachMarks n table marks first second) where
  goes : ℕ → ℕ → Bool
  goes = is_dropped n marks first second

  cleaned : Table
  cleaned = record { initial = table.initial; rows = kept_rows (is_dropped n marks first second) 1 table.rows; accepting = table.accepting }

  dropped_goes : (state symbol : ℕ) → IsDropped n table state symbol → goes state symbol ≡ true
  unfolding goes
  dropped_goes state symbol (inl misplaced) =
      or_left (is_misplaced n marks first second state symbol) (nat_eq symbol ((n + 1) * (n + 1)))
      (true_from_misplaced n table marks first second reached state symbol misplaced)
  dropped_goes state symbol (inr last) =
      or_right (is_misplaced n marks first second state symbol) (nat_eq symbol ((n + 1) * (n + 1))) (eq-eqb symbol ((n + 1) * (n + 1)) last)

  step_stays : (state symbol : ℕ) → ¬ IsDropped n table state symbol → step cleaned state symbol ≡ step table state symbol
  unfolding goes cleaned
  step_stays state symbol stays =
      elim (cases_Bool (goes state symbol)) [
        | inr left ↦ step_kept goes table state symbol left
        | inl away ↦ elim (or_cases (is_misplaced n marks first second state symbol) (nat_eq symbol ((n + 1) * (n + 1))) away) [
          | inr last ↦ absurd (stays (inr (eqb-true symbol ((n + 1) * (n + 1)) last)))
          | inl misplaced ↦ elim (cases_eq (step table state symbol) 0) [
            | inl none ↦ step_dropped goes table state symbol away ∙ sym none
            | inr moves ↦ absurd (stays (inl (misplaced_from_true n table marks first second reached state symbol moves misplaced)))
          ]
        ]
      ]

  pub without_misplaced_moves : IsWithoutMisplaced n table
      (record { initial = table.initial; rows = kept_rows (is_dropped n marks first second) 1 table.rows; accepting = table.accepting })
  unfolding goes cleaned
  without_misplaced_moves = record {
    is_table = IsTable-without goes table is;
    initial = refl;
    accepting = refl;
    size = kept_rows_length goes table.rows 1;
    dropped = λ state symbol drop. step_dropped goes table state symbol (dropped_goes state symbol drop);
    kept = step_stays;
  }

  pub texts_without : HasSymbols ((n + 1) * (n + 1)) table → (text : List ℕ)
      → state_after (record { initial = table.initial; rows = kept_rows (is_dropped n marks first second) 1 table.rows; accepting = table.accepting }) text ≢ 0
      → IsPadded n text
  unfolding goes cleaned
  texts_without bounded text some =
      padded_from_in_place n text
      (symbols_along n table is bounded table.initial text (λ none. some (sym (after_without goes table table.initial text some) ∙ none)))
      in_place
    where
      in_place : IsInPlace n text
      in_place front symbol back split out =
          let leads : state_after cleaned (front ++ symbol ∷ back) ≢ 0 = λ none. some (ap (state_after cleaned) split ∙ none) in
          let moves = move_within cleaned front symbol back leads in
          let there : state_after cleaned front ≢ 0 = λ none. moves (ap (λ s. step cleaned s symbol) none) in
          let same = after_without goes table table.initial front there in
          elim (cases_Bool (goes (state_after cleaned front) symbol)) [
            | inl away ↦ moves (step_dropped goes table (state_after cleaned front) symbol away)
            | inr left ↦
                let misplaced : IsMisplaced n table (state_after cleaned front) symbol = record {
                  text = front;
                  leads = same;
                  some = λ none. moves (step_kept goes table (state_after cleaned front) symbol left ∙ none);
                  out_of_place = out;
                } in
                false≢true (sym left ∙ dropped_goes (state_after cleaned front) symbol (inl misplaced))
          ]

  -- two paddings are no symbol any more
  pub symbols_without : HasSymbols ((n + 1) * (n + 1)) table
      → HasSymbols ((n + 1) * (n + 1) - 1)
      (record { initial = table.initial; rows = kept_rows (is_dropped n marks first second) 1 table.rows; accepting = table.accepting })
  unfolding goes
  symbols_without bounded =
      all_kept goes (All (λ (move : ℕ × ℕ). move.0 ≤ (n + 1) * (n + 1))) (All (λ (move : ℕ × ℕ). move.0 ≤ (n + 1) * (n + 1) - 1)) fewer table.rows 1 bounded
    where
      fewer : (state : ℕ) (row : Moves) → All (λ (move : ℕ × ℕ). move.0 ≤ (n + 1) * (n + 1)) row
          → All (λ (move : ℕ × ℕ). move.0 ≤ (n + 1) * (n + 1) - 1) (filter (λ (move : ℕ × ℕ). not (goes state move.0)) row)
      fewer state row low k d within =
          let at_most = All-filter (λ (move : ℕ × ℕ). not (goes state move.0)) (λ (move : ℕ × ℕ). move.0 ≤ (n + 1) * (n + 1)) row low k d within in
          let move = get_or (filter (λ (m : ℕ × ℕ). not (goes state m.0)) row) k d in
          let stays = filter_passes (λ (m : ℕ × ℕ). not (goes state m.0)) row k d within in
          let parts = or_parts (is_misplaced n marks first second state move.0) (nat_eq move.0 ((n + 1) * (n + 1))) (not-true (goes state move.0) stays) in
          let other = eqb-false move.0 ((n + 1) * (n + 1)) parts.1 in
          omega arith
