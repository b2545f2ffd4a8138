-- The moves of a table backwards, one after another, and what leads to acceptance along them.
use Rattle.std.proofs.Common.{◌≡◌, ◌≢◌, ◌↔◌, ℕ, zero, suc, ◌+◌, ◌<◌, ◌≤◌, false, IsTrue, List, [], ◌∷◌, ◌++◌, length, get_or, All, refl, sym, ap, ◌∙◌, subst, inl, inr, arith}
use Rattle.std.proofs.lemmas.Bool.{cases_eq, cases_lt, true≢false}
use Rattle.std.proofs.lemmas.List.{length_push, get_or_push, get_or_default, get_or_append_left}
use Rattle.std.proofs.lemmas.List.Elements.{All-nil}
use Rattle.kb_fsa.specs.Table.{Table, IsTable, moves_of, is_accepting, step, after, AcceptsFrom, IsLive}
use Rattle.kb_fsa.specs.Canonical.{IsState}
use Rattle.kb_fsa.proofs.Lookups.{lookup_at, target_some, IsRow-moves_of, All-moves_of, entry_from_lookup, lookup_from_target, after_none, step_past}
use Rattle.kb_fsa.specs.Graphs.{end, IsMarked, IsReached, at_seed, along}
use Rattle.kb_fsa.specs.Moves.{IsBackward, HasEdge, AreBackward}

-- what the edges before it say stays with one more
kept : (edges : List (ℕ × ℕ)) (edge : ℕ × ℕ) (place : ℕ) → place < length edges
    → get_or (edges ++ edge ∷ []) place (0, 0) ≡ get_or edges place (0, 0)
kept edges edge place within = get_or_append_left edges (edge ∷ []) (0, 0) place within

module _ (table : Table) (edges : List (ℕ × ℕ)) (symbols : List ℕ) (edge : ℕ × ℕ) (symbol : ℕ) (one_each : length symbols ≡ length edges) where
  IsBackward-kept : (place : ℕ) → place < length edges → IsBackward table edges symbols place
      → IsBackward table (edges ++ edge ∷ []) (symbols ++ symbol ∷ []) place
  IsBackward-kept place within is =
      let same = kept edges edge place within in
      let also : get_or (symbols ++ symbol ∷ []) place 0 ≡ get_or symbols place 0 =
      get_or_append_left symbols (symbol ∷ []) 0 place (omega arith) in
      record {
        from_state = subst (λ (e : ℕ × ℕ). IsState table e.0) (sym same) is.from_state;
        to_state = subst (λ (e : ℕ × ℕ). IsState table e.1) (sym same) is.to_state;
        step = ap (λ (e : ℕ × ℕ). step table e.1 (get_or (symbols ++ symbol ∷ []) place 0)) same
            ∙ ap (step table (end edges place)) also ∙ is.step ∙ sym (ap (λ (e : ℕ × ℕ). e.0) same);
      }

  HasEdge-kept : (state place : ℕ) → HasEdge table edges symbols state place
      → HasEdge table (edges ++ edge ∷ []) (symbols ++ symbol ∷ []) state place
  HasEdge-kept state place has =
      let same = kept edges edge has.number has.within in
      let also : get_or (symbols ++ symbol ∷ []) has.number 0 ≡ get_or symbols has.number 0 =
      get_or_append_left symbols (symbol ∷ []) 0 has.number (omega (arith, has.within)) in
      record {
        number = has.number;
        within = omega (arith, has.within, length_push edges edge);
        symbol = also ∙ has.symbol;
        from_there = ap (λ (e : ℕ × ℕ). e.0) same ∙ has.from_there;
        to_state = ap (λ (e : ℕ × ℕ). e.1) same ∙ has.to_state;
      }

-- what a row says of its moves
move_to : (table : Table) (state place : ℕ) → IsTable table → place < length (moves_of table state)
    → IsState table (get_or (moves_of table state) place (0, 0)).1
move_to table state place is within =
    let row = IsRow-moves_of table state is in
    let targets = All-moves_of (λ moves. All (λ move. move.1 ≤ length table.rows) moves) table state
    (All-nil (λ (move : ℕ × ℕ). move.1 ≤ length table.rows)) is.targets in
    record { positive = (row.numbers place (0, 0) within).1; within = targets place (0, 0) within }

move_step : (table : Table) (state place : ℕ) → IsTable table → place < length (moves_of table state)
    → step table state (get_or (moves_of table state) place (0, 0)).0 ≡ (get_or (moves_of table state) place (0, 0)).1
move_step table state place is within =
    let row = IsRow-moves_of table state is in
    target_some (moves_of table state) _ _ (lookup_at (moves_of table state) place (0, 0) row.ascends within)

pub backward_none : (table : Table) → AreBackward table 1 0 [] []
backward_none table = record {
  one_each = refl;
  sound = λ place h. absurd (omega arith);
  complete = λ earlier place below h.
      let start : earlier ≡ 0 = omega arith in
      absurd (omega (arith, ap (λ s. length (moves_of table s)) start));
  begun = λ place h. absurd (omega arith);
}

-- one more move of the state
pub backward_move : (table : Table) (state done : ℕ) (edges : List (ℕ × ℕ)) (symbols : List ℕ) → IsTable table → IsState table state
    → done < length (moves_of table state) → AreBackward table state done edges symbols
    → AreBackward table state (done + 1) (edges ++ ((get_or (moves_of table state) done (0, 0)).1, state) ∷ [])
    (symbols ++ (get_or (moves_of table state) done (0, 0)).0 ∷ [])
backward_move table state done edges symbols is known within backward =
    let move = get_or (moves_of table state) done (0, 0) in
    let edge : ℕ × ℕ = (move.1, state) in
    let here = get_or_push edges edge (0, 0) (length edges) refl in
    let there = get_or_push symbols move.0 0 (length edges) backward.one_each in
    let newest : IsBackward table (edges ++ edge ∷ []) (symbols ++ move.0 ∷ []) (length edges) = record {
      from_state = subst (λ (e : ℕ × ℕ). IsState table e.0) (sym here) (move_to table state done is within);
      to_state = subst (λ (e : ℕ × ℕ). IsState table e.1) (sym here) known;
      step = ap (λ (e : ℕ × ℕ). step table e.1 (get_or (symbols ++ move.0 ∷ []) (length edges) 0)) here
          ∙ ap (step table state) there ∙ move_step table state done is within ∙ sym (ap (λ (e : ℕ × ℕ). e.0) here);
    } in
    record {
      one_each = length_push symbols move.0 ∙ ap (λ n. n + 1) backward.one_each ∙ sym (length_push edges edge);
      sound = λ place h. elim (cases_eq place (length edges)) [
        | inl last ↦ subst (IsBackward table (edges ++ edge ∷ []) (symbols ++ move.0 ∷ [])) (sym last) newest
        | inr before ↦
            let low : place < length edges = omega (arith, length_push edges edge) in
            IsBackward-kept table edges symbols edge move.0 backward.one_each place low (backward.sound place low)
      ];
      complete = λ earlier place below h.
          HasEdge-kept table edges symbols edge move.0 backward.one_each earlier place (backward.complete earlier place below h);
      begun = λ place h. elim (cases_eq place done) [
        | inl last ↦
            let P : ℕ → Type 0 = λ k. HasEdge table (edges ++ edge ∷ []) (symbols ++ move.0 ∷ []) state k in
            subst P (sym last) (record {
              number = length edges;
              within = omega (arith, length_push edges edge);
              symbol = there;
              from_there = ap (λ (e : ℕ × ℕ). e.0) here;
              to_state = ap (λ (e : ℕ × ℕ). e.1) here;
            })
        | inr before ↦
            HasEdge-kept table edges symbols edge move.0 backward.one_each state place (backward.begun place (omega arith))
      ];
    }

-- the moves of the state are taken
pub backward_row : (table : Table) (state done : ℕ) (edges : List (ℕ × ℕ)) (symbols : List ℕ) → done ≡ length (moves_of table state)
    → AreBackward table state done edges symbols → AreBackward table (suc state) 0 edges symbols
backward_row table state done edges symbols all backward = record {
  one_each = backward.one_each;
  sound = backward.sound;
  complete = λ earlier place below h. elim (cases_eq earlier state) [
    | inl here ↦
        let P : ℕ → Type 0 = λ s. HasEdge table edges symbols s place in
        subst P (sym here) (backward.begun place (omega (arith, ap (λ s. length (moves_of table s)) here)))
    | inr before ↦ backward.complete earlier place (omega arith) h
  ];
  begun = λ place h. absurd (omega arith);
}

pub backward_same : (table : Table) (state state' done done' : ℕ) (edges edges' : List (ℕ × ℕ)) (symbols symbols' : List ℕ)
    → state ≡ state' → done ≡ done' → edges ≡ edges' → symbols ≡ symbols'
    → AreBackward table state done edges symbols → AreBackward table state' done' edges' symbols'
backward_same table state state' done done' edges edges' symbols symbols' a b e f backward =
    let P : ℕ → Type 0 = λ s. AreBackward table s done' edges' symbols' in
    let Q : ℕ → Type 0 = λ d. AreBackward table state d edges' symbols' in
    let R : List (ℕ × ℕ) → Type 0 = λ es. AreBackward table state done es symbols' in
    let S : List ℕ → Type 0 = λ ss. AreBackward table state done edges ss in
    subst P a (subst Q b (subst R e (subst S f backward)))

-- each step to a state is along an edge
pub edge_from_step : (table : Table) (edges : List (ℕ × ℕ)) (symbols : List ℕ) → IsTable table
    → AreBackward table (suc (length table.rows)) 0 edges symbols
    → (state symbol : ℕ) → step table state symbol ≢ 0
    → (number : ℕ) × (number < length edges) × (get_or edges number (0, 0) ≡ (step table state symbol, state)) × (get_or symbols number 0 ≡ symbol)
edge_from_step table edges symbols is backward state symbol some =
    let to = step table state symbol in
    let found = lookup_from_target (moves_of table state) symbol to (omega arith) refl in
    let entry = entry_from_lookup (moves_of table state) symbol to found in
    let at : get_or (moves_of table state) entry.0 (0, 0) ≡ (symbol, to) =
    get_or_default (moves_of table state) entry.0 (0, 0) (symbol, to) entry.1 ∙ entry.2 in
    let known : state < suc (length table.rows) = elim (cases_lt (length table.rows) state) [
      | inl past ↦ absurd (some (step_past table state symbol past))
      | inr low ↦ omega arith
    ] in
    let edge = backward.complete state entry.0 known entry.1 in (
      edge.number,
      edge.within,
      pair_is (get_or edges edge.number (0, 0)) to state (edge.from_there ∙ ap (λ (m : ℕ × ℕ). m.1) at) edge.to_state,
      edge.symbol ∙ ap (λ (m : ℕ × ℕ). m.0) at,
    )
  where
    pair_is : (e : ℕ × ℕ) (a b : ℕ) → e.0 ≡ a → e.1 ≡ b → e ≡ (a, b)
    pair_is e a b one two = ap (λ v. (v, e.1)) one ∙ ap (λ w. (a, w)) two

-- ---- what leads to acceptance

module _ (table : Table) (edges : List (ℕ × ℕ)) (symbols : List ℕ) (is : IsTable table)
    (backward : AreBackward table (suc (length table.rows)) 0 edges symbols) where
  seed_accepts : (state : ℕ) → IsMarked (false ∷ table.accepting) state ↔ IsTrue (is_accepting table state)
  seed_accepts zero = (λ h. h, λ h. h)
  seed_accepts (suc place) = (λ h. h, λ h. h)

  live_from_reached : (state : ℕ) → IsReached edges (false ∷ table.accepting) state → IsLive table state
  live_from_reached state (at_seed mark) = ([], (seed_accepts state).0 mark)
  live_from_reached state (along {x = x} reached edge) =
      let rest = live_from_reached x reached in
      let back = backward.sound edge.0 edge.1 in
      let at : get_or edges edge.0 (0, 0) ≡ (x, state) = get_or_default edges edge.0 (0, 0) (x, state) edge.1 ∙ edge.2 in
      let moved : step table state (get_or symbols edge.0 0) ≡ x =
      sym (ap (λ (e : ℕ × ℕ). step table e.1 (get_or symbols edge.0 0)) at) ∙ back.step ∙ ap (λ (e : ℕ × ℕ). e.0) at in
      let P : ℕ → Type 0 = λ s. AcceptsFrom table s rest.0 in
      (get_or symbols edge.0 0 ∷ rest.0, subst P (sym moved) rest.1)

  reached_from_text : (state : ℕ) (text : List ℕ) → AcceptsFrom table state text → IsReached edges (false ∷ table.accepting) state
  reached_from_text state [] accepts = at_seed ((seed_accepts state).1 accepts)
  reached_from_text state (symbol ∷ text) accepts =
      let to = step table state symbol in
      let some : to ≢ 0 = λ none.
      true≢false (sym accepts ∙ ap (λ s. is_accepting table (after table s text)) none ∙ ap (is_accepting table) (after_none table text)) in
      let edge = edge_from_step table edges symbols is backward state symbol some in
      along (reached_from_text to text accepts) (edge.0, edge.1, get_or_default edges edge.0 (to, state) (0, 0) edge.1 ∙ edge.2)

  pub live_is_reached : (state : ℕ) → IsReached edges (false ∷ table.accepting) state ↔ IsLive table state
  live_is_reached state = (live_from_reached state, λ live. reached_from_text state live.0 live.1)

-- the moves of a state stand in its row
pub row_at : (table : Table) (place state : ℕ) → state ≡ suc place → get_or table.rows place [] ≡ moves_of table state
row_at table place state is = ap (moves_of table) (sym is)
