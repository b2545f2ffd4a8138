-- Where the rest of a second word, after the first word, leads to acceptance.
use Rattle.std.proofs.Common.{◌≡◌, ◌↔◌, ℕ, zero, suc, ◌+◌, ◌-◌, ◌*◌, ◌<◌, ◌≤◌, Bool, false, IsTrue, List, [], ◌∷◌, length, get_or, drop, refl, sym, ap, ◌∙◌, subst, inl, inr, arith}
use Rattle.std.specs.List.{All, Contains}
use Rattle.std.proofs.lemmas.Bool.{cases_lt, false≢true}
use Rattle.std.proofs.lemmas.List.{get_or_past, get_or-drop, length-drop}
use Rattle.std.proofs.lemmas.List.Elements.{All-nil, All-cons, All-head, All-tail, All-contains}
use Rattle.kb_word.specs.Relations.{IsOver}
use Rattle.kb_fsa.specs.Table.{Moves, Table, IsTable, HasSymbols, AcceptsFrom, moves_of, step, after, is_accepting}
use Rattle.kb_fsa.specs.PairSymbols.{pair_symbol}
use Rattle.kb_fsa.specs.Padding.{padded}
use Rattle.kb_fsa.proofs.PairSymbolLaws.{first_letter-pair_symbol, with_second, letter_beside_padding}
use Rattle.kb_fsa.proofs.Lookups.{All-moves_of, IsRow-moves_of, after_none, entry_from_lookup, lookup_from_entry, lookup_from_target, target_some}
use Rattle.kb_fsa.specs.Graphs.{IsMarked, IsReached, at_seed, along}
use Rattle.kb_fsadet.specs.FirstWords.{tail_edges, EndsFrom, AreEnds}
use Rattle.kb_fsadet.proofs.Sets.{All-from_contains, Contains-none}
use Rattle.kb_fsadet.proofs.FirstWordLemmas.{IsTail-from_edge, edge_from_tail}

module _ (n : ℕ) (table : Table) (is : IsTable table) (within : HasSymbols ((n + 1) * (n + 1) - 1) table) where
  abbrev edges : List (ℕ × ℕ)
  edges = tail_edges n 1 table.rows

  abbrev seeds : List Bool
  seeds = false ∷ table.accepting

  -- what is known of a state's move
  pub known : (state symbol to : ℕ) → Contains (moves_of table state) (symbol, to)
      → (0 < symbol) × ((symbol ≤ (n + 1) * (n + 1) - 1) × ((0 < to) × (to ≤ length table.rows)))
  known state symbol to move =
      let numbers = All-contains (λ (m : ℕ × ℕ). (0 < m.0) × (0 < m.1)) (moves_of table state) (symbol, to) (IsRow-moves_of table state is).numbers move in
      let P = λ (m : ℕ × ℕ). m.0 ≤ (n + 1) * (n + 1) - 1 in
      let Q = λ (m : ℕ × ℕ). m.1 ≤ length table.rows in (
        numbers.0,
        (
          All-contains P (moves_of table state) (symbol, to) (All-moves_of (All P) table state (All-nil P) within) move,
          (numbers.1, All-contains Q (moves_of table state) (symbol, to) (All-moves_of (All Q) table state (All-nil Q) is.targets) move),
        ),
      )

  -- what has a move is a state
  state_within : (place : ℕ) (move : ℕ × ℕ) → Contains (get_or table.rows place []) move → place < length table.rows
  state_within place move at =
      elim (cases_lt place (length table.rows)) [
        | inl low ↦ low
        | inr past ↦
            let P : Moves → Type 0 = λ moves. Contains moves move in
            absurd (Contains-none move (subst P (get_or_past table.rows place [] past) at))
      ]

  pub edges_within : All (λ edge. (edge.0 < suc (length table.rows)) × (edge.1 < suc (length table.rows))) edges
  edges_within =
      All-from_contains (λ (edge : ℕ × ℕ). (edge.0 < suc (length table.rows)) × (edge.1 < suc (length table.rows))) edges (λ edge at.
      let tail = IsTail-from_edge n 1 table.rows edge.0 edge.1 at in
      let low = state_within tail.place (tail.symbol, edge.0) tail.move in
      let to = known (suc tail.place) tail.symbol edge.0 tail.move in
      let state = tail.is_state in
      (omega (arith, to.1.1.1), omega arith))

  seed_accepts : (state : ℕ) → IsMarked seeds state → IsTrue (is_accepting table state)
  seed_accepts zero mark = absurd (false≢true mark)
  seed_accepts (suc place) mark = mark

  accepting_is_seed : (state : ℕ) → IsTrue (is_accepting table state) → IsMarked seeds state
  accepting_is_seed zero accepts = absurd (false≢true accepts)
  accepting_is_seed (suc place) accepts = accepts

  ends_from_reached : (state : ℕ) → IsReached edges seeds state → EndsFrom n table state
  ends_from_reached state (at_seed mark) = ([], (All-nil (λ x. (0 < x) × (x ≤ n)), seed_accepts state mark))
  ends_from_reached state (along {x = next} reached edge) =
      let rest = ends_from_reached next reached in
      let tail = IsTail-from_edge n 1 table.rows next state edge in
      let number = suc tail.place in
      let from = known number tail.symbol next tail.move in
      let second = with_second n tail.symbol from.0 in
      let symbol_is : tail.symbol ≡ pair_symbol n (n + 1) second.0 =
      second.1.0 ∙ ap (λ i. pair_symbol n i second.0) tail.first_is in
      let letter = letter_beside_padding n tail.symbol second.0 (from.0, from.1.0) symbol_is in
      let leads : step table number tail.symbol ≡ next =
      target_some (moves_of table number) tail.symbol next
      (lookup_from_entry (moves_of table number) tail.symbol next (IsRow-moves_of table number is).ascends tail.move) in
      let state_is : number ≡ state = (let place = tail.is_state in omega arith) in
      let step_is : next ≡ step table state (pair_symbol n (n + 1) second.0) =
      sym leads ∙ ap (λ s. step table s tail.symbol) state_is ∙ ap (step table state) symbol_is in
      let P : ℕ → Type 0 = λ s. AcceptsFrom table s (padded n [] rest.0) in (
        second.0 ∷ rest.0,
        (All-cons (λ x. (0 < x) × (x ≤ n)) second.0 rest.0 (second.1.1.0, letter) rest.1.0, subst P step_is rest.1.1),
      )

  reached_from_ends : (second : List ℕ) (state : ℕ) → IsOver n second → AcceptsFrom table state (padded n [] second)
      → IsReached edges seeds state
  reached_from_ends [] state over accepts = at_seed (accepting_is_seed state accepts)
  reached_from_ends (j ∷ second) zero over accepts =
      absurd (false≢true (sym (ap (is_accepting table) (after_none table (padded n [] second))) ∙ accepts))
  reached_from_ends (j ∷ second) (suc place) over accepts =
      let letter = All-head (λ x. (0 < x) × (x ≤ n)) j second over in
      let symbol = pair_symbol n (n + 1) j in
      let next = step table (suc place) symbol in
      let rest = reached_from_ends second next (All-tail (λ x. (0 < x) × (x ≤ n)) j second over) accepts in
      let positive : 0 < next = elim (cases_lt 0 next) [
        | inl some ↦ some
        | inr none ↦
            let no : next ≡ 0 = omega arith in
            absurd (false≢true (sym (ap (is_accepting table) (ap (λ s. after table s (padded n [] second)) no ∙ after_none table (padded n [] second))) ∙ accepts))
      ] in
      let entry = entry_from_lookup (moves_of table (suc place)) symbol next
      (lookup_from_target (moves_of table (suc place)) symbol next positive refl) in
      let edge = edge_from_tail n 1 table.rows place symbol next entry (first_letter-pair_symbol n (n + 1) j (omega arith) (letter.0, omega (arith, letter.1))) in
      let P : ℕ → Type 0 = λ s. Contains edges (next, s) in
      along rest (subst P (let back : 1 + place ≡ suc place = omega arith in back) edge)

  -- the marks of the states, without that of no state
  pub are_ends : (marks : List Bool) → length marks ≡ suc (length table.rows) → ((state : ℕ) → IsMarked marks state ↔ IsReached edges seeds state)
      → AreEnds n table (drop 1 marks)
  are_ends marks long reached = record {
    one_each = omega (arith, length-drop 1 marks);
    ends = λ place.
        let same : get_or (drop 1 marks) place false ≡ get_or marks (suc place) false =
        get_or-drop 1 marks place false ∙ ap (λ k. get_or marks k false) (let back : 1 + place ≡ suc place = omega arith in back) in (
          λ yes. ends_from_reached (suc place) ((reached (suc place)).0 (sym same ∙ yes)),
          λ ends. same ∙ (reached (suc place)).1 (reached_from_ends ends.0 (suc place) ends.1.0 ends.1.1),
        );
  }
