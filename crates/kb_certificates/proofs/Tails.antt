-- Where letters of the second word alone lead to acceptance.
use Rattle.std.proofs.Common.{◌≡◌, ◌↔◌, ℕ, zero, suc, ◌+◌, ◌<◌, ◌≤◌, Bool, false, IsTrue, List, [], ◌∷◌, length, get_or, drop, refl, sym, ap, ◌∙◌, subst, inl, inr, arith}
use Rattle.std.specs.List.{All, Contains}
use Rattle.std.proofs.lemmas.Bool.{cases_lt, false≢true}
use Rattle.std.proofs.lemmas.List.{get_or_past, get_or-drop, length-drop}
use Rattle.std.proofs.lemmas.List.Elements.{All-nil, All-cons, All-head, All-tail, All-contains, All-get_or}
use Rattle.kb_word.specs.Relations.{IsOver}
use Rattle.kb_fsa.specs.declared.alphabet.Alphabet.{Alphabet}
use Rattle.kb_fsa.specs.declared.alphabet.Alphabet.TheVariants.{Pair}
use Rattle.kb_fsa.specs.Table.{Moves}
use Rattle.kb_fsa.specs.Language.{symbols}
use Rattle.kb_fsa.specs.PairSymbols.{pair_symbol, pair_symbols}
use Rattle.kb_fsa.specs.Padding.{padded}
use Rattle.kb_fsa.specs.Graphs.{IsMarked, IsReached, at_seed, along}
use Rattle.kb_fsa.proofs.PairSymbolLaws.{first_letter-pair_symbol, with_second, letter_beside_padding}
use Rattle.kb_fsadet.specs.Nondeterministic.{Nondeterministic, IsNondeterministic, IsOneOf, accepts_at, moves_from}
use Rattle.kb_fsadet.specs.FirstWords.{tail_edges}
use Rattle.kb_fsadet.proofs.Sets.{All-from_contains, Contains-none}
use Rattle.kb_fsadet.proofs.FirstWordLemmas.{IsTail-from_edge, edge_from_tail}
use Rattle.kb_certificates.specs.FirstWords.{AcceptsFrom, AreEnds, EndsFrom}

module _ (n : ℕ) (pairs : Nondeterministic) (is : IsNondeterministic pairs) (pair : pairs.alphabet ≡ Pair n) where
  abbrev edges : List (ℕ × ℕ)
  edges = tail_edges n 1 pairs.rows

  abbrev seeds : List Bool
  seeds = false ∷ pairs.accepting

  abbrev Known : ℕ × ℕ → Type 0
  Known move = IsOneOf (pair_symbols n) move.0 × IsOneOf (length pairs.rows) move.1

  all_known : All (All Known) pairs.rows
  all_known =
      let P : Alphabet → Type 0 = λ a. All (All (λ move. IsOneOf (symbols a) move.0 × IsOneOf (length pairs.rows) move.1)) pairs.rows in
      subst P pair is.moves

  -- what has a move is a state
  state_within : (place : ℕ) (move : ℕ × ℕ) → Contains (get_or pairs.rows place []) move → place < length pairs.rows
  state_within place move at =
      elim (cases_lt place (length pairs.rows)) [
        | inl low ↦ low
        | inr past ↦
            let P : Moves → Type 0 = λ moves. Contains moves move in
            absurd (Contains-none move (subst P (get_or_past pairs.rows place [] past) at))
      ]

  -- what is known of a state's move
  pub known : (state symbol to : ℕ) → Contains (moves_from pairs state) (symbol, to) → Known (symbol, to)
  known zero symbol to at = absurd (Contains-none (symbol, to) at)
  known (suc place) symbol to at =
      All-contains Known (get_or pairs.rows place []) (symbol, to)
      (All-get_or (All Known) pairs.rows place [] (state_within place (symbol, to) at) all_known) at

  pub edges_within : All (λ edge. (edge.0 < suc (length pairs.rows)) × (edge.1 < suc (length pairs.rows))) edges
  edges_within =
      All-from_contains (λ (edge : ℕ × ℕ). (edge.0 < suc (length pairs.rows)) × (edge.1 < suc (length pairs.rows))) edges (λ edge at.
      let tail = IsTail-from_edge n 1 pairs.rows edge.0 edge.1 at in
      let low = state_within tail.place (tail.symbol, edge.0) tail.move in
      let to = known (suc tail.place) tail.symbol edge.0 tail.move in
      let state = tail.is_state in
      (omega (arith, to.1.1), omega arith))

  seed_accepts : (state : ℕ) → IsMarked seeds state → IsTrue (accepts_at pairs state)
  seed_accepts zero mark = absurd (false≢true mark)
  seed_accepts (suc place) mark = mark

  accepting_is_seed : (state : ℕ) → IsTrue (accepts_at pairs state) → IsMarked seeds state
  accepting_is_seed zero accepts = absurd (false≢true accepts)
  accepting_is_seed (suc place) accepts = accepts

  ends_from_reached : (state : ℕ) → IsReached edges seeds state → EndsFrom n pairs state
  ends_from_reached state (at_seed mark) = ([], (All-nil (λ x. (0 < x) × (x ≤ n)), (state, refl, seed_accepts state mark)))
  ends_from_reached state (along {x = next} reached edge) =
      let rest = ends_from_reached next reached in
      let tail = IsTail-from_edge n 1 pairs.rows next state edge in
      let number = suc tail.place in
      let from = known number tail.symbol next tail.move in
      let second = with_second n tail.symbol from.0.0 in
      let symbol_is : tail.symbol ≡ pair_symbol n (n + 1) second.0 =
      second.1.0 ∙ ap (λ i. pair_symbol n i second.0) tail.first_is in
      let letter = letter_beside_padding n tail.symbol second.0 from.0 symbol_is in
      let state_is : number ≡ state = (let place = tail.is_state in omega arith) in
      let P : ℕ → Type 0 = λ s. Contains (moves_from pairs s) (tail.symbol, next) in
      let Q : ℕ → Type 0 = λ symbol. Contains (moves_from pairs state) (symbol, next) in
      let move = subst Q symbol_is (subst P state_is tail.move) in (
        second.0 ∷ rest.0,
        (
          All-cons (λ x. (0 < x) × (x ≤ n)) second.0 rest.0 (second.1.1.0, letter) rest.1.0,
          (rest.1.1.0, (next, move, rest.1.1.1), rest.1.1.2),
        ),
      )

  reached_from_ends : (second : List ℕ) (state : ℕ) → IsOver n second → AcceptsFrom pairs state (padded n [] second)
      → IsReached edges seeds state
  reached_from_ends [] state over accepts =
      let P : ℕ → Type 0 = λ s. IsTrue (accepts_at pairs s) in
      at_seed (accepting_is_seed state (subst P (sym accepts.1) accepts.2))
  reached_from_ends (j ∷ second) zero over accepts = absurd (Contains-none (pair_symbol n (n + 1) j, accepts.1.0) accepts.1.1)
  reached_from_ends (j ∷ second) (suc place) over accepts =
      let letter = All-head (λ x. (0 < x) × (x ≤ n)) j second over in
      let symbol = pair_symbol n (n + 1) j in
      let next = accepts.1.0 in
      let rest = reached_from_ends second next (All-tail (λ x. (0 < x) × (x ≤ n)) j second over) (accepts.0, accepts.1.2, accepts.2) in
      let edge = edge_from_tail n 1 pairs.rows place symbol next accepts.1.1 (first_letter-pair_symbol n (n + 1) j (omega arith) (letter.0, omega (arith, letter.1))) in
      let P : ℕ → Type 0 = λ s. Contains edges (next, s) in
      along rest (subst P (let back : 1 + place ≡ suc place = omega arith in back) edge)

  -- the marks of the states, without that of no state
  pub are_ends : (marks : List Bool) → length marks ≡ suc (length pairs.rows) → ((state : ℕ) → IsMarked marks state ↔ IsReached edges seeds state)
      → AreEnds n pairs (drop 1 marks)
  are_ends marks long reached = record {
    one_each = omega (arith, length-drop 1 marks);
    ends = λ place.
        let same : get_or (drop 1 marks) place false ≡ get_or marks (suc place) false =
        get_or-drop 1 marks place false ∙ ap (λ k. get_or marks k false) (let back : 1 + place ≡ suc place = omega arith in back) in (
          λ yes. ends_from_reached (suc place) ((reached (suc place)).0 (sym same ∙ yes)),
          λ ends. same ∙ (reached (suc place)).1 (reached_from_ends ends.0 (suc place) ends.1.0 ends.1.1),
        );
  }
