-- Texts that go along the moves of a state, and how many there are.
use Rattle.std.proofs.Common.{◌≡◌, ◌⊎◌, inl, inr, ℕ, zero, suc, ◌+◌, ◌<◌, false, IsTrue, List, [], ◌∷◌, length, get_or, refl, sym, ◌∙◌, ap, subst, arith}
use Rattle.std.specs.List.{All, Contains}
use Rattle.kb_fsa.specs.Table.{Table, IsTable, Moves, Ascends, AcceptsFrom, moves_of, is_accepting, step, after}
use Rattle.kb_fsa.proofs.Lookups.{Ascends-head, Ascends-tail, entry_from_lookup, lookup_from_entry, lookup_from_target, target_some, after_none, accepting_positive, IsRow-moves_of}
use Rattle.kb_count.specs.Counts.{AreSoMany, IsAcceptedOfLength}
use Rattle.kb_count.specs.Totals.{sum_along}
use Rattle.kb_count.proofs.Listings.{IsBehind, contains_first, contains_other, first_or_other, many-behind, many-none, many-one, many-same, many-sum}

-- the text begins with one of these moves, and goes on from where it leads
pub record GoesAlong (row : Moves) (Onward : ℕ → List ℕ → Type 0) (text : List ℕ) : Type 0 where
  pub symbol : ℕ
  pub state : ℕ
  pub rest : List ℕ
  pub whole : text ≡ symbol ∷ rest
  pub move : Contains row (symbol, state)
  pub onward : Onward state rest

-- the texts along the first move and those along the others are the texts along all
along-joined : (Onward : ℕ → List ℕ → Type 0) (symbol state : ℕ) (row : Moves) (text : List ℕ)
    → IsBehind symbol (Onward state) text ⊎ GoesAlong row Onward text
    → GoesAlong ((symbol, state) ∷ row) Onward text
along-joined Onward symbol state row text (inl first) = record {
  symbol = symbol;
  state = state;
  rest = first.rest;
  whole = first.whole;
  move = contains_first (symbol, state) row;
  onward = first.holds;
}
along-joined Onward symbol state row text (inr other) = record {
  symbol = other.symbol;
  state = other.state;
  rest = other.rest;
  whole = other.whole;
  move = contains_other (symbol, state) row (other.symbol, other.state) other.move;
  onward = other.onward;
}

along-split : (Onward : ℕ → List ℕ → Type 0) (symbol state : ℕ) (row : Moves) (text : List ℕ)
    → GoesAlong ((symbol, state) ∷ row) Onward text
    → IsBehind symbol (Onward state) text ⊎ GoesAlong row Onward text
along-split Onward symbol state row text along =
    elim (first_or_other (symbol, state) row (along.symbol, along.state) along.move) [
      | inl is ↦ inl (record {
        rest = along.rest;
        whole = along.whole ∙ ap (λ (s : ℕ). s ∷ along.rest) (sym (ap (λ (m : ℕ × ℕ). m.0) is));
        holds = subst (λ s. Onward s along.rest) (sym (ap (λ (m : ℕ × ℕ). m.1) is)) along.onward;
      })
      | inr other ↦ inr (record {
        symbol = along.symbol;
        state = along.state;
        rest = along.rest;
        whole = along.whole;
        move = other;
        onward = along.onward;
      })
    ]

same_first : (one other : ℕ) (text rest : List ℕ) → one ∷ text ≡ other ∷ rest → one ≡ other
same_first one other text rest same = cc

along-apart : (Onward : ℕ → List ℕ → Type 0) (symbol state : ℕ) (row : Moves) (text : List ℕ)
    → All (λ move. symbol < move.0) row
    → IsBehind symbol (Onward state) text → GoesAlong row Onward text → ⊥
along-apart Onward symbol state row text later first other =
    let same : symbol ≡ other.symbol =
    same_first symbol other.symbol first.rest other.rest (sym first.whole ∙ other.whole) in
    let above : symbol < other.symbol =
    subst (λ (m : ℕ × ℕ). symbol < m.0) other.move.2
    (later other.move.0 (other.symbol, other.state) other.move.1) in
    omega arith

-- the number of the texts along moves is the sum of the numbers of the states to which they lead
pub many-along : (Onward : ℕ → List ℕ → Type 0) (numbers : List ℕ) (row : Moves) → Ascends row
    → ((symbol state : ℕ) → Contains row (symbol, state) → AreSoMany (Onward state) (get_or numbers state 0))
    → AreSoMany (GoesAlong row Onward) (sum_along numbers row)
many-along Onward numbers [] ascends each =
    many-none (λ text along. let no : ⊥ = omega (arith, along.move.1) in no)
many-along Onward numbers ((symbol, state) ∷ row) ascends each =
    many-same refl (along-joined Onward symbol state row) (along-split Onward symbol state row)
    (many-sum (many-behind symbol (each symbol state (contains_first (symbol, state) row)))
    (many-along Onward numbers row (Ascends-tail (symbol, state) row ascends)
    (λ s t here. each s t (contains_other (symbol, state) row (s, t) here)))
    (λ text. along-apart Onward symbol state row text (Ascends-head (symbol, state) row ascends)))

-- ---- the empty text

module _ (table : Table) (state : ℕ) where
  no_length : (text : List ℕ) → length text ≡ 0 → [] ≡ text
  no_length [] is = refl
  no_length (symbol ∷ text) is = absurd (let no : ⊥ = omega arith in no)

  pub none-long-one : IsTrue (is_accepting table state) → AreSoMany (IsAcceptedOfLength table 0 state) 1
  none-long-one accepts =
      many-one [] (record { accepts = accepts; so_long = refl }) (λ text accepted. no_length text accepted.so_long)

  rejected : is_accepting table state ≡ false → ¬ AcceptsFrom table state []
  rejected rejects accepts = cc

  pub none-long-none : is_accepting table state ≡ false → AreSoMany (IsAcceptedOfLength table 0 state) 0
  none-long-none rejects = many-none (λ text accepted. rejected rejects
      (subst (AcceptsFrom table state) (sym (no_length text accepted.so_long)) accepted.accepts))

-- ---- texts that are accepted from a state

module _ (table : Table) (is_table : IsTable table) (state : ℕ) where
  -- a move of the state leads along the first symbol of an accepted text
  first_move : (symbol : ℕ) (text : List ℕ) → AcceptsFrom table state (symbol ∷ text)
      → Contains (moves_of table state) (symbol, step table state symbol)
  first_move symbol text accepts =
      let positive : 0 < step table state symbol = leads (step table state symbol) refl in
      entry_from_lookup (moves_of table state) symbol (step table state symbol)
      (lookup_from_target (moves_of table state) symbol (step table state symbol) positive refl)
    where
      leads : (next : ℕ) → step table state symbol ≡ next → 0 < next
      leads zero is =
          let none : after table (step table state symbol) text ≡ 0 =
          ap (λ s. after table s text) is ∙ after_none table text in
          let positive = accepting_positive table (after table (step table state symbol) text) accepts in
          absurd (let no : ⊥ = omega arith in no)
      leads (suc next) is = omega arith

  -- a move leads to the state that it names
  pub move_leads : (symbol next : ℕ) → Contains (moves_of table state) (symbol, next) → step table state symbol ≡ next
  move_leads symbol next here =
      target_some (moves_of table state) symbol next
      (lookup_from_entry (moves_of table state) symbol next (IsRow-moves_of table state is_table).ascends here)

  along-accepts : (text : List ℕ) → GoesAlong (moves_of table state) (AcceptsFrom table) text
      → AcceptsFrom table state text
  along-accepts text along =
      subst (AcceptsFrom table state) (sym along.whole)
      (subst (λ s. AcceptsFrom table s along.rest) (sym (move_leads along.symbol along.state along.move)) along.onward)

  along-from : (symbol : ℕ) (rest : List ℕ) → AcceptsFrom table state (symbol ∷ rest)
      → GoesAlong (moves_of table state) (AcceptsFrom table) (symbol ∷ rest)
  along-from symbol rest accepts = record {
    symbol = symbol;
    state = step table state symbol;
    rest = rest;
    whole = refl;
    move = first_move symbol rest accepts;
    onward = accepts;
  }

  -- ---- all texts

  -- the texts that are accepted: the empty one, if it is, and those along the moves
  from_either : (text : List ℕ)
      → IsAcceptedOfLength table 0 state text ⊎ GoesAlong (moves_of table state) (AcceptsFrom table) text
      → AcceptsFrom table state text
  from_either text (inl own) = own.accepts
  from_either text (inr along) = along-accepts text along

  to_either : (text : List ℕ) → AcceptsFrom table state text
      → IsAcceptedOfLength table 0 state text ⊎ GoesAlong (moves_of table state) (AcceptsFrom table) text
  to_either [] accepts = inl (record { accepts = accepts; so_long = refl })
  to_either (symbol ∷ rest) accepts = inr (along-from symbol rest accepts)

  apart : (text : List ℕ) → IsAcceptedOfLength table 0 state text
      → GoesAlong (moves_of table state) (AcceptsFrom table) text → ⊥
  apart text own along = omega (arith, own.so_long, ap length along.whole)

  pub many-accepted : (numbers : List ℕ) (own : ℕ) → AreSoMany (IsAcceptedOfLength table 0 state) own
      → ((symbol next : ℕ) → Contains (moves_of table state) (symbol, next)
      → AreSoMany (AcceptsFrom table next) (get_or numbers next 0))
      → AreSoMany (AcceptsFrom table state) (own + sum_along numbers (moves_of table state))
  many-accepted numbers own many each =
      many-same refl from_either to_either
      (many-sum many
      (many-along (AcceptsFrom table) numbers (moves_of table state) (IsRow-moves_of table state is_table).ascends each)
      apart)

  -- ---- by length

  longer-from : (long : ℕ) (text : List ℕ) → GoesAlong (moves_of table state) (IsAcceptedOfLength table long) text
      → IsAcceptedOfLength table (suc long) state text
  longer-from long text along = record {
    accepts = along-accepts text (record {
      symbol = along.symbol;
      state = along.state;
      rest = along.rest;
      whole = along.whole;
      move = along.move;
      onward = along.onward.accepts;
    });
    so_long = ap length along.whole ∙ ap suc along.onward.so_long;
  }

  longer-to : (long : ℕ) (text : List ℕ) → IsAcceptedOfLength table (suc long) state text
      → GoesAlong (moves_of table state) (IsAcceptedOfLength table long) text
  longer-to long [] accepted = absurd (let no : ⊥ = omega (arith, accepted.so_long) in no)
  longer-to long (symbol ∷ rest) accepted = record {
    symbol = symbol;
    state = step table state symbol;
    rest = rest;
    whole = refl;
    move = first_move symbol rest accepted.accepts;
    onward = record { accepts = accepted.accepts; so_long = omega (arith, accepted.so_long) };
  }

  -- the texts one longer are those along the moves
  pub many-longer : (long : ℕ) (numbers : List ℕ)
      → ((symbol next : ℕ) → Contains (moves_of table state) (symbol, next)
      → AreSoMany (IsAcceptedOfLength table long next) (get_or numbers next 0))
      → AreSoMany (IsAcceptedOfLength table (suc long) state) (sum_along numbers (moves_of table state))
  many-longer long numbers each =
      many-same refl (longer-from long) (longer-to long)
      (many-along (IsAcceptedOfLength table long) numbers (moves_of table state)
      (IsRow-moves_of table state is_table).ascends each)
