-- Where states that aren't settled have moves to such states, texts go on without end.
use Rattle.std.proofs.Common.{◌≡◌, inl, inr, ℕ, zero, suc, ◌<◌, ◌≤◌, Bool, false, IsTrue, List, [], ◌∷◌, ◌++◌, length, get_or, refl, sym, ◌∙◌, ap, subst, arith, length-append}
use Rattle.std.specs.List.{All, Contains}
use Rattle.kb_fsa.specs.Table.{Table, IsTable, IsLive, AcceptsFrom, moves_of, is_accepting, after}
use Rattle.kb_fsa.specs.Canonical.{IsTrim}
use Rattle.kb_fsa.proofs.Lookups.{IsRow-moves_of, All-moves_of, after-append}
use Rattle.kb_count.specs.Counts.{AreInfinitelyMany}
use Rattle.kb_count.specs.Totals.{AreStuckAbove}
use Rattle.kb_count.proofs.Moves.{move_leads}

-- ---- where moves lead

-- a move of a state leads to a state
pub leads-to_state : (table : Table) (state symbol next : ℕ) → IsTable table
    → Contains (moves_of table state) (symbol, next) → (0 < next) × (next ≤ length table.rows)
leads-to_state table state symbol next is_table here =
    let row = moves_of table state in
    let one = (IsRow-moves_of table state is_table).numbers here.0 (symbol, next) here.1 in
    let two = All-moves_of (λ moves. All (λ move. move.1 ≤ length table.rows) moves) table state
    (λ k d within. absurd (let no : ⊥ = omega arith in no)) is_table.targets here.0 (symbol, next) here.1 in
    (subst (λ (m : ℕ × ℕ). 0 < m.1) here.2 one.1, subst (λ (m : ℕ × ℕ). m.1 ≤ length table.rows) here.2 two)

-- so moves have a place for their target where there is one for no state and for each state
pub targets-within : (table : Table) (state count : ℕ) → IsTable table → length table.rows < count
    → All (λ move. move.1 < count) (moves_of table state)
targets-within table state count is_table room k d within =
    let at = All-moves_of (λ moves. All (λ move. move.1 ≤ length table.rows) moves) table state
    (λ i e inside. absurd (let no : ⊥ = omega arith in no)) is_table.targets k d within in
    omega arith

-- ---- without end

module _ (table : Table) (is_table : IsTable table) (settled : List Bool) (stuck : AreStuckAbove 0 table settled) where
  -- the state isn't settled
  pub record IsOpen (state : ℕ) : Type 0 where
    pub positive : 0 < state
    pub within : state ≤ length table.rows
    pub unsettled : get_or settled state false ≡ false

  -- a text of each length leads from such a state to such a state
  record Walk (long state : ℕ) : Type 0 where
    text : List ℕ
    is_long : length text ≡ long
    ends : IsOpen (after table state text)

  walk : (long state : ℕ) → IsOpen state → Walk long state
  walk zero state open_state = record { text = []; is_long = refl; ends = open_state }
  walk (suc long) state open_state =
      let onward = stuck state open_state.positive open_state.within open_state.unsettled in
      let next = leads-to_state table state onward.symbol onward.state is_table onward.move in
      let rest = walk long onward.state
      (record { positive = next.0; within = next.1; unsettled = onward.unsettled }) in
      record {
        text = onward.symbol ∷ rest.text;
        is_long = ap suc rest.is_long;
        ends = subst (λ s. IsOpen (after table s rest.text))
            (sym (move_leads table is_table state onward.symbol onward.state onward.move)) rest.ends;
      }

  -- in a trim table each such state leads to acceptance, where one is the initial state
  live_state : IsTrim table → table.initial ≡ 1 → IsOpen table.initial → (state : ℕ) → IsOpen state → IsLive table state
  live_state (inl live) is_one initial state open_state =
      live state (record { positive = open_state.positive; within = open_state.within })
  live_state (inr alone) is_one initial state open_state =
      let onward = stuck table.initial initial.positive initial.within initial.unsettled in
      let none : moves_of table table.initial ≡ [] = ap (moves_of table) is_one ∙ alone.1.0 in
      let within = onward.move.1 in
      absurd (let no : ⊥ = omega (arith, ap length none) in no)

  pub endless : IsTrim table → table.initial ≡ 1 → IsOpen table.initial
      → AreInfinitelyMany (AcceptsFrom table table.initial)
  endless trim is_one initial bound =
      let walked = walk (suc bound) table.initial initial in
      let live = live_state trim is_one initial (after table table.initial walked.text) walked.ends in (
        walked.text ++ live.0,
        subst (λ s. IsTrue (is_accepting table s)) (sym (after-append table table.initial walked.text live.0)) live.1,
        omega (arith, length-append walked.text live.0, walked.is_long),
      )
