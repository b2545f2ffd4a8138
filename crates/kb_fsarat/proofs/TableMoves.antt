-- The moves of a table, one by one.
use Rattle.std.proofs.Common.{◌≡◌, ℕ, zero, suc, ◌<◌, ◌≤◌, IsTrue, List, [], ◌∷◌, length, get_or, refl, inl, inr, arith}
use Rattle.std.specs.List.{All, Contains}
use Rattle.std.proofs.lemmas.Bool.{cases_lt}
use Rattle.std.proofs.lemmas.List.Elements.{All-nil, All-contains, Contains-get_or}
use Rattle.kb_fsa.specs.Table.{Table, IsTable, HasSymbols, moves_of, is_accepting, step, after, AcceptsFrom}
use Rattle.kb_fsa.specs.Canonical.{IsState}
use Rattle.kb_fsa.proofs.Lookups.{lookup_from_entry, entry_from_lookup, lookup_from_target, target_some, All-moves_of, IsRow-moves_of, moves_past, accepting_positive, accepting_within}
use Rattle.kb_fsarat.proofs.MoveLists.{Contains-nil, Contains-same}

-- what holds of all that a list has holds of each of its places
pub All-from_contains : {X : Type 0} (P : X → Type 0) (xs : List X) → ((x : X) → Contains xs x → P x) → All P xs
All-from_contains P xs each k d within = each (get_or xs k d) (Contains-get_or xs k d within)

-- a move leads from a state to a state, by a symbol that isn't 0
pub record IsMove (table : Table) (state symbol target : ℕ) : Type 0 where
  pub from : IsState table state
  pub positive : 0 < symbol
  pub to : IsState table target

pub IsMove-from_contains : (table : Table) (state symbol target : ℕ) → IsTable table → Contains (moves_of table state) (symbol, target)
    → IsMove table state symbol target
IsMove-from_contains table state symbol target is has =
    let numbers = All-contains (λ (move : ℕ × ℕ). (0 < move.0) × (0 < move.1)) (moves_of table state) (symbol, target)
    (IsRow-moves_of table state is).numbers has in
    let within = All-contains (λ (move : ℕ × ℕ). move.1 ≤ length table.rows) (moves_of table state) (symbol, target)
    (All-moves_of (λ moves. All (λ move. move.1 ≤ length table.rows) moves) table state (All-nil (λ move. move.1 ≤ length table.rows)) is.targets) has in
    record {
      from = record {
        positive = some_state state has;
        within = elim (cases_lt (length table.rows) state) [
          | inl past ↦ absurd (Contains-nil (symbol, target) (Contains-same _ _ (symbol, target) (moves_past table state past) has))
          | inr low ↦ low
        ];
      };
      positive = numbers.0;
      to = record { positive = numbers.1; within = within };
    }
  where
    some_state : (number : ℕ) → Contains (moves_of table number) (symbol, target) → 0 < number
    some_state zero none = absurd (Contains-nil (symbol, target) none)
    some_state (suc place) some = omega arith

pub symbol_within : (table : Table) (k state symbol target : ℕ) → HasSymbols k table → Contains (moves_of table state) (symbol, target) → symbol ≤ k
symbol_within table k state symbol target symbols has =
    All-contains (λ (move : ℕ × ℕ). move.0 ≤ k) (moves_of table state) (symbol, target)
    (All-moves_of (λ moves. All (λ move. move.0 ≤ k) moves) table state (All-nil (λ move. move.0 ≤ k)) symbols) has

-- a move is a step, and a step to a state is a move
pub step_from_move : (table : Table) (state symbol target : ℕ) → IsTable table → Contains (moves_of table state) (symbol, target)
    → step table state symbol ≡ target
step_from_move table state symbol target is has =
    target_some (moves_of table state) symbol target
    (lookup_from_entry (moves_of table state) symbol target (IsRow-moves_of table state is).ascends has)

pub move_from_step : (table : Table) (state symbol target : ℕ) → step table state symbol ≡ target → 0 < target
    → Contains (moves_of table state) (symbol, target)
move_from_step table state symbol target leads positive =
    entry_from_lookup (moves_of table state) symbol target (lookup_from_target (moves_of table state) symbol target positive leads)

-- texts lead to states from states alone
pub leads_from_state : (table : Table) (state : ℕ) (text : List ℕ) → IsTable table → IsState table (after table state text) → IsState table state
leads_from_state table state [] is reached = reached
leads_from_state table state (symbol ∷ text) is reached =
    let next = leads_from_state table (step table state symbol) text is reached in
    (IsMove-from_contains table state symbol (step table state symbol) is
    (move_from_step table state symbol (step table state symbol) refl next.positive)).from

pub accepting_state : (table : Table) (state : ℕ) → IsTable table → IsTrue (is_accepting table state) → IsState table state
accepting_state table state is accepts =
    record { positive = accepting_positive table state accepts; within = accepting_within table state is accepts }

-- and what leads to acceptance is a state
pub accepts_from_state : (table : Table) (state : ℕ) (text : List ℕ) → IsTable table → AcceptsFrom table state text → IsState table state
accepts_from_state table state text is accepts =
    leads_from_state table state text is (accepting_state table (after table state text) is accepts)
