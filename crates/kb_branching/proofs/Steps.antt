-- The steps of an exploration: a state more, and a number more.
use Rattle.std.proofs.Common.{◌≡◌, ℕ, zero, suc, ◌<◌, List, [], ◌∷◌, ◌++◌, length, get_or, slice_get, map, Some, refl, sym, subst, ◌∙◌, inl, inr}
use Rattle.std.specs.List.{Contains}
use Rattle.std.proofs.lemmas.List.{map-id}
use Rattle.std.proofs.lemmas.List.Elements.{All-push}
use Rattle.std.proofs.lemmas.Option.{none-some, slice_get-get_or}
use Rattle.kb_fsa.specs.Table.{Moves}
use Rattle.kb_explore.specs.Exploration.{numbered}
use Rattle.kb_explore.specs.Progress.{AreDistinct, IsOneTooMany}
use Rattle.kb_explore.proofs.Lists.{AllZip-kept, AllZip-push, item_cases}
use Rattle.kb_branching.specs.Branching.{Branching, LeadsFrom, LeadsTo, IsReached, HasMoreBranchStates}
use Rattle.kb_branching.specs.Progress.{AreReached, KeepNumbers, HasNumber, AreNumbers, AreNumberedMoves, IsRowAt, AreRows}

-- ---- the items of a list, one after another

-- the next item is one of the list
pub next_item : {X : Type 0} (items all : List X) → items ≡ all → (place : ℕ) (item : X)
    → (place < length items) × (item ≡ get_or items place item) → Contains all item
next_item items all same place item turn = subst (λ xs. Contains xs item) same (place, turn.0, sym turn.1)

-- at the end all are yielded
pub yielded_whole : {X : Type 0} (yielded items all : List X) → map (λ item. item) yielded ≡ items → items ≡ all → yielded ≡ all
yielded_whole yielded items all whole same = sym (map-id yielded) ∙ whole ∙ same

-- ---- where texts lead

pub LeadsFrom-push : {S : Type 0} (machine : Branching S) (text : List ℕ) (from state : S) (symbol : ℕ) (next : S) → LeadsFrom machine from text state
    → Contains (machine.moves state) (symbol, next) → LeadsFrom machine from (text ++ symbol ∷ []) next
LeadsFrom-push machine [] from state symbol next leads at =
    (next, subst (λ s. Contains (machine.moves s) (symbol, next)) (sym leads) at, refl)
LeadsFrom-push machine (first ∷ text) from state symbol next leads at =
    (leads.0, leads.1, LeadsFrom-push machine text leads.0 state symbol next leads.2 at)

module _ {S : Type 0} {machine : Branching S} where
  pub start_reached : (state : S) → Contains machine.starts state → IsReached machine state
  start_reached state at = ([], record { start = state; is_start = at; leads = refl })

  pub LeadsTo-push : (text : List ℕ) (state : S) (symbol : ℕ) (next : S) → LeadsTo machine text state
      → Contains (machine.moves state) (symbol, next) → LeadsTo machine (text ++ symbol ∷ []) next
  LeadsTo-push text state symbol next leads at = record {
    start = leads.start;
    is_start = leads.is_start;
    leads = LeadsFrom-push machine text leads.start state symbol next leads.leads at;
  }

  pub next_reached : (state : S) (symbol : ℕ) (next : S) → IsReached machine state → Contains (machine.moves state) (symbol, next)
      → IsReached machine next
  next_reached state symbol next reached at = (reached.0 ++ symbol ∷ [], LeadsTo-push reached.0 state symbol next reached.1 at)

  -- where a move of a state that is seen leads
  pub target_reached : {states : List S} → AreReached machine states → (place : ℕ) (state : S) → slice_get states place ≡ Some state → (symbol : ℕ)
      (next : S) → Contains (machine.moves state) (symbol, next) → IsReached machine next
  target_reached seen place state at symbol next among = next_reached state symbol next (seen.reached (suc place) state at) among

  -- ---- a state more

  pub AreReached-none : AreReached machine []
  AreReached-none = record {
    distinct = λ place other state one two. absurd (none-some state one);
    reached = λ number state at. absurd (nothing number state at);
  }
    where
      nothing : (number : ℕ) (state : S) → numbered [] number ≡ Some state → ⊥
      nothing zero state at = none-some state at
      nothing (suc place) state at = none-some state at

  module _ {states : List S} {state : S} (seen : AreReached machine states) (reached : IsReached machine state) where
    pub AreReached-more : (states' : List S) (number : ℕ) → HasNumber states state states' number → AreDistinct states' → AreReached machine states'
    AreReached-more states' number has distinct = record {
      distinct = distinct;
      reached = λ place other at. elim (has.others place other at) [
        | inl old ↦ seen.reached place other old
        | inr is ↦ subst (λ s. IsReached machine s) (sym is) reached
      ];
    }

    -- and where there are too many, the machine has more than the limit
    pub too_many : (limit : ℕ) → IsOneTooMany limit states state → HasMoreBranchStates machine limit
    too_many limit one_more = record {
      states = states ++ state ∷ [];
      many = one_more.more;
      distinct = one_more.distinct;
      reached = All-push (IsReached machine) states state each reached;
    }
      where
        each : (place : ℕ) (d : S) → place < length states → IsReached machine (get_or states place d)
        each place d within = seen.reached (suc place) (get_or states place d) (slice_get-get_or states place d within)

-- ---- what is numbered stays so

module _ {S : Type 0} (states states' : List S) (kept : KeepNumbers states states') where
  pub AreNumbers-kept : (numbers : List ℕ) (items : List S) → AreNumbers states numbers items → AreNumbers states' numbers items
  AreNumbers-kept numbers items =
      AllZip-kept (λ number item. numbered states number ≡ Some item) (λ number item. numbered states' number ≡ Some item) numbers items kept

  pub AreNumberedMoves-kept : (row : Moves) (moves : List (ℕ × S)) → AreNumberedMoves states row moves → AreNumberedMoves states' row moves
  AreNumberedMoves-kept row moves =
      AllZip-kept (λ move original. (move.0 ≡ original.0) × (numbered states move.1 ≡ Some original.1))
      (λ move original. (move.0 ≡ original.0) × (numbered states' move.1 ≡ Some original.1)) row moves
      (λ move original is. (is.0, kept move.1 original.1 is.1))

  pub AreRows-kept : (machine : Branching S) (rows : List Moves) → AreRows machine states rows → AreRows machine states' rows
  AreRows-kept machine rows done place row at =
      let is = done place row at in record {
        state = is.state;
        is_state = kept (suc place) is.state is.is_state;
        are_moves = AreNumberedMoves-kept row (machine.moves is.state) is.are_moves;
      }

-- a start more, and a move more, with the number of its state
module _ {S : Type 0} {states states' : List S} {state : S} {number : ℕ} (has : HasNumber states state states' number) where
  pub AreNumbers-push : (numbers : List ℕ) (items : List S) → AreNumbers states numbers items
      → AreNumbers states' (numbers ++ number ∷ []) (items ++ state ∷ [])
  AreNumbers-push numbers items so_far =
      AllZip-push (λ number item. numbered states' number ≡ Some item) numbers items number state
      (AreNumbers-kept states states' has.kept numbers items so_far) has.is_state

  pub AreNumberedMoves-push : (symbol : ℕ) (row : Moves) (moves : List (ℕ × S)) → AreNumberedMoves states row moves
      → AreNumberedMoves states' (row ++ (symbol, number) ∷ []) (moves ++ (symbol, state) ∷ [])
  AreNumberedMoves-push symbol row moves so_far =
      AllZip-push (λ move original. (move.0 ≡ original.0) × (numbered states' move.1 ≡ Some original.1)) row moves (symbol, number) (symbol, state)
      (AreNumberedMoves-kept states states' has.kept row moves so_far) (refl, has.is_state)

pub KeepNumbers-more : {S : Type 0} (states states' states'' : List S) → KeepNumbers states states' → KeepNumbers states' states''
    → KeepNumbers states states''
KeepNumbers-more states states' states'' one two number state at = two number state (one number state at)

-- the row of a state, all of whose moves are numbered
pub row_made : {S : Type 0} (machine : Branching S) (states states' : List S) → KeepNumbers states states' → (place : ℕ) (state : S)
    → slice_get states place ≡ Some state → (row : Moves) (moves : List (ℕ × S)) → AreNumberedMoves states' row moves
    → moves ≡ machine.moves state → IsRowAt machine states' place row
row_made machine states states' kept place state at row moves are_moves same = record {
  state = state;
  is_state = kept (suc place) state at;
  are_moves = subst (λ originals. AreNumberedMoves states' row originals) same are_moves;
}

-- a row more
module _ {S : Type 0} (machine : Branching S) (states : List S) where
  pub AreRows-none : AreRows machine states []
  AreRows-none place row at = absurd (none-some row at)

  pub AreRows-push : (rows : List Moves) (row : Moves) → AreRows machine states rows → (last : ℕ) → last ≡ length rows
      → IsRowAt machine states last row → AreRows machine states (rows ++ row ∷ [])
  AreRows-push rows row done last count is place other at =
      elim (item_cases rows row place other at) [
        | inl old ↦ done place other old
        | inr new ↦
            let P : ℕ → Type 0 = λ n. IsRowAt machine states n other in
            let Q : Moves → Type 0 = λ r. IsRowAt machine states last r in
            subst P (count ∙ sym new.0) (subst Q (sym new.1) is)
      ]
