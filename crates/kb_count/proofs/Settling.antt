-- One state after another is settled.
use Rattle.std.proofs.Common.{◌≡◌, ◌≢◌, inl, inr, ℕ, suc, ◌+◌, ◌<◌, ◌≤◌, Bool, true, false, List, [], ◌∷◌, ◌++◌, Result, Ok, Err, IfOk, length, get_or, set, sym, ◌∙◌, ap, subst, arith, get_or-set_same, get_or-set_other, length-set, length-append}
use Rattle.std.specs.List.{All, Contains}
use Rattle.std.proofs.Math.ListN.{get_or-append}
use Rattle.std.proofs.Math.Seq.{get_or-append_seam}
use Rattle.std.proofs.lemmas.Bool.{cases_order}
use Rattle.std.proofs.lemmas.List.Elements.{Contains-get_or}
use Rattle.kb_fsa.specs.Table.{Table, IsTable, Moves, AcceptsFrom, moves_of}
use Rattle.kb_fsa.specs.Graphs.{IsMarked}
use Rattle.kb_count.specs.Counts.{AreSoMany, IsAcceptedOfLength}
use Rattle.kb_count.specs.Totals.{AreTotals, AreNumbersOfLength, LeadsToUnsettled, sum_along}
use Rattle.kb_count.proofs.Endless.{leads-to_state, targets-within}
use Rattle.kb_count.proofs.Moves.{many-accepted, many-longer}

-- the move at a place leads to a state that isn't settled
pub unsettled-at : (settled : List Bool) (row : Moves) (place : ℕ) → place < length row
    → get_or settled (get_or row place (0, 0)).1 false ≡ false → LeadsToUnsettled settled row
unsettled-at settled row place within unsettled = record {
  symbol = (get_or row place (0, 0)).0;
  state = (get_or row place (0, 0)).1;
  move = Contains-get_or row place (0, 0) within;
  unsettled = unsettled;
}

-- all moves lead to settled states
pub marked-along : (settled : List Bool) (row : Moves) (symbol next : ℕ) → All (λ move. IsMarked settled move.1) row
    → Contains row (symbol, next) → IsMarked settled next
marked-along settled row symbol next all here =
    subst (λ (m : ℕ × ℕ). IsMarked settled m.1) here.2 (all here.0 (symbol, next) here.1)

-- a state is settled by its number
module _ (table : Table) (settled : List Bool) (numbers : List ℕ) (state total : ℕ) (totals : AreTotals table settled numbers)
    (within : state ≤ length table.rows) (many : AreSoMany (AcceptsFrom table state) total) where
  room : state < length numbers
  room = let each = totals.one_each in omega arith

  still_right : (other : ℕ) → other ≢ state → IsMarked (set settled state true) other
      → AreSoMany (AcceptsFrom table other) (get_or (set numbers state total) other 0)
  still_right other differ marked =
      subst (AreSoMany (AcceptsFrom table other)) (sym (get_or-set_other numbers state other total 0 differ))
      (totals.right other (sym (get_or-set_other settled state other true false differ) ∙ marked))

  now_right : (other : ℕ) → other ≡ state → AreSoMany (AcceptsFrom table other) (get_or (set numbers state total) other 0)
  now_right other is =
      subst (λ s. AreSoMany (AcceptsFrom table s) (get_or (set numbers state total) s 0)) (sym is)
      (subst (AreSoMany (AcceptsFrom table state)) (sym (get_or-set_same numbers state total 0 room)) many)

  pub settled-one : AreTotals table (set settled state true) (set numbers state total)
  settled-one = record {
    mark_each = length-set settled state true ∙ totals.mark_each;
    one_each = length-set numbers state total ∙ totals.one_each;
    right = λ other marked. elim (cases_order other state) [
      | inl is ↦ now_right other is
      | inr differ ↦ still_right other (λ same. elim differ [
        | inl less ↦ let no : ⊥ = omega arith in no
        | inr more ↦ let no : ⊥ = omega arith in no
      ]) marked
    ];
  }

-- the number of a state whose moves all lead to settled states
pub settled-number : (table : Table) (settled : List Bool) (numbers : List ℕ) (state own total : ℕ) → IsTable table
    → AreTotals table settled numbers → All (λ move. IsMarked settled move.1) (moves_of table state)
    → AreSoMany (IsAcceptedOfLength table 0 state) own → total ≡ own + sum_along numbers (moves_of table state)
    → AreSoMany (AcceptsFrom table state) total
settled-number table settled numbers state own total is_table totals all many is =
    subst (AreSoMany (AcceptsFrom table state)) (sym is)
    (many-accepted table is_table state numbers own many
    (λ symbol next here. totals.right next (marked-along settled (moves_of table state) symbol next all here)))

-- the number of the texts that are longer by one
pub longer-number : (table : Table) (numbers : List ℕ) (long state none total : ℕ) → IsTable table
    → AreNumbersOfLength table long numbers → none ≡ 0 → total ≡ none + sum_along numbers (moves_of table state)
    → AreSoMany (IsAcceptedOfLength table (suc long) state) total
longer-number table numbers long state none total is_table right is_none is =
    let same : total ≡ sum_along numbers (moves_of table state) = omega (arith, is, is_none) in
    subst (AreSoMany (IsAcceptedOfLength table (suc long) state)) (sym same)
    (many-longer table is_table state long numbers
    (λ symbol next here. right.right next (leads-to_state table state symbol next is_table here).1))

-- what holds of an answer has what follows from it
pub if_ok : {X E : Type 0} {P Q : X → Type 0} (answer : Result X E) → ((x : X) → P x → Q x) → IfOk answer P → IfOk answer Q
if_ok (Ok x) follows holds = follows x holds
if_ok (Err e) follows holds = tt

-- there is a number for each target
pub targets-fit : (table : Table) (state : ℕ) (row : Moves) (numbers others : List ℕ) → IsTable table
    → row ≡ moves_of table state → numbers ≡ others → length others ≡ length table.rows + 1
    → All (λ move. move.1 < length numbers) row
targets-fit table state row numbers others is_table is_row same each =
    let room : length table.rows < length numbers = omega (arith, ap length same) in
    subst (All (λ move. move.1 < length numbers)) (sym is_row) (targets-within table state (length numbers) is_table room)

-- ---- one number after another

pub pushed-count : (numbers pushed : List ℕ) (count value : ℕ) → length numbers ≡ count → pushed ≡ numbers ++ value ∷ []
    → length pushed ≡ count + 1
pushed-count numbers pushed count value each is =
    omega (arith, ap length is, length-append numbers (value ∷ []), each)

-- what holds of each number and of one more holds of all
pub pushed-right : (P : ℕ → ℕ → Type 0) (numbers pushed : List ℕ) (count value : ℕ) → length numbers ≡ count
    → pushed ≡ numbers ++ value ∷ [] → ((s : ℕ) → s < count → P s (get_or numbers s 0)) → P count value
    → (s : ℕ) → s < count + 1 → P s (get_or pushed s 0)
pushed-right P numbers pushed count value each is right last s within = elim (cases_order s count) [
  | inl same ↦ subst (λ n. P n (get_or pushed n 0)) (sym same)
      (subst (P count) (sym (ap (λ l. get_or l count 0) is ∙ ap (λ n. get_or (numbers ++ value ∷ []) n 0) (sym each)
      ∙ get_or-append_seam numbers value [] 0)) last)
  | inr differ ↦ elim differ [
    | inl less ↦ subst (P s) (sym (ap (λ l. get_or l s 0) is ∙ get_or-append numbers (value ∷ []) 0 s (omega arith))) (right s less)
    | inr more ↦ absurd (let no : ⊥ = omega arith in no)
  ]
]
