-- Look-ups in ascending lists of numbered things, and the states to which texts lead.
use Rattle.std.proofs.Common.{◌≡◌, ◌≢◌, ◌⊎◌, ℕ, zero, suc, ◌+◌, ◌<◌, ◌≤◌, false, nat_eq, IsTrue, List, [], ◌∷◌, ◌++◌, length, get_or, slice_get, drop, add-one, Option, Some, None, Result, Ok, Err, OnOk, OnErr, MatchResult, refl, sym, ap, ◌∙◌, subst, inl, inr, arith}
use Rattle.std.specs.List.{All, Contains}
use Rattle.std.specs.List.Sorted.{IsSearchInRange, IsBinarySearchResult, IsNonDecreasingBy}
use Rattle.std.specs.Option.{unwrap_or}
use Rattle.std.specs.Ordering.{nat_cmp, ordering_index}
use Rattle.std.proofs.lemmas.Bool.{cases_eq, cases_lt, cases_order, eq-eqb, ne_eqb}
use Rattle.std.proofs.lemmas.Bool.Decides.{nat_tests}
use Rattle.std.proofs.lemmas.Cmp.{ranked}
use Rattle.std.proofs.lemmas.List.{get_or_past, drop_all}
use Rattle.std.proofs.lemmas.List.Elements.{All-nil, All-cons, All-head, All-tail, All-push, All-get_or, All-contains}
use Rattle.std.proofs.lemmas.List.Quantifiers.{all_pairs_push}
use Rattle.std.proofs.lemmas.List.Recursion.{found_at}
use Rattle.std.proofs.lemmas.List.Sorted.{IsNonDecreasingBy-from_default}
use Rattle.std.proofs.lemmas.Option.{none-some, same_Some, get_or_from_slice_get, slice_get_within}
use Rattle.kb_fsa.specs.Table.{lookup, Moves, target, Ascends, IsRow, Table, IsTable, moves_of, is_accepting, step, after}

-- ---- look-ups

-- what the first entry gives, by whether its number is the one looked for
pub lookup_here : {X : Type 0} (entry : ℕ × X) (rest : List (ℕ × X)) (x : ℕ) → entry.0 ≡ x → lookup (entry ∷ rest) x ≡ Some entry.1
lookup_here entry rest x same = rw (eq-eqb entry.0 x same) refl

pub lookup_there : {X : Type 0} (entry : ℕ × X) (rest : List (ℕ × X)) (x : ℕ) → entry.0 ≢ x → lookup (entry ∷ rest) x ≡ lookup rest x
lookup_there entry rest x differ = rw (ne_eqb entry.0 x differ) refl

-- no entry has the number
pub lookup_nowhere : {X : Type 0} (entries : List (ℕ × X)) (x : ℕ) → All (λ entry. entry.0 ≢ x) entries → lookup entries x ≡ None
lookup_nowhere [] x none = refl
lookup_nowhere {X} (entry ∷ rest) x none =
    lookup_there entry rest x (All-head (λ (e : ℕ × X). e.0 ≢ x) entry rest none)
    ∙ lookup_nowhere rest x (All-tail (λ (e : ℕ × X). e.0 ≢ x) entry rest none)

pub lookup_below : {X : Type 0} (entries : List (ℕ × X)) (x : ℕ) → All (λ entry. x < entry.0) entries → lookup entries x ≡ None
lookup_below entries x above = lookup_nowhere entries x (λ k d h same. omega (arith, above k d h))

pub lookup_above : {X : Type 0} (entries : List (ℕ × X)) (x : ℕ) → All (λ entry. entry.0 < x) entries → lookup entries x ≡ None
lookup_above entries x below = lookup_nowhere entries x (λ k d h same. omega (arith, below k d h))

-- what a look-up finds is an entry
pub entry_from_lookup : {X : Type 0} (entries : List (ℕ × X)) (x : ℕ) (y : X) → lookup entries x ≡ Some y → Contains entries (x, y)
entry_from_lookup [] x y found = absurd (none-some y found)
entry_from_lookup (entry ∷ rest) x y found =
    elim (cases_eq entry.0 x) [
      | inl same ↦
          let value : entry.1 ≡ y = same_Some _ _ (sym (lookup_here entry rest x same) ∙ found) in
          (0, omega arith, pair_is entry x y same value)
      | inr differ ↦
          let later = entry_from_lookup rest x y (sym (lookup_there entry rest x differ) ∙ found) in
          (suc later.0, omega (arith, later.1), later.2)
    ]
  where
    pair_is : {Y : Type 0} (e : ℕ × Y) (a : ℕ) (b : Y) → e.0 ≡ a → e.1 ≡ b → e ≡ (a, b)
    pair_is e a b one two = ap (λ v. (v, e.1)) one ∙ ap (λ w. (a, w)) two

-- ---- ascending lists

pub Ascends-tail : {X : Type 0} (entry : ℕ × X) (rest : List (ℕ × X)) → Ascends (entry ∷ rest) → Ascends rest
Ascends-tail entry rest ascends i j d low high = ascends (suc i) (suc j) d (omega arith) (omega arith)

-- the first number is below the others
pub Ascends-head : {X : Type 0} (entry : ℕ × X) (rest : List (ℕ × X)) → Ascends (entry ∷ rest) → All (λ later. entry.0 < later.0) rest
Ascends-head entry rest ascends k d h = ascends 0 (suc k) d (omega arith) (omega arith)

pub Ascends-push : {X : Type 0} (entries : List (ℕ × X)) (x : ℕ) (y : X) → Ascends entries → All (λ entry. entry.0 < x) entries
    → Ascends (entries ++ (x, y) ∷ [])
Ascends-push {X} entries x y ascends below =
    all_pairs_push (λ (earlier : ℕ × X) (later : ℕ × X). earlier.0 < later.0) entries (x, y) ascends below

-- the entry at a place is the one that a look-up finds
pub lookup_at : {X : Type 0} (entries : List (ℕ × X)) (place : ℕ) (d : ℕ × X) → Ascends entries → place < length entries
    → lookup entries (get_or entries place d).0 ≡ Some (get_or entries place d).1
lookup_at {X} entries place d ascends within =
    found_at (λ es. lookup es (get_or entries place d).0) (λ (e : ℕ × X). nat_eq e.0 (get_or entries place d).0) (λ e. Some e.1) None refl (λ _ _. refl)
    entries place d within
    (λ k h. ne_eqb _ _ (λ same. omega (arith, ascends k place d h within)))
    (eq-eqb _ _ refl)

-- in an ascending list a look-up finds each entry
pub lookup_from_entry : {X : Type 0} (entries : List (ℕ × X)) (x : ℕ) (y : X) → Ascends entries → Contains entries (x, y) → lookup entries x ≡ Some y
lookup_from_entry entries x y ascends entry =
    let found = lookup_at entries entry.0 (x, y) ascends entry.1 in
    sym (ap (λ e. lookup entries e.0) entry.2) ∙ found ∙ ap (λ e. Some e.1) entry.2

pub lookup_from_place : {X : Type 0} (entries : List (ℕ × X)) (place x : ℕ) (y : X) → Ascends entries → slice_get entries place ≡ Some (x, y)
    → lookup entries x ≡ Some y
lookup_from_place entries place x y ascends at =
    lookup_from_entry entries x y ascends (place, slice_get_within entries place (x, y) at, get_or_from_slice_get entries place (x, y) (x, y) at)

-- ascending lists with the same look-ups are one list
pub same_from_lookups : {X : Type 0} (entries others : List (ℕ × X)) → Ascends entries → Ascends others
    → ((x : ℕ) → lookup entries x ≡ lookup others x) → entries ≡ others
same_from_lookups [] [] one two same = refl
same_from_lookups [] (other ∷ others) one two same = absurd (none-some other.1 (same other.0 ∙ lookup_here other others other.0 refl))
same_from_lookups (entry ∷ entries) [] one two same =
    absurd (none-some entry.1 (sym (same entry.0) ∙ lookup_here entry entries entry.0 refl))
same_from_lookups (entry ∷ entries) (other ∷ others) one two same =
    elim (cases_order entry.0 other.0) [
      | inl number ↦
          let value : entry.1 ≡ other.1 =
          same_Some _ _ (sym (lookup_here entry entries entry.0 refl) ∙ same entry.0 ∙ lookup_here other others entry.0 (sym number)) in
          let rest = same_from_lookups entries others (Ascends-tail entry entries one) (Ascends-tail other others two)
          (λ x. rest_same entry other entries others one two same number x) in
          join entry other entries others number value rest
      | inr apart ↦ elim apart [
        | inl less ↦ absurd (first_less entry other entries others two same less)
        | inr more ↦ absurd (first_less other entry others entries one (λ x. sym (same x)) more)
      ]
    ]
  where
    join : {Y : Type 0} (e o : ℕ × Y) (es os : List (ℕ × Y)) → e.0 ≡ o.0 → e.1 ≡ o.1 → es ≡ os → e ∷ es ≡ o ∷ os
    join e o es os a b c = ap (λ v. (v, e.1) ∷ es) a ∙ ap (λ w. (o.0, w) ∷ es) b ∙ ap (λ rest. o ∷ rest) c

    first_less : {Y : Type 0} (e o : ℕ × Y) (es os : List (ℕ × Y)) → Ascends (o ∷ os)
        → ((x : ℕ) → lookup (e ∷ es) x ≡ lookup (o ∷ os) x) → e.0 < o.0 → ⊥
    first_less {Y} e o es os up alike less =
        let head = Ascends-head o os up in
        let none = lookup_below (o ∷ os) e.0 (All-cons (λ (p : ℕ × Y). e.0 < p.0) o os less (λ k d h. omega (arith, head k d h))) in
        none-some e.1 (sym none ∙ sym (alike e.0) ∙ lookup_here e es e.0 refl)

    rest_same : {Y : Type 0} (e o : ℕ × Y) (es os : List (ℕ × Y)) → Ascends (e ∷ es) → Ascends (o ∷ os)
        → ((x : ℕ) → lookup (e ∷ es) x ≡ lookup (o ∷ os) x) → e.0 ≡ o.0 → (x : ℕ) → lookup es x ≡ lookup os x
    rest_same {Y} e o es os up upper alike number x =
        elim (cases_eq e.0 x) [
          | inl here ↦
              let P = λ (z : ℕ) (p : ℕ × Y). z < p.0 in
              lookup_below es x (let Q : ℕ → Type 0 = λ z. All (P z) es in subst Q here (Ascends-head e es up))
              ∙ sym (lookup_below os x (let Q : ℕ → Type 0 = λ z. All (P z) os in subst Q (sym number ∙ here) (Ascends-head o os upper)))
          | inr there ↦ sym (lookup_there e es x there) ∙ alike x ∙ lookup_there o os x (λ at. there (number ∙ at))
        ]

-- ---- an entry more at the end

pub lookup-push_found : {X : Type 0} (entries : List (ℕ × X)) (x : ℕ) (y : X) (z : ℕ) (value : X) → lookup entries z ≡ Some value
    → lookup (entries ++ (x, y) ∷ []) z ≡ Some value
lookup-push_found [] x y z value found = absurd (none-some value found)
lookup-push_found (entry ∷ rest) x y z value found =
    elim (cases_eq entry.0 z) [
      | inl same ↦ lookup_here entry (rest ++ (x, y) ∷ []) z same ∙ sym (lookup_here entry rest z same) ∙ found
      | inr differ ↦
          lookup_there entry (rest ++ (x, y) ∷ []) z differ
          ∙ lookup-push_found rest x y z value (sym (lookup_there entry rest z differ) ∙ found)
    ]

pub lookup-push_none : {X : Type 0} (entries : List (ℕ × X)) (x : ℕ) (y : X) (z : ℕ) → lookup entries z ≡ None
    → lookup (entries ++ (x, y) ∷ []) z ≡ lookup ((x, y) ∷ []) z
lookup-push_none [] x y z none = refl
lookup-push_none (entry ∷ rest) x y z none =
    elim (cases_eq entry.0 z) [
      | inl same ↦ absurd (none-some entry.1 (sym none ∙ lookup_here entry rest z same))
      | inr differ ↦
          lookup_there entry (rest ++ (x, y) ∷ []) z differ
          ∙ lookup-push_none rest x y z (sym (lookup_there entry rest z differ) ∙ none)
    ]

pub lookup-push_same : {X : Type 0} (entries : List (ℕ × X)) (x : ℕ) (y : X) → lookup entries x ≡ None
    → lookup (entries ++ (x, y) ∷ []) x ≡ Some y
lookup-push_same entries x y none = lookup-push_none entries x y x none ∙ lookup_here (x, y) [] x refl

pub lookup-push_other : {X : Type 0} (entries : List (ℕ × X)) (x : ℕ) (y : X) (z : ℕ) → z ≢ x
    → lookup (entries ++ (x, y) ∷ []) z ≡ lookup entries z
lookup-push_other [] x y z differ = lookup_there (x, y) [] z (λ same. differ (sym same))
lookup-push_other (entry ∷ rest) x y z differ =
    elim (cases_eq entry.0 z) [
      | inl same ↦ lookup_here entry (rest ++ (x, y) ∷ []) z same ∙ sym (lookup_here entry rest z same)
      | inr apart ↦
          lookup_there entry (rest ++ (x, y) ∷ []) z apart ∙ lookup-push_other rest x y z differ
          ∙ sym (lookup_there entry rest z apart)
    ]

-- ---- rows

pub IsRow-nil : IsRow []
IsRow-nil = record { ascends = λ i j d low high. absurd (omega arith); numbers = λ k d h. absurd (omega arith) }

pub IsRow-push : (moves : Moves) (symbol state : ℕ) → IsRow moves → 0 < symbol → 0 < state → All (λ move. move.0 < symbol) moves
    → IsRow (moves ++ (symbol, state) ∷ [])
IsRow-push moves symbol state row positive some below = record {
  ascends = Ascends-push moves symbol state row.ascends below;
  numbers = All-push (λ (move : ℕ × ℕ). (0 < move.0) × (0 < move.1)) moves (symbol, state) row.numbers (positive, some);
}

-- a move's target is a state
pub lookup_positive : (moves : Moves) (symbol state : ℕ) → IsRow moves → lookup moves symbol ≡ Some state → 0 < state
lookup_positive moves symbol state row found =
    (All-contains (λ (move : ℕ × ℕ). (0 < move.0) × (0 < move.1)) moves (symbol, state) row.numbers (entry_from_lookup moves symbol state found)).1

pub target_none : (moves : Moves) (symbol : ℕ) → lookup moves symbol ≡ None → target moves symbol ≡ 0
target_none moves symbol none = ap (λ o. unwrap_or o 0) none

pub target_some : (moves : Moves) (symbol state : ℕ) → lookup moves symbol ≡ Some state → target moves symbol ≡ state
target_some moves symbol state found = ap (λ o. unwrap_or o 0) found

option_cases : (o : Option ℕ) → (o ≡ None) ⊎ ((y : ℕ) × (o ≡ Some y))
option_cases None = inl refl
option_cases (Some y) = inr (y, refl)

-- the target is 0 only where there is no move
pub lookup_from_no_target : (moves : Moves) (symbol : ℕ) → IsRow moves → target moves symbol ≡ 0 → lookup moves symbol ≡ None
lookup_from_no_target moves symbol row zero_there =
    elim (option_cases (lookup moves symbol)) [
      | inl none ↦ none
      | inr some ↦
          let is = target_some moves symbol some.0 some.1 in
          absurd (omega (arith, lookup_positive moves symbol some.0 row some.1))
    ]

pub lookup_from_target : (moves : Moves) (symbol state : ℕ) → 0 < state → target moves symbol ≡ state → lookup moves symbol ≡ Some state
lookup_from_target moves symbol state positive is =
    elim (option_cases (lookup moves symbol)) [
      | inl none ↦ let nothing = target_none moves symbol none in absurd (omega arith)
      | inr some ↦ some.1 ∙ ap (λ y. Some y) (sym (target_some moves symbol some.0 some.1) ∙ is)
    ]

-- rows with the same targets are one row
pub same_from_targets : (moves others : Moves) → IsRow moves → IsRow others → ((symbol : ℕ) → target moves symbol ≡ target others symbol)
    → moves ≡ others
same_from_targets moves others one two same =
    same_from_lookups moves others one.ascends two.ascends (λ symbol.
    elim (option_cases (lookup moves symbol)) [
      | inl none ↦ none ∙ sym (lookup_from_no_target others symbol two (sym (same symbol) ∙ target_none moves symbol none))
      | inr some ↦
          some.1 ∙ sym (lookup_from_target others symbol some.0 (lookup_positive moves symbol some.0 one some.1)
          (sym (same symbol) ∙ target_some moves symbol some.0 some.1))
    ])

-- what holds of each move holds of the one that a target is by
pub target_within : (moves : Moves) (symbol n : ℕ) → All (λ move. move.1 ≤ n) moves → target moves symbol ≤ n
target_within moves symbol n within =
    elim (option_cases (lookup moves symbol)) [
      | inl none ↦ omega (arith, target_none moves symbol none)
      | inr some ↦
          omega (
            arith,
            target_some moves symbol some.0 some.1,
            All-contains (λ (move : ℕ × ℕ). move.1 ≤ n) moves (symbol, some.0) within (entry_from_lookup moves symbol some.0 some.1),
          )
    ]

-- what a binary search by symbols answers
pub searched : (moves : Moves) (symbol : ℕ) (r : Result ℕ ℕ) → Ascends moves → IsSearchInRange r (length moves)
    → IsBinarySearchResult (λ move. nat_cmp move.0 symbol) moves r
    → MatchResult r (λ place. (d : ℕ × ℕ) → (get_or moves place d).1 ≡ target moves symbol) (λ place. 0 ≡ target moves symbol)
searched moves symbol (Ok place) ascends within equal = λ d.
    let number : (get_or moves place d).0 ≡ symbol = ranked _ symbol _ (sym (equal d)) in
    sym (target_some moves symbol (get_or moves place d).1
    (ap (λ x. lookup moves x) (sym number) ∙ lookup_at moves place d ascends within))
searched moves symbol (Err place) ascends within parted =
    let point = parted (rises moves symbol ascends) in
    sym (target_none moves symbol (lookup_nowhere moves symbol (λ k d h same.
    elim (cases_lt k place) [
      | inl low ↦ let less = ranked _ symbol _ (sym (point.0 k d (omega arith) low)) in absurd (omega arith)
      | inr high ↦ let more = ranked _ symbol _ (sym (point.1 k d high h)) in absurd (omega arith)
    ])))
  where
    rises : (ms : Moves) (x : ℕ) → Ascends ms → IsNonDecreasingBy (λ move. ordering_index (nat_cmp move.0 x)) ms
    rises ms x up = IsNonDecreasingBy-from_default (λ move. ordering_index (nat_cmp move.0 x)) ms (0, 0) (λ i j le in_range.
        let keys : (get_or ms i (0, 0)).0 ≤ (get_or ms j (0, 0)).0 =
        grind (arith, up i j (0, 0), λ (same : i ≡ j). ap (λ k. (get_or ms k (0, 0)).0) same) in
        grind (arith, nat_tests))

-- ---- the states of a table

-- what is no state has no moves
pub moves_past : (table : Table) (state : ℕ) → length table.rows < state → moves_of table state ≡ []
moves_past table zero past = absurd (omega arith)
moves_past table (suc place) past = get_or_past table.rows place [] (omega arith)

pub step_past : (table : Table) (state symbol : ℕ) → length table.rows < state → step table state symbol ≡ 0
step_past table state symbol past = ap (λ moves. target moves symbol) (moves_past table state past)

-- nor does it accept
pub rejects_past : (table : Table) (state : ℕ) → IsTable table → length table.rows < state → is_accepting table state ≡ false
rejects_past table zero is past = absurd (omega arith)
rejects_past table (suc place) is past = get_or_past table.accepting place false (omega (arith, is.one_answer_each))

-- what accepts is a state
pub accepting_positive : (table : Table) (state : ℕ) → IsTrue (is_accepting table state) → 0 < state
accepting_positive table zero accepts = cc
accepting_positive table (suc place) accepts = omega arith

pub accepting_within : (table : Table) (state : ℕ) → IsTable table → IsTrue (is_accepting table state) → state ≤ length table.rows
accepting_within table state is accepts =
    elim (cases_lt (length table.rows) state) [
      | inl past ↦ let no = rejects_past table state is past in cc
      | inr within ↦ within
    ]

-- what holds of each row, and of the empty one, holds of each state's moves
pub All-moves_of : (P : Moves → Type 0) (table : Table) (state : ℕ) → P [] → All P table.rows → P (moves_of table state)
All-moves_of P table zero none all = none
All-moves_of P table (suc place) none all =
    elim (cases_lt place (length table.rows)) [
      | inl within ↦ All-get_or P table.rows place [] within all
      | inr past ↦ subst P (sym (get_or_past table.rows place [] past)) none
    ]

pub IsRow-moves_of : (table : Table) (state : ℕ) → IsTable table → IsRow (moves_of table state)
IsRow-moves_of table state is = All-moves_of IsRow table state IsRow-nil is.rows

pub step_within : (table : Table) (state symbol : ℕ) → IsTable table → step table state symbol ≤ length table.rows
step_within table state symbol is =
    target_within (moves_of table state) symbol (length table.rows)
    (All-moves_of (λ moves. All (λ move. move.1 ≤ length table.rows) moves) table state (All-nil (λ move. move.1 ≤ length table.rows)) is.targets)

pub after_within : (table : Table) (state : ℕ) (text : List ℕ) → IsTable table → state ≤ length table.rows
    → after table state text ≤ length table.rows
after_within table state [] is within = within
after_within table state (symbol ∷ text) is within =
    after_within table (step table state symbol) text is (step_within table state symbol is)

pub after-append : (table : Table) (state : ℕ) (text more : List ℕ) → after table state (text ++ more) ≡ after table (after table state text) more
after-append table state [] more = refl
after-append table state (symbol ∷ text) more = after-append table (step table state symbol) text more

-- no text leads on from no state
pub after_none : (table : Table) (text : List ℕ) → after table 0 text ≡ 0
after_none table [] = refl
after_none table (symbol ∷ text) = after_none table text

-- a step of a loop that reads the text: the next state, with the rest, leads where the last one did
pub after-more : (table : Table) (state next symbol place : ℕ) (text : List ℕ) → drop place text ≡ symbol ∷ drop (suc place) text
    → next ≡ step table state symbol → after table next (drop (place + 1) text) ≡ after table state (drop place text)
after-more table state next symbol place text here is =
    rw add-one (ap (λ s. after table s (drop (suc place) text)) is ∙ sym (ap (after table state) here))

-- what the text leads to, once it is read
pub after-all : (table : Table) (state place : ℕ) (text : List ℕ) → length text ≤ place → after table state (drop place text) ≡ state
after-all table state place text past = ap (after table state) (drop_all place text past)

-- ---- rows side by side

-- the row at a place where there is one
pub row_read : (rows : List Moves) (k : ℕ) (row : Moves) → All IsRow rows → slice_get rows k ≡ Some row → IsRow row
row_read [] k row all is = cc
row_read (r ∷ rows) zero row all is = let same : r ≡ row = cc in subst IsRow same (all 0 [] (omega arith))
row_read (r ∷ rows) (suc k) row all is = row_read rows k row (λ j d lt. all (suc j) d (omega (arith, lt))) is

-- and past the last one
pub none_read : (rows : List Moves) (k : ℕ) → slice_get rows k ≡ None → get_or rows k [] ≡ []
none_read [] k e = refl
none_read (r ∷ rows) zero e = cc
none_read (r ∷ rows) (suc k) e = none_read rows k e

-- all are rows where one more was pushed, and where none was
pub pushed_rows : {T E : Type 0} (old new : List Moves) (row : Moves) (result : Result T E) → All IsRow old → IsRow row → OnOk result (new ≡ old ++ row ∷ []) → OnErr result (new ≡ old) → All IsRow new
pushed_rows old new row (Ok x) all is pushed kept = subst (All IsRow) (sym pushed) (All-push IsRow old row all is)
pushed_rows old new row (Err x) all is pushed kept = subst (All IsRow) (sym kept) all
