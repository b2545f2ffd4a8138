-- Moves as marks, and the groups of what is marked.
use Rattle.std.proofs.Common.{◌≡◌, ◌≢◌, ◌⊎◌, ℕ, zero, suc, ◌+◌, ◌-◌, ◌<◌, ◌≤◌, Bool, true, false, nat_eq, List, [], ◌∷◌, ◌++◌, length, get_or, set, take, drop, Option, Some, None, refl, sym, ap, ◌∙◌, subst, inl, inr, arith, append-nil, append_assoc}
use Rattle.std.specs.Int.{from_bool}
use Rattle.std.specs.List.{All, Contains}
use Rattle.std.proofs.lemmas.Bool.{cases_eq, cases_lt}
use Rattle.std.proofs.lemmas.Bool.Decides.{Decides-eqb}
use Rattle.std.proofs.lemmas.List.{take_more, take_more_set, take-set, at_drop_more, length-set, get_or_default, get_or_past, get_or-set_same, get_or-set_other}
use Rattle.std.proofs.lemmas.List.Elements.{All-contains, All-nil, All-cons, Contains-get_or, Contains-append_left, Contains-push, Contains-push_cases}
use Rattle.std.proofs.lemmas.List.Kept.{AllPairs-cons}
use Rattle.kb_fsa.specs.Table.{lookup, Moves, Ascends}
use Rattle.kb_fsa.proofs.Lookups.{lookup_here, lookup_there, lookup_below}
use Rattle.kb_fsadet.specs.Nondeterministic.{IsOneOf}
use Rattle.kb_fsadet.specs.SubsetConstruction.{IsAscending, set_of, some_set, targets_by, AreGroups}
use Rattle.kb_fsadet.specs.Marks.{AreMarks, AreMarkedRows, numbers_from, with_group, groups_from}
use Rattle.kb_fsadet.proofs.Sets.{Contains-none, Contains-here, Contains-there, Contains-cons_cases, All-from_contains, IsAscending-nil, IsAscending-set_of, Contains-set_of, same_from_members}
use Rattle.kb_fsadet.proofs.Targets.{Contains-targets_by, targets_by-append, targets_by_all, targets_by_nowhere}

-- ---- the numbers of what is marked

Contains-numbers_from : (number : ℕ) (marks : List Bool) (x : ℕ) → Contains (numbers_from number marks) x
    → (place : ℕ) × ((x ≡ number + place) × (get_or marks place false ≡ true))
Contains-numbers_from number [] x at = absurd (Contains-none x at)
Contains-numbers_from number (true ∷ marks) x at =
    elim (Contains-cons_cases number (numbers_from (suc number) marks) x at) [
      | inl is ↦ (0, (omega arith, refl))
      | inr there ↦
          let later = Contains-numbers_from (suc number) marks x there in
          (suc later.0, (omega (arith, later.1.0), later.1.1))
    ]
Contains-numbers_from number (false ∷ marks) x at =
    let later = Contains-numbers_from (suc number) marks x at in
    (suc later.0, (omega (arith, later.1.0), later.1.1))

numbers_from_contain : (number : ℕ) (marks : List Bool) (place x : ℕ) → x ≡ number + place → get_or marks place false ≡ true
    → Contains (numbers_from number marks) x
numbers_from_contain number [] place x is marked = let no : ⊥ = cc in absurd no
numbers_from_contain number (true ∷ marks) zero x is marked = (0, omega arith, omega arith)
numbers_from_contain number (true ∷ marks) (suc place) x is marked =
    Contains-there number (numbers_from (suc number) marks) x (numbers_from_contain (suc number) marks place x (omega arith) marked)
numbers_from_contain number (false ∷ marks) zero x is marked = let no : ⊥ = cc in absurd no
numbers_from_contain number (false ∷ marks) (suc place) x is marked =
    numbers_from_contain (suc number) marks place x (omega arith) marked

pub IsAscending-numbers_from : (number : ℕ) (marks : List Bool) → IsAscending (numbers_from number marks)
IsAscending-numbers_from number [] = IsAscending-nil
IsAscending-numbers_from number (true ∷ marks) =
    AllPairs-cons (λ a b. a < b) number (numbers_from (suc number) marks)
    (All-from_contains (λ b. number < b) (numbers_from (suc number) marks) (λ x at.
    let later = Contains-numbers_from (suc number) marks x at in omega (arith, later.1.0)))
    (IsAscending-numbers_from (suc number) marks)
IsAscending-numbers_from number (false ∷ marks) = IsAscending-numbers_from (suc number) marks

-- one turn of the loop that finds them: the next is put at the front, where there is one
pub numbers_step : (marks : List Bool) (numbers : List ℕ) (i found number one : ℕ) → i < length marks → found ≤ i → length numbers ≡ length marks
    → one ≡ from_bool (get_or marks i false)
    → take found numbers ++ numbers_from (suc number) (drop i marks) ≡ numbers_from 1 marks
    → take (found + one) (set numbers found (number + 1)) ++ numbers_from (suc (number + 1)) (drop (i + 1) marks) ≡ numbers_from 1 marks
numbers_step marks numbers i found number one within before long is so_far =
    ap (λ n. take (found + n) (set numbers found (number + 1)) ++ numbers_from (suc (number + 1)) (drop (i + 1) marks)) is
    ∙ by (get_or marks i false) ∙ ap (λ back. take found numbers ++ back) (sym (at_drop_more (numbers_from (suc number)) marks i false within)) ∙ so_far
  where
    next : suc number ≡ number + 1
    next = omega arith

    by : (mark : Bool)
        → take (found + from_bool mark) (set numbers found (number + 1)) ++ numbers_from (suc (number + 1)) (drop (i + 1) marks)
        ≡ take found numbers ++ numbers_from (suc number) (mark ∷ drop (i + 1) marks)
    by true =
        let rest = drop (i + 1) marks in
        ap (λ front. front ++ numbers_from (suc (number + 1)) rest) (take_more_set numbers found (number + 1) (omega arith))
        ∙ append_assoc (take found numbers) ((number + 1) ∷ []) (numbers_from (suc (number + 1)) rest)
        ∙ ap (λ n. take found numbers ++ n ∷ numbers_from (suc n) rest) (sym next)
    by false =
        let rest = drop (i + 1) marks in
        let none : found + from_bool false ≡ found = omega arith in
        ap (λ n. take n (set numbers found (number + 1)) ++ numbers_from (suc (number + 1)) rest) none
        ∙ ap (λ front. front ++ numbers_from (suc (number + 1)) rest) (take-set numbers found (number + 1))
        ∙ ap (λ n. take found numbers ++ numbers_from (suc n) rest) (sym next)

-- they are the set of the states
pub set_from_marks : (states : List ℕ) (count : ℕ) (marks : List Bool) → All (IsOneOf count) states → AreMarks states count marks
    → numbers_from 1 marks ≡ set_of states
set_from_marks states count marks known are =
    same_from_members (numbers_from 1 marks) (set_of states) (IsAscending-numbers_from 1 marks) (IsAscending-set_of states) (λ x. (
      λ at.
          let number = Contains-numbers_from 1 marks x at in
          (Contains-set_of states x).1
          (subst (Contains states) (let same : suc number.0 ≡ x = omega (arith, number.1.0) in same) ((are.marked number.0).0 number.1.1)),
      λ at.
          let has = (Contains-set_of states x).0 at in
          let positive = (All-contains (IsOneOf count) states x known has).0 in
          let is : x ≡ suc (x - 1) = omega arith in
          numbers_from_contain 1 marks (x - 1) x (omega arith) ((are.marked (x - 1)).1 (subst (Contains states) is has)),
    ))

-- ---- the groups of rows

abbrev some_of : List ℕ → Option (List ℕ)
some_of [] = None
some_of (x ∷ xs) = Some (x ∷ xs)

some_of-set_of : (xs : List ℕ) → some_of (set_of xs) ≡ some_set xs
some_of-set_of [] = refl
some_of-set_of (x ∷ xs) =
    let has = (Contains-set_of (x ∷ xs) x).1 (Contains-here x xs) in
    some (set_of (x ∷ xs)) (omega (arith, has.1))
  where
    some : (ys : List ℕ) → 0 < length ys → some_of ys ≡ Some ys
    some [] long = absurd (let no : ⊥ = omega arith in no)
    some (y ∷ ys) long = refl

with_group_first : (symbol : ℕ) (states : List ℕ) (groups : List (ℕ × List ℕ)) → with_group symbol states groups ≡ with_group symbol states [] ++ groups
with_group_first symbol [] groups = refl
with_group_first symbol (state ∷ states) groups = refl

-- a group of some states, and of none
pub with_some : (symbol : ℕ) (states : List ℕ) → nat_eq (length states) 0 ≡ false → with_group symbol states [] ≡ (symbol, states) ∷ []
with_some symbol [] some = let no : ⊥ = cc in absurd no
with_some symbol (state ∷ states) some = refl

pub with_none : (symbol : ℕ) (states : List ℕ) → nat_eq (length states) 0 ≡ true → with_group symbol states [] ≡ []
with_none symbol [] none = refl
with_none symbol (state ∷ states) none =
    let count = (Decides-eqb (length (state ∷ states)) 0).0 none in absurd (let no : ⊥ = omega arith in no)

-- one turn of the loop that makes them
pub groups_step : (rows : List (List Bool)) (i symbol : ℕ) (groups more : List (ℕ × List ℕ)) (states : List ℕ) → i < length rows
    → states ≡ numbers_from 1 (get_or rows i []) → groups ++ groups_from (suc symbol) (drop i rows) ≡ groups_from 1 rows
    → more ≡ groups ++ with_group (symbol + 1) states []
    → more ++ groups_from (suc (symbol + 1)) (drop (i + 1) rows) ≡ groups_from 1 rows
groups_step rows i symbol groups more states within are so_far is =
    let rest = drop (i + 1) rows in
    let next : suc symbol ≡ symbol + 1 = omega arith in
    ap (λ front. front ++ groups_from (suc (symbol + 1)) rest) is
    ∙ append_assoc groups (with_group (symbol + 1) states []) (groups_from (suc (symbol + 1)) rest)
    ∙ ap (λ back. groups ++ back) (sym (with_group_first (symbol + 1) states (groups_from (suc (symbol + 1)) rest)))
    ∙ ap (λ n. groups ++ with_group n states (groups_from (suc n) rest)) (sym next)
    ∙ ap (λ some. groups ++ with_group (suc symbol) some (groups_from (suc (suc symbol)) rest)) are
    ∙ ap (λ back. groups ++ back) (sym (at_drop_more (groups_from (suc symbol)) rows i [] within)) ∙ so_far

-- what holds of the symbol of each row that has marks holds of each group's
each_group : (P : ℕ → Type 0) (symbol : ℕ) (rows : List (List Bool))
    → ((place : ℕ) (at : ℕ) → at ≡ symbol + place → 0 < length (numbers_from 1 (get_or rows place [])) → P at)
    → All (λ group. P group.0) (groups_from symbol rows)
each_group P symbol [] each = All-nil (λ (group : ℕ × List ℕ). P group.0)
each_group P symbol (row ∷ rows) each =
    with_more (numbers_from 1 row) (each 0 symbol (omega arith))
    (each_group P (suc symbol) rows (λ place at is some. each (suc place) at (omega arith) some))
  where
    with_more : (states : List ℕ) → (0 < length states → P symbol) → All (λ group. P group.0) (groups_from (suc symbol) rows)
        → All (λ group. P group.0) (with_group symbol states (groups_from (suc symbol) rows))
    with_more [] here later = later
    with_more (state ∷ states) here later =
        All-cons (λ (group : ℕ × List ℕ). P group.0) (symbol, state ∷ states) (groups_from (suc symbol) rows) (here (omega arith)) later

groups_above : (symbol : ℕ) (rows : List (List Bool)) → All (λ group. symbol < group.0) (groups_from (suc symbol) rows)
groups_above symbol rows = each_group (λ at. symbol < at) (suc symbol) rows (λ place at is some. omega arith)

Ascends-groups_from : (symbol : ℕ) (rows : List (List Bool)) → Ascends (groups_from symbol rows)
Ascends-groups_from symbol [] = λ i j d low high. absurd (let no : ⊥ = omega arith in no)
Ascends-groups_from symbol (row ∷ rows) = with_more (numbers_from 1 row) (Ascends-groups_from (suc symbol) rows)
  where
    with_more : (states : List ℕ) → Ascends (groups_from (suc symbol) rows) → Ascends (with_group symbol states (groups_from (suc symbol) rows))
    with_more [] later = later
    with_more (state ∷ states) later =
        AllPairs-cons (λ (one other : ℕ × List ℕ). one.0 < other.0) (symbol, state ∷ states) (groups_from (suc symbol) rows)
        (groups_above symbol rows) later

-- the group of a symbol is of what is marked in its row
lookup-groups_from : (symbol : ℕ) (rows : List (List Bool)) (place at : ℕ) → at ≡ symbol + place
    → lookup (groups_from symbol rows) at ≡ some_of (numbers_from 1 (get_or rows place []))
lookup-groups_from symbol [] place at is = refl
lookup-groups_from symbol (row ∷ rows) zero at is = here (numbers_from 1 row)
  where
    here : (states : List ℕ) → lookup (with_group symbol states (groups_from (suc symbol) rows)) at ≡ some_of states
    here [] =
        lookup_below (groups_from (suc symbol) rows) at
        (each_group (λ x. at < x) (suc symbol) rows (λ place x later some. omega arith))
    here (state ∷ states) = lookup_here (symbol, state ∷ states) (groups_from (suc symbol) rows) at (omega arith)
lookup-groups_from symbol (row ∷ rows) (suc place) at is =
    there (numbers_from 1 row) ∙ lookup-groups_from (suc symbol) rows place at (omega arith)
  where
    there : (states : List ℕ)
        → lookup (with_group symbol states (groups_from (suc symbol) rows)) at ≡ lookup (groups_from (suc symbol) rows) at
    there [] = refl
    there (state ∷ states) = lookup_there (symbol, state ∷ states) (groups_from (suc symbol) rows) at (λ same. omega arith)

-- the groups of the moves' rows are those of the moves
module _ (moves : Moves) (count states : ℕ) (rows : List (List Bool))
    (known : All (λ move. IsOneOf count move.0 × IsOneOf states move.1) moves) (are : AreMarkedRows moves count states rows) where
  targets_known : (symbol : ℕ) → All (IsOneOf states) (targets_by moves symbol)
  targets_known symbol =
      All-from_contains (IsOneOf states) (targets_by moves symbol) (λ target at.
      (All-contains (λ (m : ℕ × ℕ). IsOneOf count m.0 × IsOneOf states m.1) moves (symbol, target) known
      ((Contains-targets_by moves symbol target).0 at)).1)

  row_is : (place : ℕ) → place < count → numbers_from 1 (get_or rows place []) ≡ set_of (targets_by moves (suc place))
  row_is place within =
      set_from_marks (targets_by moves (suc place)) states (get_or rows place []) (targets_known (suc place)) (are.marks place within)

  past_is : (place : ℕ) → count ≤ place → numbers_from 1 (get_or rows place []) ≡ []
  past_is place past = ap (numbers_from 1) (get_or_past rows place [] (omega (arith, are.one_each)))

  has_move : (place at : ℕ) → at ≡ 1 + place → 0 < length (numbers_from 1 (get_or rows place [])) → (target : ℕ) × Contains moves (at, target)
  has_move place at is some =
      elim (cases_lt place count) [
        | inl within ↦
            let symbol : suc place ≡ at = omega arith in
            let alike : numbers_from 1 (get_or rows place []) ≡ set_of (targets_by moves at) =
            row_is place within ∙ ap (λ x. set_of (targets_by moves x)) symbol in
            let target = get_or (set_of (targets_by moves at)) 0 0 in
            let has = Contains-get_or (set_of (targets_by moves at)) 0 0 (omega (arith, ap length alike)) in
            (target, (Contains-targets_by moves at target).0 ((Contains-set_of (targets_by moves at) target).0 has))
        | inr past ↦ absurd (let no : ⊥ = omega (arith, ap length (past_is place past)) in no)
      ]

  none_by : (symbol : ℕ) → (symbol ≡ 0) ⊎ (count < symbol) → targets_by moves symbol ≡ []
  none_by symbol unknown =
      targets_by_nowhere moves symbol (λ k d h same.
      let one = (known k d h).0 in
      elim unknown [
        | inl none ↦ omega (arith, one.0)
        | inr more ↦ omega (arith, one.1)
      ])

  each_symbol : (symbol : ℕ) → lookup (groups_from 1 rows) symbol ≡ some_set (targets_by moves symbol)
  each_symbol zero = lookup_below (groups_from 1 rows) 0 (groups_above 0 rows) ∙ ap some_set (sym (none_by 0 (inl refl)))
  each_symbol (suc place) =
      lookup-groups_from 1 rows place (suc place) (omega arith)
      ∙ elim (cases_lt place count) [
        | inl within ↦ ap some_of (row_is place within) ∙ some_of-set_of (targets_by moves (suc place))
        | inr past ↦ ap some_of (past_is place past) ∙ ap some_set (sym (none_by (suc place) (inr (omega arith))))
      ]

  pub groups_from_rows : AreGroups moves (groups_from 1 rows)
  groups_from_rows = record {
    ascends = Ascends-groups_from 1 rows;
    symbols = each_group (λ at. (target : ℕ) × Contains moves (at, target)) 1 rows has_move;
    each = each_symbol;
  }

-- each row has a mark for each state
pub row_length : (moves : Moves) (count states : ℕ) (rows : List (List Bool)) → AreMarkedRows moves count states rows
    → (place : ℕ) (d : List Bool) → place < length rows → length (get_or rows place d) ≡ states
row_length moves count states rows are place d within =
    let row = are.marks place (omega (arith, are.one_each)) in
    ap length (get_or_default rows place d [] within) ∙ row.one_each

-- ---- marking

AreMarks-more : (states : List ℕ) (count : ℕ) (marks : List Bool) (state : ℕ) → IsOneOf count state → AreMarks states count marks
    → AreMarks (states ++ state ∷ []) count (set marks (state - 1) true)
AreMarks-more states count marks state known are =
    let at = state - 1 in record {
      one_each = length-set marks at true ∙ are.one_each;
      marked = λ place. elim (cases_eq place at) [
        | inl here ↦ (
          λ marked. subst (Contains (states ++ state ∷ [])) (let is : state ≡ suc place = omega (arith, known.0) in is) (Contains-push states state),
          λ has. ap (λ p. get_or (set marks at true) p false) here ∙ get_or-set_same marks at true false (omega (arith, known.0, known.1, are.one_each)),
        )
        | inr there ↦ (
          λ marked. Contains-append_left states (state ∷ []) (suc place)
              ((are.marked place).0 (sym (get_or-set_other marks at place true false there) ∙ marked)),
          λ has. get_or-set_other marks at place true false there ∙ (are.marked place).1 (elim (Contains-push_cases states state (suc place) has) [
            | inl old ↦ old
            | inr new ↦ absurd (there (omega arith))
          ]),
        )
      ];
    }

-- the target is marked in the row of the symbol
pub AreMarkedRows-more : (moves : Moves) (count states : ℕ) (rows : List (List Bool)) (i : ℕ) (d : ℕ × ℕ) (row : List Bool) → i < length moves
    → IsOneOf count (get_or moves i d).0 → IsOneOf states (get_or moves i d).1 → AreMarkedRows (take i moves) count states rows
    → row ≡ set (get_or rows ((get_or moves i d).0 - 1) []) ((get_or moves i d).1 - 1) true
    → AreMarkedRows (take (i + 1) moves) count states (set rows ((get_or moves i d).0 - 1) row)
AreMarkedRows-more moves count states rows i d row within symbol_known target_known are is =
    let move = get_or moves i d in
    let at = move.0 - 1 in
    let P : Moves → Type 0 = λ some. AreMarkedRows some count states (set rows at row) in
    subst P (sym (take_more moves i d within)) (record {
      one_each = length-set rows at row ∙ are.one_each;
      marks = λ place below. elim (cases_eq place at) [
        | inl here ↦
            let symbol : move.0 ≡ suc place = omega (arith, symbol_known.0) in
            let row_is : get_or (set rows at row) place [] ≡ set (get_or rows place []) (move.1 - 1) true =
            ap (λ p. get_or (set rows at row) p []) here ∙ get_or-set_same rows at row [] (omega (arith, are.one_each)) ∙ is
            ∙ ap (λ p. set (get_or rows p []) (move.1 - 1) true) (sym here) in
            let targets : targets_by (take i moves ++ move ∷ []) (suc place) ≡ targets_by (take i moves) (suc place) ++ move.1 ∷ [] =
            targets_by-append (take i moves) (move ∷ []) (suc place)
            ∙ ap (λ back. targets_by (take i moves) (suc place) ++ back)
            (targets_by_all (move ∷ []) (suc place) (All-cons (λ (m : ℕ × ℕ). m.0 ≡ suc place) move [] symbol (All-nil (λ m. m.0 ≡ suc place)))) in
            subst (AreMarks (targets_by (take i moves ++ move ∷ []) (suc place)) states) (sym row_is)
            (let Q : List ℕ → Type 0 = λ some. AreMarks some states (set (get_or rows place []) (move.1 - 1) true) in
            subst Q (sym targets)
            (AreMarks-more (targets_by (take i moves) (suc place)) states (get_or rows place []) move.1 target_known (are.marks place below)))
        | inr there ↦
            let other : move.0 ≢ suc place = λ same. there (omega arith) in
            let targets : targets_by (take i moves ++ move ∷ []) (suc place) ≡ targets_by (take i moves) (suc place) =
            targets_by-append (take i moves) (move ∷ []) (suc place)
            ∙ ap (λ back. targets_by (take i moves) (suc place) ++ back)
            (targets_by_nowhere (move ∷ []) (suc place) (All-cons (λ (m : ℕ × ℕ). m.0 ≢ suc place) move [] other (All-nil (λ m. m.0 ≢ suc place))))
            ∙ append-nil (targets_by (take i moves) (suc place)) in
            subst (AreMarks (targets_by (take i moves ++ move ∷ []) (suc place)) states) (sym (get_or-set_other rows at place row [] there))
            (let Q : List ℕ → Type 0 = λ some. AreMarks some states (get_or rows place []) in
            subst Q (sym targets) (are.marks place below))
      ];
    })
