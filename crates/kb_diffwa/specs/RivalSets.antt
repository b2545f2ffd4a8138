-- Sets of rivals, each by the numbers of their differences and how they compare, and the machine that goes from set to
-- set.
use Rattle.std.specs.Prelude.{◌≡◌, ℕ, zero, suc, ◌+◌, ◌-◌, ◌<◌, ◌≤◌, ◌↔◌, Bool, true, false, not, ◌&&◌, ◌||◌, nat_eq, nat_lt, if◌then◌else◌, List, [], ◌∷◌, ◌++◌, length, get_or, set, replicate, fold, All, Contains, Option, Some, None}
use Rattle.std.specs.Bool.{beq}
use Rattle.std.specs.List.{list_any}
use Rattle.std.specs.Hash.{HashWrites, bool, u32}
use Rattle.kb_explore.specs.Machine.{Machine}
use Rattle.kb_diffwa.specs.Comparing.{Comparison, Ended, Equal, Greater, Less}
use Rattle.kb_diffwa.specs.declared.comparisons.Comparisons.{Comparisons}
use Rattle.kb_diffwa.specs.Rivals.{Rival}
use Rattle.kb_diffwa.specs.declared.rivals.Rivals.{Rivals}

-- ---- sets of comparisons

abbrev pub no_comparisons : Comparisons
no_comparisons = record { equal = false; less = false; greater = false; ended = false }

-- that of the empty word beside the empty suffix
abbrev pub first_comparisons : Comparisons
first_comparisons = record { equal = true; less = false; greater = false; ended = false }

-- whether the comparison is among them
abbrev pub includes : Comparisons → Comparison → Bool
includes comparisons Equal = comparisons.equal
includes comparisons Less = comparisons.less
includes comparisons Greater = comparisons.greater
includes comparisons Ended = comparisons.ended

abbrev pub is_none : Comparisons → Bool
is_none comparisons =
    not (comparisons.equal || (comparisons.less || (comparisons.greater || comparisons.ended)))

-- whether some word compares as less
abbrev pub any_less : Comparisons → Bool
any_less comparisons = comparisons.less || comparisons.ended

abbrev pub joined : Comparisons → Comparisons → Comparisons
joined one other = record {
  equal = one.equal || other.equal;
  less = one.less || other.less;
  greater = one.greater || other.greater;
  ended = one.ended || other.ended;
}

-- how the words compare once the suffixes have the letter a more, and the words the letter b, or none where b is the
-- padding
abbrev pub all_compared : ℕ → Comparisons → ℕ → ℕ → Comparisons
all_compared n comparisons a b = if nat_eq b (n + 1) then record {
  equal = false;
  less = false;
  greater = false;
  ended = not (is_none comparisons);
} else record {
  equal = comparisons.equal && nat_eq b a;
  less = comparisons.less || (comparisons.equal && nat_lt b a);
  greater = comparisons.greater || (comparisons.equal && nat_lt a b);
  ended = false;
}

-- the same as a table: where the words have a lesser letter, the same one, a greater one, and none
abbrev pub outcomes : Comparisons → List Comparisons
outcomes comparisons =
    record {
      equal = false;
      less = comparisons.less || comparisons.equal;
      greater = comparisons.greater;
      ended = false;
    }
    ∷ record {
      equal = comparisons.equal;
      less = comparisons.less;
      greater = comparisons.greater;
      ended = false;
    }
    ∷ record {
      equal = false;
      less = comparisons.less;
      greater = comparisons.greater || comparisons.equal;
      ended = false;
    }
    ∷ record {
      equal = false;
      less = false;
      greater = false;
      ended = not (is_none comparisons);
    }
    ∷ []

-- at which place of the table it stands
abbrev pub outcome_place : ℕ → ℕ → ℕ → ℕ
outcome_place n a b = if nat_eq b (n + 1) then 3 else (if nat_lt b a then 0
    else (if nat_eq b a then 1 else 2))

-- ---- tests of equality, and hashes

abbrev pub same_comparisons : Comparisons → Comparisons → Bool
same_comparisons one other =
    beq one.equal other.equal
    && (beq one.less other.less && (beq one.greater other.greater && beq one.ended other.ended))

abbrev pub same_rivals : Rivals → Rivals → Bool
same_rivals one other =
    nat_eq one.difference other.difference && same_comparisons one.comparisons other.comparisons

abbrev pub fed_comparisons : Comparisons → HashWrites
fed_comparisons comparisons =
    bool comparisons.equal
    ++ (bool comparisons.less ++ (bool comparisons.greater ++ bool comparisons.ended))

abbrev pub fed_rivals : Rivals → HashWrites
fed_rivals rivals = u32 rivals.difference ++ fed_comparisons rivals.comparisons

-- ---- rows: for difference 1, difference 2, and so on, how the rivals of that difference compare

-- the rival is in the row
pub record IsInRow (row : List Comparisons) (rival : Rival) : Type 0 where
  pub index : ℕ
  pub is : rival.difference ≡ suc index
  pub among : includes (get_or row index no_comparisons) rival.comparison ≡ true

-- the row of the first rival alone
abbrev pub first_row : ℕ → List Comparisons
first_row count = set (replicate count no_comparisons) 0 first_comparisons

-- the row with more rivals of one difference
abbrev pub with_rivals : List Comparisons → ℕ → Comparisons → List Comparisons
with_rivals row difference more =
    set row (difference - 1)
    (joined (get_or row (difference - 1) no_comparisons) more)

-- the set of what a row has, where it begins with the number
abbrev pub members_from : ℕ → List Comparisons → List Rivals
members_from number [] = []
members_from number (comparisons ∷ row) =
    if is_none comparisons then members_from (suc number) row
    else record { difference = number; comparisons = comparisons } ∷ members_from (suc number) row

-- whether the first difference, the empty one, has a rival that is less
abbrev pub shows_any_less : List Comparisons → Bool
shows_any_less row = any_less (get_or row 0 no_comparisons)

-- ---- steps by one letter: for difference 1, difference 2, and so on, each letter beside it, or the padding, that
-- leads to a difference that is kept, with the number of that

abbrev pub Steps : Type 0
Steps = List (List (ℕ × ℕ))

-- from the difference of a number
abbrev pub pairs_from : Steps → ℕ → List (ℕ × ℕ)
pairs_from steps zero = []
pairs_from steps (suc index) = get_or steps index []

-- the row with where the letter a leads rivals of one difference, whose words go on with the pair's letter
abbrev pub led_by_pair : ℕ → ℕ → Comparisons → List Comparisons → ℕ × ℕ → List Comparisons
led_by_pair n a comparisons row pair =
    with_rivals row pair.1 (all_compared n comparisons a pair.0)

-- the row with where the letter a leads rivals of one difference
abbrev pub led_on : ℕ → ℕ → Steps → List Comparisons → Rivals → List Comparisons
led_on n a steps row rivals =
    fold (led_by_pair n a rivals.comparisons) row (pairs_from steps rivals.difference)

-- the row of where the letter a leads a set, with the first rival, as a new suffix begins
abbrev pub row_after : ℕ → ℕ → ℕ → Steps → List Rivals → List Comparisons
row_after n count a steps rivals = fold (led_on n a steps) (first_row count) rivals

-- whether the letter a leads rivals to the first difference as lesser words
abbrev pub leads_less : ℕ → ℕ → Steps → Rivals → Bool
leads_less n a steps rivals =
    list_any (λ (pair : ℕ × ℕ).
    nat_eq pair.1 1 && any_less (all_compared n rivals.comparisons a pair.0))
    (pairs_from steps rivals.difference)

-- ---- the machine

-- the set of a row, where none of its rivals shows a lesser word
abbrev pub unless_less : List Comparisons → Option (List Rivals)
unless_less row = if shows_any_less row then None else Some (members_from 1 row)

-- where the letter leads a set, by the steps of each letter
abbrev pub followed : ℕ → ℕ → List Steps → List Rivals → ℕ → Option (List Rivals)
followed n count letters rivals zero = None
followed n count letters rivals (suc index) =
    if nat_lt index n
    then unless_less (row_after n count (suc index) (get_or letters index []) rivals)
    else None

-- The machine begins with the first rival. Each set is one of a word that is accepted.
abbrev pub rival_sets : ℕ → ℕ → List Steps → Machine (List Rivals)
rival_sets n count letters = record {
  start = Some (members_from 1 (first_row count));
  follow = followed n count letters;
  accepts = λ rivals. true;
}

-- ---- how the steps are made

-- they lead to differences of so many
abbrev pub AreWithin : ℕ → Steps → Type 0
AreWithin count = All (All (λ pair. (0 < pair.1) × (pair.1 ≤ count)))

-- the letter b, or the padding, beside the letter a leads from the difference to the target, which is kept
pub record IsPair (n : ℕ) (step : ℕ → ℕ → ℕ → ℕ) (difference a b target : ℕ) : Type 0 where
  pub positive : 0 < b
  pub letter : b ≤ n + 1
  pub leads : step difference a b ≡ target
  pub kept : 0 < target

abbrev pub ArePairs : ℕ → (ℕ → ℕ → ℕ → ℕ) → ℕ → ℕ → List (ℕ × ℕ) → Type 0
ArePairs n step difference a pairs =
    (b target : ℕ) → Contains pairs (b, target) ↔ IsPair n step difference a b target

-- the steps by the letter a from so many differences
pub record AreStepsBy (n : ℕ) (step : ℕ → ℕ → ℕ → ℕ) (count a : ℕ) (steps : Steps) : Type 0 where
  pub one_each : length steps ≡ count
  pub each : (index : ℕ) → index < count
      → ArePairs n step (suc index) a (get_or steps index [])

-- the steps by the letters 1 to n
pub record AreAllSteps (n : ℕ) (step : ℕ → ℕ → ℕ → ℕ) (count : ℕ)
    (letters : List Steps) : Type 0 where
  pub one_each : length letters ≡ n
  pub each : (index : ℕ) → index < n → AreStepsBy n step count (suc index) (get_or letters index [])
