-- Verdicts on some of the rows. Row i has the overlaps in which rule i begins first, from 0 on.
use Rattle.std.specs.Prelude.{◌≡◌, ℕ, zero, suc, ◌+◌, ◌^◌, ◌<◌, ◌≤◌, ◌⊎◌, List}
use Rattle.kb_word.specs.Words.{Pair}
use Rattle.kb_word.specs.Overlap.{OverlapOf, IsResolved, IsUnresolved, critical_pair}
use Rattle.kb_confluence.specs.declared.confluence.Verdict.{Verdict}
use Rattle.kb_confluence.specs.declared.confluence.Verdict.TheVariants.{Yes, No}

-- each overlap of the row is joined
abbrev pub RowIsJoined : List Pair → ℕ → Type 0
RowIsJoined rules i = (j place : ℕ) (first second : Pair) → OverlapOf rules i j place first second
    → IsResolved rules (critical_pair first second place)

-- each overlap of row i is joined that comes before the one with rule l at place q
abbrev pub EarlierOfRowAreJoined : List Pair → ℕ → ℕ → ℕ → Type 0
EarlierOfRowAreJoined rules i l q =
    (j p : ℕ) (first second : Pair) → (j < l) ⊎ ((j ≡ l) × (p < q))
    → OverlapOf rules i j p first second
    → IsResolved rules (critical_pair first second p)

-- the overlap of row i with rule j is the first of the row that is apart: its words' normal forms are u and v
pub record IsFirstOfRow (rules : List Pair) (i j place : ℕ) (u v : List ℕ) : Type 0 where
  pub first : Pair
  pub second : Pair
  pub overlap : OverlapOf rules i j place first second
  pub parts : IsUnresolved rules (critical_pair first second place) u v
  pub earlier : EarlierOfRowAreJoined rules i j place

-- The verdict on row i: `Yes` says that it is joined, and `No` names the first of its overlaps that is apart, the rules
-- being numbered from 1.
abbrev pub IsRowVerdict : List Pair → ℕ → Verdict → Type 0
IsRowVerdict rules i Yes = RowIsJoined rules i
IsRowVerdict rules i (No row (suc j) place u v) = (row ≡ i + 1) × IsFirstOfRow rules i j place u v
IsRowVerdict rules i (No row zero place u v) = ⊥

-- the number of the row that a verdict names, and for `Yes` one that is past all rows
abbrev pub named_row : Verdict → ℕ
named_row Yes = 2 ^ 32
named_row (No row j place u v) = row

-- what a `No` names is the first overlap of its row that is apart
abbrev pub NamesFirst : List Pair → Verdict → Type 0
NamesFirst rules Yes = Unit {0}
NamesFirst rules (No (suc i) (suc j) place u v) = IsFirstOfRow rules i j place u v
NamesFirst rules (No (suc i) zero place u v) = ⊥
NamesFirst rules (No zero j place u v) = ⊥

-- of two verdicts the one that names the earlier row
abbrev pub IsEarlier : Verdict → Verdict → Verdict → Type 0
IsEarlier one other chosen = ((chosen ≡ one) × (named_row one ≤ named_row other))
    ⊎ ((chosen ≡ other) × (named_row other ≤ named_row one))
