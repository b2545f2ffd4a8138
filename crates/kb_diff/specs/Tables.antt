-- The table of a difference machine. It has an entry for each number in turn, for each first letter and for each second
-- one. Numbers, the letters 1 to n and the padding, letter n+1, stand in it by their places, from 0.
use Rattle.std.specs.Prelude.{◌≡◌, ℕ, suc, ◌+◌, ◌-◌, ◌*◌, ◌<◌, Bool, ◌&&◌, nat_lt, nat_le, if◌then◌else◌, List, [], ◌∷◌, ◌++◌, length, get_or, Option, Some, None, Contains}
use Rattle.kb_word.specs.Relations.{inverse_word}
use Rattle.kb_word.specs.Rewriting.{NormalForm}
use Rattle.kb_fsa.specs.Padding.{letters_of}
use Rattle.kb_diff.specs.Groups.{Group}
use Rattle.kb_diff.specs.Steps.{HasNumber, LeadsBy, DifferenceStep}

-- the letter alone, or no letter
abbrev pub listed : Option ℕ → List ℕ
listed None = []
listed (Some letter) = letter ∷ []

-- which entry is that of a number and two letters
abbrev pub entry_of : ℕ → ℕ → ℕ → ℕ → ℕ
entry_of n number first second = number * ((n + 1) * (n + 1)) + (first * (n + 1) + second)

-- a letter of pairs: one of n letters, or the padding
abbrev pub is_pair_letter : ℕ → ℕ → Bool
is_pair_letter n letter = nat_lt 0 letter && nat_le letter (n + 1)

-- a table, with how many letters there are beside the padding
pub record StepTable : Type 0 where
  pub n : ℕ
  pub entries : List ℕ

-- the entry of a number and two letters, and 0 where there is none
abbrev pub step_in : StepTable → ℕ → ℕ → ℕ → ℕ
step_in table number a b =
    if nat_lt 0 number && (is_pair_letter table.n a && is_pair_letter table.n b)
    then get_or table.entries (entry_of table.n (number - 1) (a - 1) (b - 1)) 0
    else 0

-- the number of the word among those that are kept, and 0 where it isn't kept
pub data IsNumberOf (words : List (List ℕ)) (word : List ℕ) : ℕ → Type 0 where
  kept : {number : ℕ} → HasNumber words number word → IsNumberOf words word number
  not_kept : ¬ Contains words word → IsNumberOf words word 0

-- the front is the normal form of a^-1 d
pub record IsFront (group : Group) (d : List ℕ) (a : ℕ) (front : List ℕ) : Type 0 where
  pub inverse : List ℕ
  pub inverts : inverse_word group.inverses (letters_of group.n a) ≡ Some inverse
  pub normal : NormalForm group.rules (inverse ++ d) front

-- from the front the second letter leads to the number
pub record FrontLeads (group : Group) (words : List (List ℕ)) (front : List ℕ)
    (b target : ℕ) : Type 0 where
  pub word : List ℕ
  pub normal : NormalForm group.rules (front ++ letters_of group.n b) word
  pub number : IsNumberOf words word target

-- from d the pair of letters leads to the number
pub record LeadsToNumber (group : Group) (words : List (List ℕ)) (d : List ℕ)
    (a b target : ℕ) : Type 0 where
  pub word : List ℕ
  pub leads : LeadsBy group d a b word
  pub number : IsNumberOf words word target

-- where the first letters, so many, lead from the front is added to the table
pub record AddsTargets (group : Group) (words : List (List ℕ)) (front : List ℕ) (count : ℕ)
    (old new : List ℕ) : Type 0 where
  pub row : List ℕ
  pub longer : new ≡ old ++ row
  pub one_each : length row ≡ count
  pub each : (second : ℕ) → second < count
      → FrontLeads group words front (suc second) (get_or row second 0)

-- where pairs lead from d, with so many letters as the first, is added to the table
pub record AddsRows (group : Group) (words : List (List ℕ)) (d : List ℕ) (count : ℕ)
    (old new : List ℕ) : Type 0 where
  pub rows : List ℕ
  pub longer : new ≡ old ++ rows
  pub one_each : length rows ≡ count * (group.n + 1)
  pub each : (first second : ℕ) → first < count → second < group.n + 1
      → LeadsToNumber group words d (suc first) (suc second)
      (get_or rows (first * (group.n + 1) + second) 0)

-- the table has the steps from so many words
pub record AreStepsOf (group : Group) (words : List (List ℕ)) (count : ℕ)
    (table : List ℕ) : Type 0 where
  pub one_each : length table ≡ count * ((group.n + 1) * (group.n + 1))
  pub each : (index first second : ℕ) → index < count → first < group.n + 1 → second < group.n + 1
      → DifferenceStep group words (suc index) (suc first) (suc second)
      (get_or table (entry_of group.n index first second) 0)
