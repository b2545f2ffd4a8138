-- Word differences: how far two words, read side by side, are from one another after each letter.
-- Epstein et al., Word Processing in Groups, 2.3; Holt, Eick, O'Brien, Handbook of Computational Group Theory, 13.2.
use Rattle.std.specs.Prelude.{◌≡◌, ℕ, suc, ◌<◌, List, ◌++◌, length, take, max, slice_get, Some, Contains}
use Rattle.kb_word.specs.Relations.{inverse_word}
use Rattle.kb_word.specs.Rewriting.{NormalForm}
use Rattle.kb_diff.specs.Groups.{Group}

-- d is the difference of u and v at the place: the normal form of the inverse of u's first letters, so many, followed
-- by as many of v's. Of a word with fewer letters all are taken.
pub record IsDifference (group : Group) (u v : List ℕ) (place : ℕ) (d : List ℕ) : Type 0 where
  pub inverse : List ℕ
  pub inverts : inverse_word group.inverses (take place u) ≡ Some inverse
  pub normal : NormalForm group.rules (inverse ++ take place v) d

-- the last place of two words; at each place after it the difference is the same
abbrev pub last_place : List ℕ → List ℕ → ℕ
last_place u v = max (length u) (length v)

-- these are the differences of u and v at the places 1, 2, .., so many
pub record AreFirstDifferences (group : Group) (u v : List ℕ) (count : ℕ)
    (differences : List (List ℕ)) : Type 0 where
  pub one_each : length differences ≡ count
  pub each : (index : ℕ) (d : List ℕ) → slice_get differences index ≡ Some d
      → IsDifference group u v (suc index) d

-- the words have the difference of u and v at each place
abbrev pub HaveDifferences : Group → List (List ℕ) → List ℕ → List ℕ → Type 0
HaveDifferences group words u v =
    (place : ℕ) (d : List ℕ) → 0 < place → IsDifference group u v place d → Contains words d
