-- Subgroups of a group, by the words that generate them.
use Rattle.std.specs.Prelude.{◌≡◌, ℕ, ◌<◌, ◌≤◌, List, [], ◌++◌, Option, Some, slice_get}
use Rattle.kb_word.specs.Words.{Pair, OneOf}
use Rattle.kb_word.specs.Congruence.{Congruent}
use Rattle.kb_word.specs.Relations.{inverse_letter, inverse_word}

-- each of the letters 1 to n has an inverse, as the generators of a group have
abbrev pub EachInverts : ℕ → List (Option ℕ) → Type 0
EachInverts n inverses = (x : ℕ) → 0 < x → x ≤ n → (y : ℕ) × (inverse_letter inverses x ≡ Some y)

-- the word is one of the list's
abbrev pub IsGenerator : List (List ℕ) → List ℕ → Type 0
IsGenerator generators h = (place : ℕ) × (slice_get generators place ≡ Some h)

-- The word is written as a product, of any length, of the subgroup's generators and of their inverses.
pub data IsSubgroupProduct (inverses : List (Option ℕ)) (generators : List (List ℕ)) : List ℕ
    → Type 0 where
  empty : IsSubgroupProduct inverses generators []
  by_generator : {w : List ℕ} (h : List ℕ) → IsGenerator generators h
      → IsSubgroupProduct inverses generators w
      → IsSubgroupProduct inverses generators (h ++ w)
  by_inverse : {w : List ℕ} (h inverse : List ℕ) → IsGenerator generators h
      → inverse_word inverses h ≡ Some inverse
      → IsSubgroupProduct inverses generators w
      → IsSubgroupProduct inverses generators (inverse ++ w)

-- the word is equal to a product of the subgroup's generators and their inverses: its element is in the subgroup
pub record IsInSubgroup (inverses : List (Option ℕ)) (relations : List Pair)
    (generators : List (List ℕ)) (w : List ℕ) : Type 0 where
  pub product : List ℕ
  pub is_product : IsSubgroupProduct inverses generators product
  pub equal : Congruent (OneOf relations) w product
