-- The steps of the difference machine. Its states are the differences that are kept, and it reads pairs of letters.
-- Epstein et al., Word Processing in Groups, 2.3; Holt, Eick, O'Brien, Handbook of Computational Group Theory, 13.2.
use Rattle.std.specs.Prelude.{◌≡◌, ℕ, suc, ◌+◌, ◌<◌, ◌≤◌, List, [], ◌∷◌, ◌++◌, length, slice_get, Some, Contains}
use Rattle.kb_word.specs.Relations.{inverse_word}
use Rattle.kb_word.specs.Rewriting.{NormalForm}
use Rattle.kb_fsa.specs.Padding.{letters_of}
use Rattle.kb_diff.specs.Groups.{Group}

-- From d the pair of letters a and b leads to e, the normal form of a^-1 d b. The padding, letter
-- n+1, counts as nothing.
pub record LeadsBy (group : Group) (d : List ℕ) (a b : ℕ) (e : List ℕ) : Type 0 where
  pub inverse : List ℕ
  pub inverts : inverse_word group.inverses (letters_of group.n a) ≡ Some inverse
  pub normal : NormalForm group.rules (inverse ++ d ++ letters_of group.n b) e

-- the word of the number, from 1
pub record HasNumber (words : List (List ℕ)) (number : ℕ) (word : List ℕ) : Type 0 where
  pub index : ℕ
  pub is : number ≡ suc index
  pub at : slice_get words index ≡ Some word

-- The step between the numbers of words that are kept: it leads to the word's number, or to 0 where it isn't kept.
pub data DifferenceStep (group : Group) (words : List (List ℕ)) (number a b : ℕ) : ℕ → Type 0 where
  to_kept : {target : ℕ} {d e : List ℕ} → HasNumber words number d → LeadsBy group d a b e
      → HasNumber words target e
      → DifferenceStep group words number a b target
  to_none : {d e : List ℕ} → HasNumber words number d → LeadsBy group d a b e → ¬ Contains words e
      → DifferenceStep group words number a b 0

-- the pair of letters is read from the number: that of a kept word, and each letter a generator or the padding
pub record IsRead (group : Group) (words : List (List ℕ)) (number a b : ℕ) : Type 0 where
  pub positive : 0 < number
  pub among : number ≤ length words
  pub first_positive : 0 < a
  pub first : a ≤ group.n + 1
  pub second_positive : 0 < b
  pub second : b ≤ group.n + 1

-- A machine's step is that of the words that are kept, from each of them by each pair of letters,
-- the padding among them. From elsewhere, and by other letters, it leads to 0.
pub record AreSteps (group : Group) (words : List (List ℕ)) (step : ℕ → ℕ → ℕ → ℕ) : Type 0 where
  pub each : (number a b : ℕ) → IsRead group words number a b
      → DifferenceStep group words number a b (step number a b)
  pub elsewhere : (number a b : ℕ) → ¬ IsRead group words number a b → step number a b ≡ 0

-- The words u and v, read side by side, lead from d to f by words that are kept. The shorter one is padded at its end.
pub data Leads (group : Group) (words : List (List ℕ)) : List ℕ → List ℕ → List ℕ → List ℕ
    → Type 0 where
  at_end : {d : List ℕ} → Leads group words d [] [] d
  by_both : {d e f u v : List ℕ} {x y : ℕ} → LeadsBy group d x y e → Contains words e
      → Leads group words e u v f
      → Leads group words d (x ∷ u) (y ∷ v) f
  by_first : {d e f u : List ℕ} {x : ℕ} → LeadsBy group d x (group.n + 1) e → Contains words e
      → Leads group words e u [] f
      → Leads group words d (x ∷ u) [] f
  by_second : {d e f v : List ℕ} {y : ℕ} → LeadsBy group d (group.n + 1) y e → Contains words e
      → Leads group words e [] v f
      → Leads group words d [] (y ∷ v) f
