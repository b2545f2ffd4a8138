-- What the answers to words tell of cosets.
use Rattle.std.specs.Prelude.{◌≡◌, ◌↔◌, ℕ, List, ◌++◌, length, Some}
use Rattle.kb_word.specs.Relations.{IsOver, inverse_word}
use Rattle.kb_coset.specs.Marked.{AreCongruent, marked_word, relations}
use Rattle.kb_coset.specs.Subgroups.{IsInSubgroup}
use Rattle.kb_coset.specs.CosetWords.{Cosets, IsLeastOf}
use Rattle.kb_cmd_elements.specs.CosetAnswers.{marked_of}

-- The answers to words tell the right cosets of a subgroup apart: m and k, the answers to u and to v, are equal
-- exactly where u and v are in one coset.
pub record TellCosets (cosets : Cosets) : Type 0 where
  -- exactly where the marked words are congruent by the marked presentation
  pub marked : (u v m k : List ℕ) → IsOver (length cosets.parts.names) u
      → IsLeastOf cosets u m → IsLeastOf cosets v k
      → (m ≡ k) ↔ AreCongruent (marked_of cosets) (marked_word (length cosets.parts.names) u)
      (marked_word (length cosets.parts.names) v)
  -- exactly where u followed by the inverse of v is equal to a product of the subgroup's generators and their inverses
  pub subgroup : (u v inverse m k : List ℕ)
      → inverse_word cosets.parts.inverses v ≡ Some inverse
      → IsLeastOf cosets u m → IsLeastOf cosets v k
      → (m ≡ k) ↔ IsInSubgroup cosets.parts.inverses (relations cosets.parts) cosets.generators
      (u ++ inverse)
