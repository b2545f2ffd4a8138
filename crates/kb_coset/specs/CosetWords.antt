-- The right cosets of a subgroup, and rules by which their least words are found.
use Rattle.std.specs.Prelude.{ℕ, ◌<◌, List, All}
use Rattle.kb_word.specs.Words.{Pair}
use Rattle.kb_word.specs.Relations.{IsOver}
use Rattle.kb_word.specs.WordOrders.{Below}
use Rattle.kb_word.specs.Presentations.{PresentationParts}
use Rattle.kb_reduced.specs.Reduced.{IsReducedComplete}
use Rattle.kb_coset.specs.Cosets.{IsLeastInCoset}
use Rattle.kb_coset.specs.Marked.{marked_order, marked_parts, relations}

-- the right cosets of what these words generate, in what is presented
pub record Cosets : Type 0 where
  pub parts : PresentationParts
  pub generators : List (List ℕ)

-- the second word is the least of the right coset of the first
abbrev pub IsLeastOf : Cosets → List ℕ → List ℕ → Type 0
IsLeastOf cosets =
    IsLeastInCoset (Below cosets.parts.order) (relations cosets.parts) cosets.generators

-- The rules are the reduced complete system of the marked presentation, over n generators of which the subgroup's are
-- words.
pub record AreCosetRules (n : ℕ) (cosets : Cosets) (rules : List Pair) : Type 0 where
  pub few : n < 65534
  pub letters : All (IsOver n) cosets.generators
  pub reduced : IsReducedComplete (Below (marked_order cosets.parts.order))
      (relations (marked_parts n cosets.generators cosets.parts)) rules
