-- The presentation with a marker, by which words of one right coset become congruent.
use Rattle.std.specs.Prelude.{◌≡◌, ◌↔◌, ℕ, ◌+◌, List, [], ◌∷◌, ◌++◌, map, None, Some, codes}
use Rattle.kb_word.specs.Words.{Pair, OneOf}
use Rattle.kb_word.specs.Congruence.{Congruent, IsLeast}
use Rattle.kb_word.specs.Relations.{IsOver, IsPresentation, inverse_word, relations_of}
use Rattle.kb_word.specs.WordOrders.{Below}
use Rattle.kb_word.specs.Presentations.{PresentationParts}
use Rattle.kb_word.specs.declared.word_order.WordOrder.{WordOrder}
use Rattle.kb_word.specs.declared.word_order.WordOrder.TheVariants.{ShortLex, WtLex}
use Rattle.kb_coset.specs.Subgroups.{EachInverts, IsInSubgroup}
use Rattle.kb_coset.specs.Cosets.{SameCoset, IsLeastInCoset}

-- the parts are those of a presentation with n generators
abbrev pub ArePresentation : ℕ → PresentationParts → Type 0
ArePresentation n parts = IsPresentation n parts.order parts.names parts.inverses parts.equations

-- its defining relations
abbrev pub relations : PresentationParts → List Pair
relations parts = relations_of parts.inverses parts.equations

-- the words are congruent by its defining relations
abbrev pub AreCongruent : PresentationParts → List ℕ → List ℕ → Type 0
AreCongruent parts = Congruent (OneOf (relations parts))

-- the marker's name
abbrev pub marker_name : List ℕ
marker_name = codes "_H"

-- the word with the marker in front, which is the letter after the n generators
abbrev pub marked_word : ℕ → List ℕ → List ℕ
marked_word n w = (n + 1) ∷ w

-- the marker absorbs a generator of the subgroup: _H*h = _H
abbrev pub marker_equation : ℕ → List ℕ → Pair
marker_equation n h = (marked_word n h, marked_word n [])

-- the order by which the marker weighs 1, where words are ordered by weight
abbrev pub marked_order : WordOrder → WordOrder
marked_order ShortLex = ShortLex
marked_order (WtLex weights) = WtLex (weights ++ 1 ∷ [])

-- The marked presentation: the marker is its last generator, without an inverse, and after the equations come those by
-- which it absorbs the subgroup's generators.
abbrev pub marked_parts : ℕ → List (List ℕ) → PresentationParts → PresentationParts
marked_parts n generators parts = record {
  order = marked_order parts.order;
  names = parts.names ++ marker_name ∷ [];
  inverses = parts.inverses ++ None ∷ [];
  equations = parts.equations ++ map (marker_equation n) generators;
}

-- What the marked presentation is for, u and v being words and u one over the n generators.
pub record MarksCosets (n : ℕ) (generators : List (List ℕ))
    (parts marked : PresentationParts) : Type 0 where
  -- marked words are congruent exactly where the words are in one right coset
  pub cosets : (u v : List ℕ) → IsOver n u
      → AreCongruent marked (marked_word n u) (marked_word n v)
      ↔ SameCoset (relations parts) generators u v
  -- in a group that is where u followed by the inverse of v is in the subgroup
  pub subgroup : EachInverts n parts.inverses → (u v inverse : List ℕ) → IsOver n u
      → inverse_word parts.inverses v ≡ Some inverse
      → AreCongruent marked (marked_word n u) (marked_word n v)
      ↔ IsInSubgroup parts.inverses (relations parts) generators (u ++ inverse)
  -- the least of the words that are congruent to a marked word is marked, and the least of its coset behind the marker
  pub least : (u least : List ℕ) → IsOver n u
      → IsLeast (Below marked.order) (relations marked) (marked_word n u) least
      → (m : List ℕ) × (least ≡ marked_word n m)
      × IsLeastInCoset (Below parts.order) (relations parts) generators u m
