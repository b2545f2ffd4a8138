-- Automatic structures of groups, whose accepted words are the least ones. Epstein et al., Word Processing in Groups,
-- 2.3 and 2.5; Holt, Eick, O'Brien, Handbook of Computational Group Theory, chapter 13.
use Rattle.std.specs.Prelude.{◌≡◌, ◌↔◌, ℕ, ◌<◌, ◌≤◌, Bool, IsTrue, List, [], ◌∷◌, ◌++◌}
use Rattle.kb_word.specs.Words.{Pair, OneOf}
use Rattle.kb_word.specs.WordOrders.{Below}
use Rattle.kb_word.specs.Congruence.{Congruent, IsLeast}
use Rattle.kb_word.specs.Relations.{IsOver}
use Rattle.kb_word.specs.declared.word_order.WordOrder.{WordOrder}

-- A word acceptor, and a multiplier for each of n generators, as tests of words and of pairs of words; with the order
-- of words and the relations of the group whose structure they may be.
pub record Structure : Type 0 where
  pub n : ℕ
  pub order : WordOrder
  pub relations : List Pair
  pub acceptor : List ℕ → Bool
  pub multiplier : ℕ → List ℕ → List ℕ → Bool

-- the letter is a generator
abbrev pub IsGenerator : Structure → ℕ → Type 0
IsGenerator structure x = (0 < x) × (x ≤ structure.n)

-- both sides of each relation are words over the generators
abbrev pub AreOverGenerators : Structure → Type 0
AreOverGenerators structure = (relation : Pair) → OneOf structure.relations relation
    → IsOver structure.n relation.0 × IsOver structure.n relation.1

-- the words are the same element of the group
abbrev pub AreEqual : Structure → List ℕ → List ℕ → Type 0
AreEqual structure = Congruent (OneOf structure.relations)

-- the acceptor accepts the word; a word with another letter is never accepted
pub record Accepts (structure : Structure) (w : List ℕ) : Type 0 where
  pub letters : IsOver structure.n w
  pub accepted : IsTrue (structure.acceptor w)

-- the multiplier of x has the pair of words over the generators
pub record Multiplies (structure : Structure) (x : ℕ) (u v : List ℕ) : Type 0 where
  pub first_letters : IsOver structure.n u
  pub second_letters : IsOver structure.n v
  pub accepted : IsTrue (structure.multiplier x u v)

-- following the word's letters from u by their multipliers, one after another, leads to v
abbrev pub Follows : Structure → List ℕ → List ℕ → List ℕ → Type 0
Follows structure [] u v = u ≡ v
Follows structure (x ∷ w) u v =
    (next : List ℕ) × (Multiplies structure x u next × Follows structure w next v)

-- the word stands for its element: it is over the generators, and the least of its class
pub record IsRepresentative (structure : Structure) (w : List ℕ) : Type 0 where
  pub letters : IsOver structure.n w
  pub least : IsLeast (Below structure.order) structure.relations w w

-- the representative v is u times x
pub record IsProduct (structure : Structure) (x : ℕ) (u v : List ℕ) : Type 0 where
  pub first : IsRepresentative structure u
  pub second : IsRepresentative structure v
  pub equal : AreEqual structure (u ++ x ∷ []) v

-- The structure is the group's own: the acceptor accepts exactly the least words, and each generator's multiplier
-- has exactly the pairs of least words that differ by the generator.
pub record IsAutomaticStructure (structure : Structure) : Type 0 where
  pub acceptor : (w : List ℕ) → Accepts structure w ↔ IsRepresentative structure w
  pub multipliers : (x : ℕ) → IsGenerator structure x → (u v : List ℕ)
      → Multiplies structure x u v ↔ IsProduct structure x u v
