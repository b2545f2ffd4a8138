-- The axioms of automatic structures whose accepted words are the least ones. Epstein et al., Word Processing in
-- Groups, chapter 5; Holt, Eick, O'Brien, Handbook of Computational Group Theory, chapter 13.
use Rattle.std.specs.Prelude.{◌≡◌, ℕ, List, [], ◌∷◌, ◌++◌}
use Rattle.kb_word.specs.Words.{Pair, OneOf}
use Rattle.kb_word.specs.WordOrders.{Below}
use Rattle.kb_structure.specs.Structure.{Structure, IsGenerator, AreEqual, Accepts, Multiplies, Follows}

-- The axioms of a generator's multiplier: it relates accepted words alone, each of them to exactly one word, which is
-- its extension by the generator where that is accepted, is no greater than that, and is the same element.
pub record SatisfiesMultiplierAxioms (structure : Structure) (x : ℕ) : Type 0 where
  pub inside : (u v : List ℕ) → Multiplies structure x u v
      → Accepts structure u × Accepts structure v
  pub total : (u : List ℕ) → Accepts structure u → (v : List ℕ) × Multiplies structure x u v
  pub single_valued : (u v other : List ℕ) → Multiplies structure x u v
      → Multiplies structure x u other
      → v ≡ other
  pub extends : (u : List ℕ) → Accepts structure (u ++ x ∷ [])
      → Multiplies structure x u (u ++ x ∷ [])
  pub not_greater : (u v : List ℕ) → Multiplies structure x u v
      → ¬ Below structure.order (u ++ x ∷ []) v
  pub true_to_the_group : (u v : List ℕ) → Multiplies structure x u v
      → AreEqual structure (u ++ x ∷ []) v

-- both words act alike: followed from an accepted word they lead to the same word
abbrev pub ActAlike : Structure → List ℕ → List ℕ → Type 0
ActAlike structure left right = (u a b : List ℕ) → Accepts structure u → Follows structure left u a
    → Follows structure right u b → a ≡ b

-- The axioms: the accepted words are closed under prefixes, the multipliers satisfy theirs, and both sides of each
-- relation act alike.
pub record SatisfiesAxioms (structure : Structure) : Type 0 where
  pub has_empty_word : Accepts structure []
  pub closed_under_prefixes : (u w : List ℕ) → Accepts structure (u ++ w) → Accepts structure u
  pub multipliers : (x : ℕ) → IsGenerator structure x → SatisfiesMultiplierAxioms structure x
  pub relations_act_alike : (relation : Pair) → OneOf structure.relations relation
      → ActAlike structure relation.0 relation.1
