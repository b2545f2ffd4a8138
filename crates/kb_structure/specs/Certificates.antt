-- Certificates that a structure isn't the group's own: words for which an axiom doesn't hold.
use Rattle.std.specs.Prelude.{◌≡◌, ◌≢◌, ◌⊎◌, ℕ, List, [], ◌∷◌, ◌++◌, slice_get, Some}
use Rattle.kb_word.specs.Words.{Pair}
use Rattle.kb_word.specs.WordOrders.{Below}
use Rattle.kb_structure.specs.Structure.{Structure, IsGenerator, AreEqual, Accepts, Multiplies, Follows}

-- certificate N1: the word is accepted, and a prefix of it isn't; or it is the empty word, and isn't accepted
pub data PrefixNotAccepted (structure : Structure) (u : List ℕ) : Type 0 where
  empty_word : u ≡ [] → ¬ Accepts structure u → PrefixNotAccepted structure u
  prefix : (front rest : List ℕ) → u ≡ front ++ rest → Accepts structure u
      → ¬ Accepts structure front
      → PrefixNotAccepted structure u

-- certificate N2: the multiplier of x has a pair with a word that isn't accepted
pub record PairOutsideAcceptor (structure : Structure) (x : ℕ) (u v : List ℕ) : Type 0 where
  pub generator : IsGenerator structure x
  pub multiplies : Multiplies structure x u v
  pub outside : ¬ Accepts structure u ⊎ ¬ Accepts structure v

-- certificate N3: the multiplier of x has a pair of words that don't differ by x
pub record PairOfDifferentElements (structure : Structure) (x : ℕ) (u v : List ℕ) : Type 0 where
  pub generator : IsGenerator structure x
  pub multiplies : Multiplies structure x u v
  pub different : ¬ AreEqual structure (u ++ x ∷ []) v

-- certificate N4: the word is accepted, and the multiplier of x has no pair from it
pub record WordWithoutImage (structure : Structure) (x : ℕ) (u : List ℕ) : Type 0 where
  pub generator : IsGenerator structure x
  pub accepted : Accepts structure u
  pub no_image : (v : List ℕ) → ¬ Multiplies structure x u v

-- certificate N5: the multiplier of x has pairs from u to two words
pub record TwoImages (structure : Structure) (x : ℕ) (u v other : List ℕ) : Type 0 where
  pub generator : IsGenerator structure x
  pub one : Multiplies structure x u v
  pub two : Multiplies structure x u other
  pub different : v ≢ other

-- certificate N6: u followed by x is accepted, and the multiplier of x doesn't lead there from u
pub record MissingExtension (structure : Structure) (x : ℕ) (u : List ℕ) : Type 0 where
  pub generator : IsGenerator structure x
  pub accepted : Accepts structure (u ++ x ∷ [])
  pub missing : ¬ Multiplies structure x u (u ++ x ∷ [])

-- certificate N7: the multiplier of x leads from u to a word that is greater than u followed by x
pub record ImageNotLeast (structure : Structure) (x : ℕ) (u v : List ℕ) : Type 0 where
  pub generator : IsGenerator structure x
  pub multiplies : Multiplies structure x u v
  pub greater : Below structure.order (u ++ x ∷ []) v

-- Certificate N8: followed from the accepted word u, the left side of the relation at the index leads to a, and its
-- right side to another word b.
pub record RelationBroken (structure : Structure) (index : ℕ) (u a b : List ℕ) : Type 0 where
  pub relation : Pair
  pub is_relation : slice_get structure.relations index ≡ Some relation
  pub accepted : Accepts structure u
  pub left : Follows structure relation.0 u a
  pub right : Follows structure relation.1 u b
  pub different : a ≢ b

-- there is no certificate against the structure
pub record HasNoCertificate (structure : Structure) : Type 0 where
  pub n1 : (u : List ℕ) → ¬ PrefixNotAccepted structure u
  pub n2 : (x : ℕ) (u v : List ℕ) → ¬ PairOutsideAcceptor structure x u v
  pub n3 : (x : ℕ) (u v : List ℕ) → ¬ PairOfDifferentElements structure x u v
  pub n4 : (x : ℕ) (u : List ℕ) → ¬ WordWithoutImage structure x u
  pub n5 : (x : ℕ) (u v other : List ℕ) → ¬ TwoImages structure x u v other
  pub n6 : (x : ℕ) (u : List ℕ) → ¬ MissingExtension structure x u
  pub n7 : (x : ℕ) (u v : List ℕ) → ¬ ImageNotLeast structure x u v
  pub n8 : (index : ℕ) (u a b : List ℕ) → ¬ RelationBroken structure index u a b

-- Each accepted word has an image under each generator. That there is no certificate N4 says only that it can't be that
-- there is none.
abbrev pub HasImages : Structure → Type 0
HasImages structure = (x : ℕ) (u : List ℕ) → IsGenerator structure x → Accepts structure u
    → (v : List ℕ) × Multiplies structure x u v

-- The words of each pair in a multiplier differ by its generator. That there is no certificate N3 says only that it
-- can't be that they don't.
abbrev pub IsTrueToGroup : Structure → Type 0
IsTrueToGroup structure = (x : ℕ) (u v : List ℕ) → IsGenerator structure x
    → Multiplies structure x u v
    → AreEqual structure (u ++ x ∷ []) v
