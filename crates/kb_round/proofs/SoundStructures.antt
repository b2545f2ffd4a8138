-- Where exactly the least words are accepted, and multipliers relate only them, to products alone and to all
-- extensions, no certificate but a word without image is possible.
use Rattle.std.proofs.Common.{◌↔◌, ℕ, List, [], ◌∷◌, ◌++◌, subst, sym, inl, inr}
use Rattle.kb_word.specs.Words.{OneOf}
use Rattle.kb_word.specs.Relations.{IsOver}
use Rattle.kb_word.proofs.PathLemmas.{congruent_sides, congruent_symmetric, congruent_transitive}
use Rattle.kb_structure.specs.Structure.{Structure, IsGenerator, AreOverGenerators, Accepts, Multiplies, Follows, IsRepresentative, IsProduct}
use Rattle.kb_structure.specs.Certificates.{PrefixNotAccepted, PairOutsideAcceptor, TwoImages, MissingExtension, ImageNotLeast, RelationBroken, IsTrueToGroup}
use Rattle.kb_structure.specs.Certificates.PrefixNotAccepted.{empty_word, prefix}
use Rattle.kb_structure.proofs.Letters.{over_first, over_later}
use Rattle.kb_structure.proofs.Representatives.{empty_representative, one_representative, prefix_representative}
use Rattle.kb_structure.proofs.Following.{follows_product}
use Rattle.kb_structure.proofs.Words.{congruent_behind}

-- exactly the least words are accepted, and the pairs of multipliers are products, all extensions among them
pub record IsSound (structure : Structure) : Type 0 where
  pub acceptor : (w : List ℕ) → Accepts structure w ↔ IsRepresentative structure w
  pub products : (x : ℕ) (u v : List ℕ) → IsGenerator structure x → Multiplies structure x u v → IsProduct structure x u v
  pub extends : (x : ℕ) (u : List ℕ) → IsGenerator structure x → Accepts structure (u ++ x ∷ [])
      → Multiplies structure x u (u ++ x ∷ [])

module _ (structure : Structure) (sound : IsSound structure) where
  representative : (w : List ℕ) → Accepts structure w → IsRepresentative structure w
  representative w accepts = let both = sound.acceptor w in both.0 accepts

  accepted : (w : List ℕ) → IsRepresentative structure w → Accepts structure w
  accepted w least = let both = sound.acceptor w in both.1 least

  pub no_prefix_refused : (u : List ℕ) → ¬ PrefixNotAccepted structure u
  no_prefix_refused u (empty_word same refused) =
      let P : List ℕ → Type 0 = Accepts structure in refused (subst P (sym same) (accepted [] (empty_representative structure)))
  no_prefix_refused u (prefix front rest same accepts refused) =
      let P : List ℕ → Type 0 = Accepts structure in
      refused (accepted front (prefix_representative structure front rest (representative (front ++ rest) (subst P same accepts))))

  pub no_pair_outside : (x : ℕ) (u v : List ℕ) → ¬ PairOutsideAcceptor structure x u v
  no_pair_outside x u v certificate =
      let pair = sound.products x u v certificate.generator certificate.multiplies in
      elim certificate.outside [
        | inl refused ↦ refused (accepted u pair.first)
        | inr refused ↦ refused (accepted v pair.second)
      ]

  pub no_two_images : (x : ℕ) (u v other : List ℕ) → ¬ TwoImages structure x u v other
  no_two_images x u v other certificate =
      let one = sound.products x u v certificate.generator certificate.one in
      let two = sound.products x u other certificate.generator certificate.two in
      certificate.different (one_representative structure v other one.second two.second
      (congruent_transitive (congruent_symmetric one.equal) two.equal))

  pub no_missing_extension : (x : ℕ) (u : List ℕ) → ¬ MissingExtension structure x u
  no_missing_extension x u certificate = certificate.missing (sound.extends x u certificate.generator certificate.accepted)

  pub no_greater_image : (x : ℕ) (u v : List ℕ) → ¬ ImageNotLeast structure x u v
  no_greater_image x u v certificate =
      let pair = sound.products x u v certificate.generator certificate.multiplies in
      pair.second.least.least (u ++ x ∷ []) (congruent_symmetric pair.equal) certificate.greater

  true_to_group : IsTrueToGroup structure
  true_to_group x u v generator multiplies = let pair = sound.products x u v generator multiplies in pair.equal

  leads_to_representative : (w u v : List ℕ) → IsOver structure.n w → IsRepresentative structure u → Follows structure w u v
      → IsRepresentative structure v
  leads_to_representative [] u v over least same = let P : List ℕ → Type 0 = IsRepresentative structure in subst P same least
  leads_to_representative (x ∷ w) u v over least follows =
      let pair = sound.products x u follows.0 (over_first structure.n x w over) follows.1.0 in
      leads_to_representative w follows.0 v (over_later structure.n x w over) pair.second follows.1.1

  pub no_relation_broken : AreOverGenerators structure → (index : ℕ) (u a b : List ℕ) → ¬ RelationBroken structure index u a b
  no_relation_broken over index u a b certificate =
      let relation = certificate.relation in
      let one : OneOf structure.relations relation = (index, certificate.is_relation) in
      let letters = over relation one in
      let least = representative u certificate.accepted in
      let left = follows_product structure true_to_group relation.0 u a letters.0 certificate.left in
      let right = follows_product structure true_to_group relation.1 u b letters.1 certificate.right in
      certificate.different (one_representative structure a b
      (leads_to_representative relation.0 u a letters.0 least certificate.left)
      (leads_to_representative relation.1 u b letters.1 least certificate.right)
      (congruent_transitive (congruent_symmetric left) (congruent_transitive (congruent_behind u (congruent_sides relation one)) right)))
