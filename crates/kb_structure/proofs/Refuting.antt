-- Where a structure is the group's own, there is no certificate that it isn't.
use Rattle.std.proofs.Common.{ℕ, List, [], ◌∷◌, ◌++◌, sym, subst, inl, inr}
use Rattle.kb_word.specs.Words.{OneOf}
use Rattle.kb_word.specs.WordOrders.{Below}
use Rattle.kb_word.specs.WordOrderLaws.{word_orders}
use Rattle.kb_word.specs.Congruence.{IsLeast}
use Rattle.kb_word.specs.Relations.{IsOver}
use Rattle.kb_word.proofs.PathLemmas.{congruent_reflexive, congruent_symmetric, congruent_transitive, congruent_sides}
use Rattle.kb_structure.specs.Structure.{Structure, IsGenerator, AreOverGenerators, AreEqual, Accepts, Multiplies, Follows, IsRepresentative, IsProduct, IsAutomaticStructure}
use Rattle.kb_structure.specs.Certificates.{PrefixNotAccepted, PairOutsideAcceptor, PairOfDifferentElements, WordWithoutImage, TwoImages, MissingExtension, ImageNotLeast, RelationBroken, HasNoCertificate, IsTrueToGroup}
use Rattle.kb_structure.specs.Certificates.PrefixNotAccepted.{empty_word, prefix}
use Rattle.kb_structure.proofs.Letters.{over_first, over_later, over_last}
use Rattle.kb_structure.proofs.Representatives.{empty_representative, prefix_representative, one_representative, least_of_class, not_without_least}
use Rattle.kb_structure.proofs.Following.{follows_product}
use Rattle.kb_structure.proofs.Words.{equal_over, congruent_behind}

module _ (structure : Structure) (own : IsAutomaticStructure structure) where
  no_prefix_refused : (u : List ℕ) → ¬ PrefixNotAccepted structure u
  no_prefix_refused u (empty_word same refused) =
      let P : List ℕ → Type 0 = Accepts structure in
      let empty = own.acceptor [] in
      refused (subst P (sym same) (empty.1 (empty_representative structure)))
  no_prefix_refused u (prefix front rest same accepted refused) =
      let P : List ℕ → Type 0 = Accepts structure in
      let whole = own.acceptor (front ++ rest) in
      let part = own.acceptor front in
      refused (part.1 (prefix_representative structure front rest (whole.0 (subst P same accepted))))

  product : (x : ℕ) → IsGenerator structure x → (u v : List ℕ) → Multiplies structure x u v → IsProduct structure x u v
  product x generator u v multiplies = let by_letter = own.multipliers x generator u v in by_letter.0 multiplies

  no_pair_outside : (x : ℕ) (u v : List ℕ) → ¬ PairOutsideAcceptor structure x u v
  no_pair_outside x u v certificate =
      let pair = product x certificate.generator u v certificate.multiplies in
      let first = own.acceptor u in
      let second = own.acceptor v in
      elim certificate.outside [
        | inl refused ↦ refused (first.1 pair.first)
        | inr refused ↦ refused (second.1 pair.second)
      ]

  no_other_elements : (x : ℕ) (u v : List ℕ) → ¬ PairOfDifferentElements structure x u v
  no_other_elements x u v certificate =
      let pair = product x certificate.generator u v certificate.multiplies in
      certificate.different pair.equal

  no_two_images : (x : ℕ) (u v other : List ℕ) → ¬ TwoImages structure x u v other
  no_two_images x u v other certificate =
      let one = product x certificate.generator u v certificate.one in
      let two = product x certificate.generator u other certificate.two in
      certificate.different (one_representative structure v other one.second two.second
      (congruent_transitive (congruent_symmetric one.equal) two.equal))

  no_missing_extension : (x : ℕ) (u : List ℕ) → ¬ MissingExtension structure x u
  no_missing_extension x u certificate =
      let longer = u ++ x ∷ [] in
      let whole = own.acceptor longer in
      let least = whole.0 certificate.accepted in
      let by_letter = own.multipliers x certificate.generator u longer in
      certificate.missing (by_letter.1 (record {
        first = prefix_representative structure u (x ∷ []) least;
        second = least;
        equal = congruent_reflexive longer;
      }))

  no_greater_image : (x : ℕ) (u v : List ℕ) → ¬ ImageNotLeast structure x u v
  no_greater_image x u v certificate =
      let pair = product x certificate.generator u v certificate.multiplies in
      pair.second.least.least (u ++ x ∷ []) (congruent_symmetric pair.equal) certificate.greater

  leads_to_representative : (w u v : List ℕ) → IsOver structure.n w → IsRepresentative structure u → Follows structure w u v
      → IsRepresentative structure v
  leads_to_representative [] u v over least same = let P : List ℕ → Type 0 = IsRepresentative structure in subst P same least
  leads_to_representative (x ∷ w) u v over least follows =
      let pair = product x (over_first structure.n x w over) u follows.0 follows.1.0 in
      leads_to_representative w follows.0 v (over_later structure.n x w over) pair.second follows.1.1

  -- the group's own multipliers are true to it
  pub own_is_true : IsTrueToGroup structure
  own_is_true x u v generator multiplies = let pair = product x generator u v multiplies in pair.equal

  leads_to_product : (w u v : List ℕ) → IsOver structure.n w → Follows structure w u v → AreEqual structure (u ++ w) v
  leads_to_product w u v over follows = follows_product structure own_is_true w u v over follows

  module _ (over : AreOverGenerators structure) where
    no_word_without_image : (x : ℕ) (u : List ℕ) → ¬ WordWithoutImage structure x u
    no_word_without_image x u certificate =
        let longer = u ++ x ∷ [] in
        let order = word_orders structure.order in
        let letters : IsOver structure.n longer = over_last structure.n u x certificate.accepted.letters certificate.generator in
        let at = own.acceptor u in
        let none : (m : List ℕ) → ¬ IsLeast (Below structure.order) structure.relations longer m = λ m least.
        let by_letter = own.multipliers x certificate.generator u m in
        certificate.no_image m (by_letter.1 (record {
          first = at.0 certificate.accepted;
          second = least_of_class structure longer m (equal_over structure over longer m least.congruent letters) least;
          equal = least.congruent;
        })) in
        not_without_least structure.relations longer longer (order.well_founded longer) (congruent_reflexive longer) none

    no_relation_broken : (index : ℕ) (u a b : List ℕ) → ¬ RelationBroken structure index u a b
    no_relation_broken index u a b certificate =
        let relation = certificate.relation in
        let one : OneOf structure.relations relation = (index, certificate.is_relation) in
        let letters = over relation one in
        let at = own.acceptor u in
        let least = at.0 certificate.accepted in
        let left = leads_to_product relation.0 u a letters.0 certificate.left in
        let right = leads_to_product relation.1 u b letters.1 certificate.right in
        let sides : AreEqual structure (u ++ relation.0) (u ++ relation.1) = congruent_behind u (congruent_sides relation one) in
        certificate.different (one_representative structure a b
        (leads_to_representative relation.0 u a letters.0 least certificate.left)
        (leads_to_representative relation.1 u b letters.1 least certificate.right)
        (congruent_transitive (congruent_symmetric left) (congruent_transitive sides right)))

    pub no_certificate : HasNoCertificate structure
    no_certificate = record {
      n1 = no_prefix_refused;
      n2 = no_pair_outside;
      n3 = no_other_elements;
      n4 = no_word_without_image;
      n5 = no_two_images;
      n6 = no_missing_extension;
      n7 = no_greater_image;
      n8 = no_relation_broken;
    }
