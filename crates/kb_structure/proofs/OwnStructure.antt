-- A structure that satisfies the axioms is the group's own.
use Rattle.std.proofs.Common.{ℕ, List, [], sym, subst}
use Rattle.kb_word.proofs.PathLemmas.{congruent_reflexive, congruent_symmetric, congruent_transitive}
use Rattle.kb_structure.specs.Structure.{Structure, IsGenerator, AreOverGenerators, AreEqual, Accepts, Multiplies, IsRepresentative, IsProduct, IsAutomaticStructure}
use Rattle.kb_structure.specs.Axioms.{SatisfiesAxioms}
use Rattle.kb_structure.proofs.Representatives.{one_representative}
use Rattle.kb_structure.proofs.Following.{leads_somewhere, leads_inside, leads_to_itself, leads_to_equal, leads_to_no_greater}
use Rattle.kb_structure.proofs.Acting.{Leads, leads_equally}

module _ (structure : Structure) (over : AreOverGenerators structure) (axioms : SatisfiesAxioms structure) where
  -- an accepted word is least: a congruent word leads from the empty word to it too, and to nothing greater
  pub accepted_is_least : (w : List ℕ) → Accepts structure w → IsRepresentative structure w
  accepted_is_least w accepted =
      let leads : Leads structure [] w w = record { letters = accepted.letters; follows = leads_to_itself structure axioms w accepted } in
      record {
        letters = accepted.letters;
        least = record {
          congruent = congruent_reflexive w;
          least = λ v equal less.
              let also = leads_equally structure over axioms [] w axioms.has_empty_word w v equal leads in
              leads_to_no_greater structure axioms v [] w also.letters also.follows less;
        };
      }

  -- a least word is accepted: from the empty word it leads to an accepted word that is equal, and so to itself
  pub least_is_accepted : (w : List ℕ) → IsRepresentative structure w → Accepts structure w
  least_is_accepted w least =
      let image = leads_somewhere structure axioms w [] least.letters axioms.has_empty_word in
      let accepted = leads_inside structure axioms w [] image.0 least.letters axioms.has_empty_word image.1 in
      let equal : AreEqual structure w image.0 = leads_to_equal structure axioms w [] image.0 least.letters image.1 in
      let same = one_representative structure w image.0 least (accepted_is_least image.0 accepted) equal in
      let P : List ℕ → Type 0 = Accepts structure in
      subst P (sym same) accepted

  module _ (x : ℕ) (generator : IsGenerator structure x) (u v : List ℕ) where
    pub multiplied_is_product : Multiplies structure x u v → IsProduct structure x u v
    multiplied_is_product multiplies =
        let by_letter = axioms.multipliers x generator in
        let inside = by_letter.inside u v multiplies in
        record {
          first = accepted_is_least u inside.0;
          second = accepted_is_least v inside.1;
          equal = by_letter.true_to_the_group u v multiplies;
        }

    pub product_is_multiplied : IsProduct structure x u v → Multiplies structure x u v
    product_is_multiplied product =
        let by_letter = axioms.multipliers x generator in
        let image = by_letter.total u (least_is_accepted u product.first) in
        let inside = by_letter.inside u image.0 image.1 in
        let equal = by_letter.true_to_the_group u image.0 image.1 in
        let same = one_representative structure v image.0 product.second (accepted_is_least image.0 inside.1)
        (congruent_transitive (congruent_symmetric product.equal) equal) in
        let P : List ℕ → Type 0 = Multiplies structure x u in
        subst P (sym same) image.1

  pub own_structure : IsAutomaticStructure structure
  own_structure = record {
    acceptor = λ w. (accepted_is_least w, least_is_accepted w);
    multipliers = λ x generator u v. (multiplied_is_product x generator u v, product_is_multiplied x generator u v);
  }
