-- The group's own structure leads to least words.
use Rattle.std.proofs.Common.{ℕ, List, [], ◌∷◌, subst}
use Rattle.kb_word.specs.WordOrders.{Below}
use Rattle.kb_word.specs.Congruence.{IsLeast}
use Rattle.kb_word.specs.Relations.{IsOver}
use Rattle.kb_word.proofs.PathLemmas.{congruent_symmetric, congruent_transitive}
use Rattle.kb_structure.specs.Structure.{Structure, AreEqual, Follows, IsRepresentative, IsAutomaticStructure}
use Rattle.kb_structure.specs.Certificates.{IsTrueToGroup}
use Rattle.kb_structure.proofs.Letters.{over_first, over_later}
use Rattle.kb_structure.proofs.Following.{follows_product}
use Rattle.kb_structure.proofs.Representatives.{empty_representative}

module _ (structure : Structure) (own : IsAutomaticStructure structure) where
  true_to_group : IsTrueToGroup structure
  true_to_group x u v generator multiplies = ((own.multipliers x generator u v).0 multiplies).equal

  -- from a least word a word leads to a least word
  leads_to_representative : (word from end : List ℕ) → IsOver structure.n word → IsRepresentative structure from
      → Follows structure word from end → IsRepresentative structure end
  leads_to_representative [] from end over least same = subst (IsRepresentative structure) same least
  leads_to_representative (x ∷ word) from end over least follows =
      let generator = over_first structure.n x word over in
      let product = (own.multipliers x generator from follows.0).0 follows.1.0 in
      leads_to_representative word follows.0 end (over_later structure.n x word over) product.second follows.1.1

  -- the word to which a word leads from the empty word is the least of its class
  pub leads_to_least : (word end : List ℕ) → IsOver structure.n word → Follows structure word [] end
      → IsLeast (Below structure.order) structure.relations word end
  leads_to_least word end over follows =
      let equal : AreEqual structure word end = follows_product structure true_to_group word [] end over follows in
      let least = leads_to_representative word [] end over (empty_representative structure) follows in
      record {
        congruent = equal;
        least = λ other also. least.least.least other (congruent_transitive (congruent_symmetric equal) also);
      }
