-- From relation to relation, until the sides of one lead apart.
use Rattle.std.proofs.Common.{◌≡◌, ℕ, ◌+◌, ◌<◌, List, [], length, get_or, slice_get, Some, refl, sym, ◌∙◌, subst, add-one, arith}
use Rattle.std.proofs.lemmas.Option.{same_Some, slice_get_read, slice_get_within}
use Rattle.kb_word.specs.Words.{Pair as Sides, Less}
use Rattle.kb_word.specs.Relations.{IsOver}
use Rattle.kb_word.specs.declared.word_order.WordOrder.{WordOrder}
use Rattle.kb_word.specs.declared.word_order.WordOrder.TheVariants.{ShortLex}
use Rattle.kb_fsa.specs.Language.{Automaton, Accepts, generators}
use Rattle.kb_leastpair.specs.LeastPair.{IsLeastWord}
use Rattle.kb_structure.specs.Structure.{Structure, Follows}
use Rattle.kb_structure.specs.StructureOf.{structure_of, OfAutomata}
use Rattle.kb_structure.specs.Axioms.{ActAlike}
use Rattle.kb_structure.specs.Certificates.{RelationBroken}
use Rattle.kb_draw.specs.First.{AllLack}
use Rattle.kb_relations.specs.Images.{CanBeFollowed}
use Rattle.kb_relations.specs.Composites.{CountedRelation}
use Rattle.kb_relations.specs.Acts.{AreOver, LeadApart, ActAlikeBefore, AtNumber, IsFirstBroken, IsFirstCounted}
use Rattle.kb_relations.specs.declared.stop.Stop.TheVariants.{LedApart, TooManyStates}
use Rattle.kb_relations.specs.Stops.{GoesOnAt, IsApartFrom, StopsAt}
use Rattle.kb_relations.proofs.UniqueImages.{leads_to_one}

module _ (relations : List Sides) (acceptor : Automaton) (multipliers : List Automaton) (limit : ℕ) where
  abbrev Alike : ℕ → Type 0
  Alike index = ActAlikeBefore relations acceptor multipliers limit index

  abbrev GoesOn : ℕ → Type 0
  GoesOn index = GoesOnAt relations acceptor multipliers limit index

  -- where the search goes on before the index, the relations before it act alike
  pub all_alike : CanBeFollowed acceptor multipliers → (index : ℕ) → AllLack index GoesOn → Alike index
  all_alike followed index each = record {
    alike = λ earlier relation below is. (each earlier below).alike followed relation is;
    few = λ earlier relation below is. (each earlier below).few relation is;
  }

  -- where the search ends there is a relation
  pub stops_within : (at index : ℕ) (word : List ℕ) → StopsAt relations acceptor multipliers limit at (LedApart index word)
      → index < length relations
  stops_within at index word stops =
      let same = stops.here in
      let within = slice_get_within relations at stops.relation stops.is_relation in omega (arith, same, within)

  pub first_counted : CanBeFollowed acceptor multipliers → (at index : ℕ) → AllLack at GoesOn
      → StopsAt relations acceptor multipliers limit at (TooManyStates index)
      → AtNumber (IsFirstCounted relations acceptor multipliers limit) (index + 1)
  first_counted followed at index earlier stops =
      let Q : ℕ → Type 0 = λ k. AtNumber (IsFirstCounted relations acceptor multipliers limit) (k + 1) in
      subst Q (sym stops.here) (record {
        index = at;
        counts_from_one = add-one at;
        holds = record {
          earlier = all_alike followed at earlier;
          relation = stops.relation;
          is_relation = stops.is_relation;
          counted = stops.holds;
        };
      })

  -- the relations before the one at which the search ends act alike
  pub alike_before : CanBeFollowed acceptor multipliers → (at index : ℕ) (word : List ℕ) → AllLack at GoesOn
      → StopsAt relations acceptor multipliers limit at (LedApart index word) → Alike index
  alike_before followed at index word earlier stops = subst Alike (sym stops.here) (all_alike followed at earlier)

  module _ (place : ℕ) (relation : Sides) (within : place < length relations) (is_item : relation ≡ get_or relations place relation) where
    pub is_relation : slice_get relations place ≡ Some relation
    is_relation = slice_get_read relations (length relations) place relation refl within is_item

    -- what is at the place is the relation
    the_relation : (other : Sides) → slice_get relations place ≡ Some other → relation ≡ other
    the_relation other is = same_Some _ _ (sym is_relation ∙ is)

    pub sides_over : AreOver acceptor relations
        → IsOver (generators acceptor.alphabet) relation.0 × IsOver (generators acceptor.alphabet) relation.1
    sides_over over = over relation (place, is_relation)

    pub goes_on : (CanBeFollowed acceptor multipliers → OfAutomata acceptor multipliers (λ structure. ActAlike structure relation.0 relation.1))
        → ¬ CountedRelation acceptor multipliers relation limit → GoesOn place
    goes_on alike few = record {
      alike = λ followed other is.
          let P : Sides → Type 0 = λ r. OfAutomata acceptor multipliers (λ structure. ActAlike structure r.0 r.1) in
          subst P (the_relation other is) (alike followed);
      few = λ other is.
          let P : Sides → Type 0 = λ r. ¬ CountedRelation acceptor multipliers r limit in
          subst P (the_relation other is) few;
    }

    -- where the search ends at this relation, its sides lead apart
    pub apart_here : (at : ℕ) (word : List ℕ) → StopsAt relations acceptor multipliers limit at (LedApart place word)
        → IsApartFrom acceptor multipliers limit relation word
    apart_here at word stops =
        let other = stops.relation in
        let At : ℕ → Type 0 = λ k. slice_get relations k ≡ Some other in
        let P : Sides → Type 0 = λ r. IsApartFrom acceptor multipliers limit r word in
        subst P (sym (the_relation other (subst At (sym stops.here) stops.is_relation))) stops.holds

    module _ (followed : CanBeFollowed acceptor multipliers) (over : AreOver acceptor relations) (word : List ℕ)
        (apart : OfAutomata acceptor multipliers (λ structure. IsLeastWord (LeadApart structure relation.0 relation.1) word)) where
      pub accepted_word : Accepts acceptor word
      accepted_word = (apart ShortLex []).holds.accepted.accepted

      module _ (left right : List ℕ) (left_leads : OfAutomata acceptor multipliers (λ structure. Follows structure relation.0 word left))
          (right_leads : OfAutomata acceptor multipliers (λ structure. Follows structure relation.1 word right)) where
        broken : (order : WordOrder) → RelationBroken (structure_of order relations acceptor multipliers) place word left right
        broken order =
            let structure : Structure = structure_of order relations acceptor multipliers in
            let parts = (apart order relations).holds in
            let unique = followed.unique_images order relations in
            let sides = sides_over over in
            let to_left = leads_to_one structure unique relation.0 word parts.a left sides.0 parts.left_leads (left_leads order relations) in
            let to_right = leads_to_one structure unique relation.1 word parts.b right sides.1 parts.right_leads (right_leads order relations) in record {
              relation = relation;
              is_relation = is_relation;
              accepted = parts.accepted;
              left = left_leads order relations;
              right = right_leads order relations;
              different = λ same. parts.different (to_left ∙ same ∙ sym to_right);
            }

        least : (order : WordOrder) (u a b : List ℕ) → RelationBroken (structure_of order relations acceptor multipliers) place u a b
            → ¬ Less u word
        least order u a b certificate =
            let structure : Structure = structure_of order relations acceptor multipliers in
            let other = certificate.relation in
            let P : Sides → Type 0 = λ r. LeadApart structure r.0 r.1 u in
            let parts : LeadApart structure other.0 other.1 u = record {
              a = a;
              b = b;
              accepted = certificate.accepted;
              left_leads = certificate.left;
              right_leads = certificate.right;
              different = certificate.different;
            } in
            (apart order relations).least u (subst P (sym (the_relation other certificate.is_relation)) parts)

        pub first_broken : Alike place → ¬ CountedRelation acceptor multipliers relation limit
            → AtNumber (λ index. IsFirstBroken relations acceptor multipliers limit index word left right) (place + 1)
        first_broken before few = record {
          index = place;
          counts_from_one = add-one place;
          holds = record {
            earlier = before;
            few = λ other is.
                let P : Sides → Type 0 = λ r. ¬ CountedRelation acceptor multipliers r limit in
                subst P (the_relation other is) few;
            broken = broken;
            least = least;
          };
        }
