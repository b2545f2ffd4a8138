-- What is refused field by field is the first fault.
use Rattle.std.proofs.Common.{◌≡◌, ◌≢◌, ℕ, ◌<◌, ◌≤◌, inl, inr, ℤ, List, length, Option, Some, None, refl, sym, ap, subst, ◌∙◌, arith}
use Rattle.std.specs.Prelude.{codes}
use Rattle.kb_record.specs.Tree.{Value, string_value, list_value, Fields, Places, record_value}
use Rattle.kb_fields.specs.FirstFaults.{IsFirstFault}
use Rattle.kb_fields.specs.Fields.{value_of, list_of_numbers, place_count, IsFirstRepeated}
use Rattle.kb_fields.proofs.ListingLemmas.{list_same, some_value}
use Rattle.kb_presfile.specs.Holds.{most_equations, IsOrdering, AreWeights, place_at, HoldsPlaces, HasNames, HasInverses}
use Rattle.kb_presfile.specs.Checks.{field_names, is_there, is_of_kind, known_ordering, right_weights, known_inverses, mutual_inverses, few_equations, read_equations}
use Rattle.kb_presfile.specs.Faults.{name_of, IsNeeded, IsOfKind, PlaceIsUnknown, IsNotMutual, PlacesHaveFault, HasFaultAt, StepFinds, IsMemoryOr, IsFirstOf, IsFirstFrom, IsFreeBefore}
use Rattle.kb_presfile.specs.declared.order.Ordering.TheVariants as orderings
use Rattle.kb_presfile.specs.declared.error.Field.{Field}
use Rattle.kb_presfile.specs.declared.error.Field.TheVariants as kinds
use Rattle.kb_presfile.specs.declared.error.PresError.{PresError}
use Rattle.kb_presfile.specs.declared.error.PresError.TheVariants as errors
use Rattle.kb_presfile.proofs.CheckLemmas.{at_start, first_at, first_found, first_of_places, passed, memory_or_weaker}
use Rattle.kb_presfile.proofs.FreeLemmas.{after_there}
use Rattle.kb_presfile.proofs.NoFault.{none_of_other_kind, places_of_kind}
use Rattle.kb_presfile.proofs.PlaceLemmas.{one_list_of_names}
use Rattle.kb_presfile.proofs.UniqueParts.{one_list_of_places, one_list_of_inverses}

module _ (given : Fields) where
  pub repeated_fault : (name : List ℕ) → IsFirstRepeated (record_value given) name → IsFirstOf given (errors.FieldTwice name)
  repeated_fault name fault =
      first_at given field_names (at_start given) fault.check (errors.FieldTwice name) (name, refl, fault.found)
      (λ k other before found. fault.first k found.0 before found.2)

  pub missing_fault : (field : Field) → IsNeeded given field → value_of given (name_of field) ≡ None → IsFirstFrom given (is_there field) (errors.MissingField field)
  missing_fault field needed absent = λ free. first_found given (is_there field) free (errors.MissingField field) (refl, needed, absent)

  pub kind_fault : (field : Field) (value : Value) → value_of given (name_of field) ≡ Some value → (IsOfKind given field value → ⊥) → IsFreeBefore given (is_of_kind field)
      → IsFirstOf given (errors.WrongKind field)
  kind_fault field value is other free = first_found given (is_of_kind field) free (errors.WrongKind field) (refl, value, is, other)

  -- the same of a field that must be there
  pub kind_fault_there : (field : Field) (value : Value) → value_of given (name_of field) ≡ Some value → (IsOfKind given field value → ⊥)
      → IsFirstFrom given (is_there field) (errors.WrongKind field)
  kind_fault_there field value is other = λ free. kind_fault field value is other (after_there given field value is free)

  pub ordering_fault : (text : List ℕ) → value_of given (codes "ordering") ≡ Some (string_value text) → text ≢ codes "shortlex" → text ≢ codes "wtlex"
      → IsFirstFrom given (is_of_kind kinds.Ordering) errors.OtherOrdering
  ordering_fault text is not_shortlex not_wtlex = λ free.
      let kind = none_of_other_kind given kinds.Ordering (string_value text) is (text, refl) in
      first_found given known_ordering (passed given (is_of_kind kinds.Ordering) free kind known_ordering refl) errors.OtherOrdering
      (refl, record { text = text; listed = is; not_shortlex = not_shortlex; not_wtlex = not_wtlex })

  module _ (names : List (List ℕ)) (named : HasNames given names) where
    pub weights_fault : IsOrdering given orderings.WtLex → (numbers : List ℤ) → value_of given (codes "weight") ≡ Some (list_value (list_of_numbers numbers))
        → ((weights : List ℕ) → AreWeights (length names) numbers weights → ⊥) → IsFirstFrom given (is_there kinds.Weight) errors.WeightsWrong
    weights_fault ordering numbers is none = λ free.
        let there = after_there given kinds.Weight (list_value (list_of_numbers numbers)) is free in
        let kind = none_of_other_kind given kinds.Weight (list_value (list_of_numbers numbers)) is (λ _. (numbers, refl)) in
        first_found given right_weights (passed given (is_of_kind kinds.Weight) there kind right_weights refl) errors.WeightsWrong
        (refl, record { ordering = ordering; names = names; named = named; numbers = numbers; listed = is; are_none = none })

    -- the first fault of names at places for inverses
    module _ (places : List (Option (List ℕ))) (placed : HoldsPlaces (value_of given (codes "inverses")) places)
        (past : (k : ℕ) → length names ≤ k → place_at places k ≡ None) where
      unknown_in : (k : ℕ) (e : PresError) → PlaceIsUnknown names places k e → StepFinds given known_inverses k e
      unknown_in k e fault = record { names = names; places = places; has_places = record { named = named; placed = placed }; fault = fault }

      unknown_of : (k : ℕ) (e : PresError) → StepFinds given known_inverses k e → PlaceIsUnknown names places k e
      unknown_of k e found =
          let same = one_list_of_names given found.names names found.has_places.named named in
          let same_places = one_list_of_places _ found.places places found.has_places.placed placed in
          let N : List (List ℕ) → Type 0 = λ ns. PlaceIsUnknown ns found.places k e in
          let P : List (Option (List ℕ)) → Type 0 = λ ps. PlaceIsUnknown names ps k e in
          subst P same_places (subst N same found.fault)

      one_sided_in : (k : ℕ) (e : PresError) → IsNotMutual names places k e → StepFinds given mutual_inverses k e
      one_sided_in k e fault = record { names = names; places = places; has_places = record { named = named; placed = placed }; fault = fault }

      one_sided_of : (k : ℕ) (e : PresError) → StepFinds given mutual_inverses k e → IsNotMutual names places k e
      one_sided_of k e found =
          let same = one_list_of_names given found.names names found.has_places.named named in
          let same_places = one_list_of_places _ found.places places found.has_places.placed placed in
          let N : List (List ℕ) → Type 0 = λ ns. IsNotMutual ns found.places k e in
          let P : List (Option (List ℕ)) → Type 0 = λ ps. IsNotMutual names ps k e in
          subst P same_places (subst N same found.fault)

      first_place_fault : IsFreeBefore given (is_of_kind kinds.Inverses) → (e : PresError) → PlacesHaveFault names places e → IsFirstOf given e
      first_place_fault free e fault = of fault
        where
          kind : IsFreeBefore given known_inverses
          kind = passed given (is_of_kind kinds.Inverses) free (places_of_kind given names named places placed past) known_inverses refl

          of : PlacesHaveFault names places e → IsFirstOf given e
          of (inl unknown) = first_of_places given known_inverses kind (PlaceIsUnknown names places) unknown_in unknown_of e unknown
          of (inr sided) =
              let known = passed given known_inverses kind (λ k other found. sided.0 k other (unknown_of k other found)) mutual_inverses refl in
              first_of_places given mutual_inverses known (IsNotMutual names places) one_sided_in one_sided_of e sided.1

      pub places_fault : (error : PresError) → IsMemoryOr (PlacesHaveFault names places) error → IsFirstFrom given (is_of_kind kinds.Inverses) error
      places_fault error fault = λ free. memory_or_weaker (PlacesHaveFault names places) (IsFirstOf given) (first_place_fault free) error fault

    -- the first fault of the equations
    module _ (inverses : List (Option ℕ)) (inverted : HasInverses given names inverses) (places : Places)
        (listed : value_of given (codes "equations") ≡ Some (list_value places)) (free : IsFreeBefore given (is_there kinds.Equations)) where
      free_kind : IsFreeBefore given few_equations
      free_kind =
          passed given (is_of_kind kinds.Equations) (after_there given kinds.Equations (list_value places) listed free)
          (none_of_other_kind given kinds.Equations (list_value places) listed (places, refl)) few_equations refl

      pub many_fault : most_equations < place_count places → IsFirstOf given errors.TooManyEquations
      many_fault many = first_found given few_equations free_kind errors.TooManyEquations (refl, places, listed, many)

      same_places : (others : Places) → value_of given (codes "equations") ≡ Some (list_value others) → others ≡ places
      same_places others also = list_same (some_value (sym also ∙ listed))

      few : place_count places ≤ most_equations → (k : ℕ) (e : PresError) → StepFinds given few_equations k e → ⊥
      few count k e found = let same = ap place_count (same_places found.1 found.2) in omega (arith, found.3, same, count)

      fault_in : (k : ℕ) (e : PresError) → HasFaultAt names inverses places k e → StepFinds given read_equations k e
      fault_in k e fault = record { names = names; inverses = inverses; named = named; inverted = inverted; places = places; listed = listed; fault = fault }

      fault_of : (k : ℕ) (e : PresError) → StepFinds given read_equations k e → HasFaultAt names inverses places k e
      fault_of k e found =
          let same = one_list_of_names given found.names names found.named named in
          let I : List (List ℕ) → Type 0 = λ ns. HasInverses given ns found.inverses in
          let same_inverses = one_list_of_inverses given names found.inverses inverses (subst I same found.inverted) inverted in
          let N : List (List ℕ) → Type 0 = λ ns. HasFaultAt ns found.inverses found.places k e in
          let J : List (Option ℕ) → Type 0 = λ is. HasFaultAt names is found.places k e in
          let P : Places → Type 0 = λ ps. HasFaultAt names inverses ps k e in
          subst P (same_places found.places found.listed) (subst J same_inverses (subst N same found.fault))

      pub equations_fault : place_count places ≤ most_equations → (error : PresError) → IsMemoryOr (IsFirstFault ◌<◌ (HasFaultAt names inverses places)) error
          → IsMemoryOr (IsFirstOf given) error
      equations_fault count error fault =
          memory_or_weaker (IsFirstFault ◌<◌ (HasFaultAt names inverses places)) (IsFirstOf given)
          (λ e first. first_of_places given read_equations (passed given few_equations free_kind (few count) read_equations refl) (HasFaultAt names inverses places) fault_in fault_of e first)
          error fault
