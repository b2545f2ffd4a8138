-- Which checks find nothing, by what the fields say.
use Rattle.std.proofs.Common.{◌≡◌, ℕ, zero, suc, ◌<◌, ◌≤◌, ◌⊎◌, inl, inr, ℤ, List, [], ◌∷◌, length, Option, None, Some, Result, Ok, refl, sym, ap, subst, ◌∙◌, arith}
use Rattle.std.specs.Prelude.{codes}
use Rattle.std.proofs.lemmas.Bool.{cases_lt}
use Rattle.kb_word.specs.Words.{Pair}
use Rattle.kb_word.specs.declared.word_order.WordOrder.{WordOrder}
use Rattle.kb_word.specs.declared.word_order.WordOrder.TheVariants as orders
use Rattle.kb_record.specs.Tree.{Factors, Value, string_value, list_value, Fields, Places, record_value}
use Rattle.kb_record.specs.Meaning.{WordFault, word_meaning}
use Rattle.kb_fields.specs.Fields.{value_of, list_of_names, value_at, place_count, HasFieldTwice}
use Rattle.kb_fields.specs.Generators.{most_generators, IsTaken, AreGeneratorNames}
use Rattle.kb_fields.proofs.ListingLemmas.{list_same, some_value}
use Rattle.kb_fields.proofs.NamingLemmas.{none_within}
use Rattle.kb_fields.proofs.NumberLemmas.{one_list_of_numbers}
use Rattle.kb_fields.proofs.TakenLemmas.{is_taken}
use Rattle.kb_presfile.specs.Kinds.{list_of_equations, list_of_places}
use Rattle.kb_presfile.specs.Holds.{place_at, IsShortlex, IsOrdering, AreWeights, HasWeights, HasOrder, HoldsPlaces, StandFor, GivesInverses, HasNames, HasInverses, IsEquation, AreMeanings, HasEquations}
use Rattle.kb_presfile.specs.Checks.{Step, field_names, is_there, is_of_kind, known_ordering, few_names, free_names, right_weights, known_inverses, mutual_inverses, few_equations, read_equations}
use Rattle.kb_presfile.specs.Faults.{name_of, IsNeeded, IsOfKind, IsFaultOf, SidesHaveFault, PlaceHasFault, HasFaultAt, PlaceIsUnknown, IsNotMutual, StepFinds}
use Rattle.kb_presfile.specs.declared.order.Ordering.{Ordering}
use Rattle.kb_presfile.specs.declared.order.Ordering.TheVariants as orderings
use Rattle.kb_presfile.specs.declared.error.Field.{Field}
use Rattle.kb_presfile.specs.declared.error.Field.TheVariants as kinds
use Rattle.kb_presfile.specs.declared.error.PresError.{PresError}
use Rattle.kb_presfile.proofs.InverseLemmas.{one_sided}
use Rattle.kb_presfile.proofs.PlaceLemmas.{one_list_of_names}
use Rattle.kb_presfile.proofs.UniqueParts.{one_list_of_places, one_list_of_inverses, sides_same, not_both_orderings}

-- the step finds nothing at any place
abbrev pub FindsNone : Fields → Step → Type 0
FindsNone given step = (k : ℕ) (e : PresError) → StepFinds given step k e → ⊥

-- a word that means something has no fault
word_has_none : (m : Result (List ℕ) WordFault) (w : List ℕ) (error : PresError) → m ≡ Ok w → IsFaultOf m error → ⊥
word_has_none m w error is fault = let never = sym is ∙ fault.1 in cc

-- nor has a place with an equation
pub no_fault_here : (names : List (List ℕ)) (inverses : List (Option ℕ)) (place : Option Value) (pair : Pair) (error : PresError)
    → IsEquation names inverses place pair → PlaceHasFault names inverses place error → ⊥
no_fault_here names inverses place pair error is (inl none) = none.1 is.sides is.stands
no_fault_here names inverses place pair error is (inr some) =
    let same = sides_same some.0 is.sides (sym some.1 ∙ is.stands) in
    let P : Factors × Factors → Type 0 = λ s. SidesHaveFault names inverses s error in
    side (subst P same some.2)
  where
    side : SidesHaveFault names inverses is.sides error → ⊥
    side (inl left) = word_has_none (word_meaning names inverses is.sides.0) pair.0 error is.left left
    side (inr right) = word_has_none (word_meaning names inverses is.sides.1) pair.1 error is.right right.2

-- what stands at a place of a list of equations
pub record IsRead (names : List (List ℕ)) (inverses : List (Option ℕ)) (places : Places) (k : ℕ) : Type 0 where
  pub pair : Pair
  pub is : IsEquation names inverses (value_at places k) pair

read_at : (names : List (List ℕ)) (inverses : List (Option ℕ)) (sides : List (Factors × Factors)) (pairs : List Pair) (k : ℕ)
    → AreMeanings names inverses sides pairs → k < place_count (list_of_equations sides) → IsRead names inverses (list_of_equations sides) k
read_at names inverses [] pairs k are within = absurd (omega (arith, within))
read_at names inverses (t ∷ sides) [] k are within = absurd are
read_at names inverses (t ∷ sides) (p ∷ pairs) zero are within =
    record { pair = p; is = record { sides = t; stands = refl; left = are.0; right = are.1 } }
read_at names inverses (t ∷ sides) (p ∷ pairs) (suc k) are within =
    let rest = read_at names inverses sides pairs k are.2 (omega (arith, within)) in
    record { pair = rest.pair; is = record { sides = rest.is.sides; stands = rest.is.stands; left = rest.is.left; right = rest.is.right } }

-- names at places are known that stand for letters, and none stands past the last generator
pub none_unknown : (names : List (List ℕ)) (places : List (Option (List ℕ))) (letters : List (Option ℕ)) (k : ℕ) (error : PresError)
    → StandFor names places letters → ((j : ℕ) → length names ≤ j → place_at places j ≡ None) → PlaceIsUnknown names places k error → ⊥
none_unknown names places letters k error stand none_past fault = go (cases_lt k (length names))
  where
    go : (k < length names) ⊎ (length names ≤ k) → ⊥
    go (inl within) = let x = stand.some k fault.name fault.stands within in let never = sym x.1 ∙ fault.unknown in cc
    go (inr past) = let never = sym (none_past k past) ∙ fault.stands in cc

none_one_sided : (names : List (List ℕ)) (places : List (Option (List ℕ))) (inverses : List (Option ℕ)) (k : ℕ) (error : PresError)
    → GivesInverses names places inverses → IsNotMutual names places k error → ⊥
none_one_sided names places inverses k error gives fault =
    let sided = one_sided names places inverses k error gives.letters fault in
    sided.not_back (gives.both_ways (suc k) sided.y sided.inverse)

-- each name of a field stands once
pub none_repeated : (given : Fields) → ((name : List ℕ) → HasFieldTwice (record_value given) name → ⊥) → FindsNone given field_names
none_repeated given once k e found = none_within (record_value given) once k found.0 found.2

module _ (given : Fields) (field : Field) where
  -- the field is there, or isn't needed
  pub none_missing : (value : Value) → value_of given (name_of field) ≡ Some value → FindsNone given (is_there field)
  none_missing value is k e found = let never = sym found.2 ∙ is in cc

  pub none_needed : (IsNeeded given field → ⊥) → FindsNone given (is_there field)
  none_needed free k e found = free found.1

  -- its value is of its kind, or it is absent
  pub none_of_other_kind : (value : Value) → value_of given (name_of field) ≡ Some value → IsOfKind given field value → FindsNone given (is_of_kind field)
  none_of_other_kind value is kind k e found =
      let same = some_value (sym is ∙ found.2) in
      let P : Value → Type 0 = λ v. IsOfKind given field v in
      found.3 (subst P same kind)

  pub none_absent : value_of given (name_of field) ≡ None → FindsNone given (is_of_kind field)
  none_absent absent k e found = let never = sym absent ∙ found.2 in cc

text_same : {a b : List ℕ} → string_value a ≡ string_value b → a ≡ b
text_same e = cc

-- the ordering is a string that is known
module _ (given : Fields) where
  ordering_is : (ordering : Ordering) → IsOrdering given ordering → (value : Value) → value_of given (codes "ordering") ≡ Some value
      → (value ≡ string_value (codes "shortlex")) ⊎ (value ≡ string_value (codes "wtlex"))
  ordering_is orderings.ShortLex has value is = let P : Option Value → Type 0 = λ o. IsShortlex o in inl (subst P is has)
  ordering_is orderings.WtLex has value is = inr (some_value (sym is ∙ has))

  pub ordering_of_kind : (ordering : Ordering) → IsOrdering given ordering → FindsNone given (is_of_kind kinds.Ordering)
  ordering_of_kind ordering has k e found = elim (ordering_is ordering has found.1 found.2) [
    | inl is ↦ found.3 (codes "shortlex", is)
    | inr is ↦ found.3 (codes "wtlex", is)
  ]

  pub ordering_known : (ordering : Ordering) → IsOrdering given ordering → FindsNone given known_ordering
  ordering_known ordering has k e found = elim (ordering_is ordering has (string_value found.1.text) found.1.listed) [
    | inl is ↦ found.1.not_shortlex (text_same is)
    | inr is ↦ found.1.not_wtlex (text_same is)
  ]

-- the names are names of generators
module _ (given : Fields) (names : List (List ℕ)) (named : HasNames given names) where
  pub names_there : FindsNone given (is_there kinds.GeneratorOrder)
  names_there = none_missing given kinds.GeneratorOrder (list_value (list_of_names names)) named

  pub names_of_kind : FindsNone given (is_of_kind kinds.GeneratorOrder)
  names_of_kind = none_of_other_kind given kinds.GeneratorOrder (list_value (list_of_names names)) named (names, refl)

  pub names_few : length names ≤ most_generators → FindsNone given few_names
  names_few few k e found =
      let same = ap length (one_list_of_names given found.1 names found.2 named) in omega (arith, found.3, same, few)

  pub names_free : AreGeneratorNames names → FindsNone given free_names
  names_free are k e found =
      let same = one_list_of_names given found.names names found.named named in
      let P : List (List ℕ) → Type 0 = λ ns. IsTaken ns found.name in
      are.free found.name (subst P same (is_taken found.names k found.name found.taken))

  -- where the order goes by weight the weights are there
  module _ (order : WordOrder) (ordered : HasOrder given names order) where
    weights_listed : IsOrdering given orderings.WtLex → (weights : List ℕ) × HasWeights given names weights
    weights_listed ordering = of order ordered
      where
        of : (order : WordOrder) → HasOrder given names order → (weights : List ℕ) × HasWeights given names weights
        of orders.ShortLex has = absurd (not_both_orderings given has ordering)
        of (orders.WtLex weights) has = (weights, has.1)

    pub weights_there : FindsNone given (is_there kinds.Weight)
    weights_there k e found = let has = weights_listed found.1 in let never = sym found.2 ∙ has.1.listed in cc

    pub weights_of_kind : FindsNone given (is_of_kind kinds.Weight)
    weights_of_kind k e found = found.3 (λ ordering. let has = weights_listed ordering in (has.1.numbers, some_value (sym found.2 ∙ has.1.listed)))

    pub weights_right : FindsNone given right_weights
    weights_right k e found =
        let wrong = found.1 in
        let has = weights_listed wrong.ordering in
        let same = one_list_of_names given wrong.names names wrong.named named in
        let numbers = one_list_of_numbers has.1.numbers wrong.numbers (some_value (sym has.1.listed ∙ wrong.listed)) in
        let P : List (List ℕ) → Type 0 = λ ns. AreWeights (length ns) wrong.numbers has.0 in
        let Q : List ℤ → Type 0 = λ zs. AreWeights (length names) zs has.0 in
        wrong.are_none has.0 (subst P (sym same) (subst Q numbers has.1.are))

  -- the places for inverses hold names, as many as there are generators
  pub places_of_kind : (places : List (Option (List ℕ))) → HoldsPlaces (value_of given (codes "inverses")) places
      → ((j : ℕ) → length names ≤ j → place_at places j ≡ None) → FindsNone given (is_of_kind kinds.Inverses)
  places_of_kind places placed past k e found = found.3 (λ others also.
      let same = one_list_of_names given names others named also in
      let P : List (List ℕ) → Type 0 = λ ns. (j : ℕ) → length ns ≤ j → place_at places j ≡ None in
      let Q : Option Value → Type 0 = λ o. HoldsPlaces o places in
      let listed : found.1 ≡ list_value (list_of_places places) = subst Q found.2 placed in
      (places, listed, subst P same past))

  -- the inverses are given
  module _ (inverses : List (Option ℕ)) (inverted : HasInverses given names inverses) where
    pub inverses_of_kind : FindsNone given (is_of_kind kinds.Inverses)
    inverses_of_kind = places_of_kind inverted.places inverted.placed inverted.gives.none_past

    pub inverses_known : FindsNone given known_inverses
    inverses_known k e found =
        let same = one_list_of_names given found.names names found.has_places.named named in
        let places = one_list_of_places _ found.places inverted.places found.has_places.placed inverted.placed in
        let N : List (List ℕ) → Type 0 = λ ns. PlaceIsUnknown ns found.places k e in
        let P : List (Option (List ℕ)) → Type 0 = λ ps. PlaceIsUnknown names ps k e in
        none_unknown names inverted.places inverses k e inverted.gives.letters inverted.gives.none_past (subst P places (subst N same found.fault))

    pub inverses_mutual : FindsNone given mutual_inverses
    inverses_mutual k e found =
        let same = one_list_of_names given found.names names found.has_places.named named in
        let places = one_list_of_places _ found.places inverted.places found.has_places.placed inverted.placed in
        let N : List (List ℕ) → Type 0 = λ ns. IsNotMutual ns found.places k e in
        let P : List (Option (List ℕ)) → Type 0 = λ ps. IsNotMutual names ps k e in
        none_one_sided names inverted.places inverses k e inverted.gives (subst P places (subst N same found.fault))

    -- the equations are read
    module _ (equations : List Pair) (has : HasEquations given names inverses equations) where
      pub equations_there : FindsNone given (is_there kinds.Equations)
      equations_there = none_missing given kinds.Equations (list_value has.places) has.listed

      pub equations_of_kind : FindsNone given (is_of_kind kinds.Equations)
      equations_of_kind = none_of_other_kind given kinds.Equations (list_value has.places) has.listed (has.places, refl)

      pub equations_few : FindsNone given few_equations
      equations_few k e found =
          let same = ap place_count (list_same (some_value (sym found.2 ∙ has.listed))) in omega (arith, found.3, same, has.few)

      pub equations_read : FindsNone given read_equations
      equations_read k e found =
          let same = one_list_of_names given found.names names found.named named in
          let I : List (List ℕ) → Type 0 = λ ns. HasInverses given ns found.inverses in
          let same_inverses = one_list_of_inverses given names found.inverses inverses (subst I same found.inverted) inverted in
          let same_list : found.places ≡ list_of_equations has.read.sides = list_same (some_value (sym found.listed ∙ has.listed)) ∙ has.read.listed in
          let N : List (List ℕ) → Type 0 = λ ns. HasFaultAt ns found.inverses found.places k e in
          let J : List (Option ℕ) → Type 0 = λ is. HasFaultAt names is found.places k e in
          let P : Places → Type 0 = λ ps. HasFaultAt names inverses ps k e in
          let fault = subst P same_list (subst J same_inverses (subst N same found.fault)) in
          let read = read_at names inverses has.read.sides equations k has.read.meanings fault.0 in
          no_fault_here names inverses (value_at (list_of_equations has.read.sides) k) read.pair e read.is fault.1
