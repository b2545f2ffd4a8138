-- What was read, and the step before which nothing is found then.
use Rattle.std.proofs.Common.{◌≡◌, ℕ, suc, List, Option, Some, refl}
use Rattle.std.specs.Prelude.{codes}
use Rattle.kb_word.specs.declared.word_order.WordOrder.{WordOrder}
use Rattle.kb_record.specs.Tree.{Value, Fields, record_value}
use Rattle.kb_fields.specs.Fields.{value_of, bare_name, HasFieldTwice}
use Rattle.kb_fields.specs.Generators.{AreGeneratorNames}
use Rattle.kb_presfile.specs.Holds.{IsOrdering, HasOrder, HasNames, HasInverses}
use Rattle.kb_presfile.specs.Checks.{field_names, is_there, is_of_kind, known_ordering, few_names, free_names, right_weights, known_inverses, mutual_inverses, rank}
use Rattle.kb_presfile.specs.Faults.{name_of, IsFreeBefore}
use Rattle.kb_presfile.specs.declared.order.Ordering.{Ordering}
use Rattle.kb_presfile.specs.declared.error.Field.{Field}
use Rattle.kb_presfile.specs.declared.error.Field.TheVariants as kinds
use Rattle.kb_presfile.proofs.CheckLemmas.{at_start, passed}
use Rattle.kb_presfile.proofs.NoFault as none

kind_follows : (field : Field) → rank (is_of_kind field) ≡ suc (rank (is_there field))
kind_follows kinds.IsRws = refl
kind_follows kinds.Ordering = refl
kind_follows kinds.GeneratorOrder = refl
kind_follows kinds.Weight = refl
kind_follows kinds.Inverses = refl
kind_follows kinds.Equations = refl

module _ (given : Fields) where
  -- a field that is there
  pub after_there : (field : Field) (value : Value) → value_of given (name_of field) ≡ Some value → IsFreeBefore given (is_there field) → IsFreeBefore given (is_of_kind field)
  after_there field value is free = passed given (is_there field) free (none.none_missing given field value is) (is_of_kind field) (kind_follows field)

  pub after_once : ((name : List ℕ) → HasFieldTwice (record_value given) name → ⊥) → IsFreeBefore given (is_there kinds.IsRws)
  after_once once = passed given field_names (at_start given) (none.none_repeated given once) (is_there kinds.IsRws) refl

  pub after_is_rws : value_of given (codes "isRWS") ≡ Some (bare_name (codes "true")) → IsFreeBefore given (is_there kinds.IsRws) → IsFreeBefore given (is_of_kind kinds.Ordering)
  after_is_rws is free =
      let there = after_there kinds.IsRws (bare_name (codes "true")) is free in
      let kind = passed given (is_of_kind kinds.IsRws) there (none.none_of_other_kind given kinds.IsRws (bare_name (codes "true")) is refl) (is_there kinds.Ordering) refl in
      passed given (is_there kinds.Ordering) kind (none.none_needed given kinds.Ordering (λ never. never)) (is_of_kind kinds.Ordering) refl

  pub after_ordering : (ordering : Ordering) → IsOrdering given ordering → IsFreeBefore given (is_of_kind kinds.Ordering) → IsFreeBefore given (is_there kinds.GeneratorOrder)
  after_ordering ordering is free =
      let kind = passed given (is_of_kind kinds.Ordering) free (none.ordering_of_kind given ordering is) known_ordering refl in
      passed given known_ordering kind (none.ordering_known given ordering is) (is_there kinds.GeneratorOrder) refl

  module _ (names : List (List ℕ)) (named : HasNames given names) where
    pub after_names : AreGeneratorNames names → IsFreeBefore given (is_there kinds.GeneratorOrder) → IsFreeBefore given (is_there kinds.Weight)
    after_names are free =
        let there = passed given (is_there kinds.GeneratorOrder) free (none.names_there given names named) (is_of_kind kinds.GeneratorOrder) refl in
        let kind = passed given (is_of_kind kinds.GeneratorOrder) there (none.names_of_kind given names named) few_names refl in
        let few = passed given few_names kind (none.names_few given names named are.few) free_names refl in
        passed given free_names few (none.names_free given names named are) (is_there kinds.Weight) refl

    pub after_order : (order : WordOrder) → HasOrder given names order → IsFreeBefore given (is_there kinds.Weight) → IsFreeBefore given (is_of_kind kinds.Inverses)
    after_order order has free =
        let there = passed given (is_there kinds.Weight) free (none.weights_there given names named order has) (is_of_kind kinds.Weight) refl in
        let kind = passed given (is_of_kind kinds.Weight) there (none.weights_of_kind given names named order has) right_weights refl in
        let right = passed given right_weights kind (none.weights_right given names named order has) (is_there kinds.Inverses) refl in
        passed given (is_there kinds.Inverses) right (none.none_needed given kinds.Inverses (λ never. never)) (is_of_kind kinds.Inverses) refl

    pub after_inverses : (inverses : List (Option ℕ)) → HasInverses given names inverses → IsFreeBefore given (is_of_kind kinds.Inverses) → IsFreeBefore given (is_there kinds.Equations)
    after_inverses inverses has free =
        let kind = passed given (is_of_kind kinds.Inverses) free (none.inverses_of_kind given names named inverses has) known_inverses refl in
        let known = passed given known_inverses kind (none.inverses_known given names named inverses has) mutual_inverses refl in
        passed given mutual_inverses known (none.inverses_mutual given names named inverses has) (is_there kinds.Equations) refl
