-- First faults field by field, and fields in which nothing is found.
use Rattle.std.proofs.Common.{◌≡◌, ℕ, suc, ◌<◌, List, inl, inr, None, Some, refl, sym, ap, subst, ◌∙◌, arith}
use Rattle.std.proofs.lemmas.Bool.{cases_lt}
use Rattle.kb_record.specs.Tree.{Value, record_value, Fields}
use Rattle.kb_fields.specs.Fields.{value_of, IsFirstRepeated}
use Rattle.kb_fields.proofs.ListingLemmas.{some_value}
use Rattle.kb_fsafile.specs.Checks.{FieldPlace, field_of, optional, need_of, FieldStep, field_presence, field_kind, field_value, field_elements, Check, no_field_twice, of_field, of_row, padded_texts, order_of, stage_of, number_of_step, Before}
use Rattle.kb_fsafile.specs.Standing.{name_of, StandsIn, HasFieldKind}
use Rattle.kb_fsafile.specs.Faults.{IsRefusedValue, HasRefusedElement, FindsInField, Finds, IsFirstOf}
use Rattle.kb_fsafile.specs.Reading.{IsRefusalOf, IsOfOtherKind, IsMemoryOr, IsFreeBefore, IsFirstFrom}
use Rattle.kb_fsafile.specs.declared.error.FsaError.{FsaError}
use Rattle.kb_fsafile.specs.declared.error.FsaError.TheVariants as errors
use Rattle.kb_fsafile.proofs.CheckLemmas.{same_field, order_small, order_positive}
use Rattle.kb_fsafile.proofs.Owners.{one_owner}

-- what is found, or want of memory
pub found_or_memory : (Has : FsaError → Type 0) (error : FsaError) → Has error → IsMemoryOr Has error
found_or_memory Has errors.Memory has = tt
found_or_memory Has error has = has

pub memory_or_weaker : (Has Shows : FsaError → Type 0) → ((e : FsaError) → Has e → Shows e) → (error : FsaError) → IsMemoryOr Has error → IsMemoryOr Shows error
memory_or_weaker Has Shows shows errors.Memory has = tt
memory_or_weaker Has Shows shows error has = shows error has

pub memory_is_free : (Has : FsaError → Type 0) (error : FsaError) → error ≡ errors.Memory → IsMemoryOr Has error
memory_is_free Has error is = let P : FsaError → Type 0 = λ e. IsMemoryOr Has e in subst P (sym is) tt

-- nothing comes before the first check
pub at_start : (given : Fields) → IsFreeBefore given 0
at_start given = record { none = λ check error before. absurd (omega (arith, before)) }

-- one stage more in which nothing is found
pub stage_passed : (given : Fields) (stage : ℕ) → ((c : Check) (e : FsaError) → stage_of c ≡ stage → Finds given c e → ⊥) → IsFreeBefore given stage → IsFreeBefore given (suc stage)
stage_passed given stage none free = record { none = λ check error before. sooner check error before }
  where
    sooner : (check : Check) (error : FsaError) → stage_of check < suc stage → Finds given check error → ⊥
    sooner check error before found = elim (cases_lt (stage_of check) stage) [
      | inl less ↦ free.none check error less found
      | inr at ↦ none check error (omega (arith, at, before)) found
    ]

-- a name that stands twice is the first fault
pub first_repeated : (given : Fields) (name : List ℕ) → IsFirstRepeated (record_value given) name → IsFirstOf given (errors.FieldTwice name)
first_repeated given name is = record { check = no_field_twice; found = (name, refl, is); first = λ earlier e before found. never earlier before }
  where
    never : (earlier : Check) → Before earlier no_field_twice → ⊥
    never earlier (inl before) = omega (arith, before)
    never no_field_twice (inr same) = same.1
    never (of_field p s) (inr same) = same.1
    never (of_row k s) (inr same) = same.1
    never padded_texts (inr same) = same.1

-- what a check of the field finds
module _ (given : Fields) (place : FieldPlace) where
  abbrev FindsThere : FieldPlace → FieldStep → FsaError → Type 0
  FindsThere q step e = (owner : Fields) × StandsIn given q owner × FindsInField given q owner step e

  found_in : (c : Check) (e : FsaError) → stage_of c ≡ order_of place → Finds given c e → (step : FieldStep) × FindsThere place step e
  found_in no_field_twice e at found = let some = order_positive place in absurd (omega (arith, at, some))
  found_in (of_field q step) e at found = let P : FieldPlace → Type 0 = λ p. FindsThere p step e in (step, subst P (same_field q place at) found)
  found_in (of_row k step) e at found = let small = order_small place in absurd (omega (arith, at, small))
  found_in padded_texts e at found = let small = order_small place in absurd (omega (arith, at, small))

  -- a field that stands nowhere
  pub nowhere_passed : ((owner : Fields) → StandsIn given place owner → ⊥) → IsFreeBefore given (order_of place) → IsFreeBefore given (suc (order_of place))
  nowhere_passed none free =
      stage_passed given (order_of place) (λ c e at found. let there = found_in c e at found in none there.1.0 there.1.1) free

-- a field of the record
module _ (given : Fields) (place : FieldPlace) (owner : Fields) (stands : StandsIn given place owner) where
  same_owner : (other : Fields) (step : FieldStep) (e : FsaError) → StandsIn given place other → FindsInField given place other step e → FindsInField given place owner step e
  same_owner other step e there found =
      let P : Fields → Type 0 = λ fields. FindsInField given place fields step e in subst P (one_owner given place other owner there stands) found

  pub field_passed : ((step : FieldStep) (e : FsaError) → FindsInField given place owner step e → ⊥) → IsFreeBefore given (order_of place) → IsFreeBefore given (suc (order_of place))
  field_passed none free =
      stage_passed given (order_of place) (λ c e at found.
      let there = found_in given place c e at found in none there.0 e (same_owner there.1.0 there.0 e there.1.1 there.1.2)) free

  pub first_in_field : (step : FieldStep) (error : FsaError) → FindsInField given place owner step error
      → ((s : FieldStep) (e : FsaError) → number_of_step s < number_of_step step → FindsInField given place owner s e → ⊥) → IsFreeBefore given (order_of place)
      → IsFirstOf given error
  first_in_field step error found none free =
      record { check = of_field place step; found = (owner, stands, found); first = λ earlier e before. sooner earlier e before }
    where
      here : (q : FieldPlace) (s : FieldStep) (e : FsaError) → q ≡ place → number_of_step s < number_of_step step → Finds given (of_field q s) e → ⊥
      here q s e same before there =
          let P : FieldPlace → Type 0 = λ p. Finds given (of_field p s) e in
          let at = subst P same there in none s e before (same_owner at.0 s e at.1 at.2)

      sooner : (earlier : Check) (e : FsaError) → Before earlier (of_field place step) → Finds given earlier e → ⊥
      sooner earlier e (inl before) there = free.none earlier e before there
      sooner no_field_twice e (inr same) there = absurd same.1
      sooner (of_field q s) e (inr same) there = here q s e (same_field q place same.0) same.1 there
      sooner (of_row k s) e (inr same) there = absurd same.1
      sooner padded_texts e (inr same) there = absurd same.1

  -- the field isn't there, or of another kind, or memory ran out
  pub refused : (error : FsaError) → IsMemoryOr (IsRefusalOf (field_of place) (need_of place) owner) error → IsFirstFrom (order_of place) given error
  refused (errors.MissingField field) r free = first_in_field field_presence _ (ap (λ f. errors.MissingField f) r.0, r.1, r.2) none free
    where
      none : (s : FieldStep) (e : FsaError) → number_of_step s < 0 → FindsInField given place owner s e → ⊥
      none s e before found = omega (arith, before)
  refused (errors.WrongKind field) r free = first_in_field field_kind _ (ap (λ f. errors.WrongKind f) r.0, r.1, r.2, r.3) none free
    where
      none : (s : FieldStep) (e : FsaError) → number_of_step s < 1 → FindsInField given place owner s e → ⊥
      none field_presence e before found = let never = sym found.2 ∙ r.2 in cc
      none field_kind e before found = omega (arith, before)
      none field_value e before found = omega (arith, before)
      none field_elements e before found = omega (arith, before)
  refused errors.Memory r free = tt
  refused error r free = absurd r

  -- the field's value is of another kind
  pub kind_refused : (value : Value) (error : FsaError) → value_of owner (name_of (field_of place)) ≡ Some value → IsOfOtherKind (field_of place) value error
      → IsFirstFrom (order_of place) given error
  kind_refused value error is other =
      let P : FsaError → Type 0 = λ e. IsFirstFrom (order_of place) given e in
      subst P (sym other.0) (refused (errors.WrongKind (field_of place)) (refl, value, is, other.1))

  -- an optional field that isn't there
  pub absent_passed : need_of place ≡ optional → value_of owner (name_of (field_of place)) ≡ None → IsFreeBefore given (order_of place)
      → IsFreeBefore given (suc (order_of place))
  absent_passed need absent free = field_passed none free
    where
      none : (s : FieldStep) (e : FsaError) → FindsInField given place owner s e → ⊥
      none field_presence e found = let never = sym need ∙ found.1 in cc
      none field_kind e found = let never = sym absent ∙ found.2 in cc
      none field_value e found = let never = sym absent ∙ found.1 in cc
      none field_elements e found = let never = sym absent ∙ found.1 in cc

  -- the field has a value of its kind
  module _ (value : Value) (is : value_of owner (name_of (field_of place)) ≡ Some value) (of_kind : HasFieldKind (field_of place) value) where
    of_its_kind : (step : FieldStep) (e : FsaError) → number_of_step step < 2 → FindsInField given place owner step e → ⊥
    of_its_kind field_presence e before found = let never = sym found.2 ∙ is in cc
    of_its_kind field_kind e before found =
        let P : Value → Type 0 = λ v. HasFieldKind (field_of place) v in found.3 (subst P (some_value (sym is ∙ found.2)) of_kind)
    of_its_kind field_value e before found = omega (arith, before)
    of_its_kind field_elements e before found = omega (arith, before)

    -- which is refused
    pub value_refused : (error : FsaError) → IsRefusedValue given place owner value error → IsFirstFrom (order_of place) given error
    value_refused error refusal free = found_or_memory (IsFirstOf given) error (first_in_field field_value error (value, is, refusal) of_its_kind free)

    module _ (read : (e : FsaError) → IsRefusedValue given place owner value e → ⊥) where
      read_as_whole : (step : FieldStep) (e : FsaError) → number_of_step step < 3 → FindsInField given place owner step e → ⊥
      read_as_whole field_presence e before found = of_its_kind field_presence e (omega arith) found
      read_as_whole field_kind e before found = of_its_kind field_kind e (omega arith) found
      read_as_whole field_value e before found =
          let P : Value → Type 0 = λ v. IsRefusedValue given place owner v e in read e (subst P (some_value (sym found.1 ∙ is)) found.2)
      read_as_whole field_elements e before found = omega (arith, before)

      -- of which an element is refused
      pub element_refused : (error : FsaError) → HasRefusedElement given place value error → IsFirstFrom (order_of place) given error
      element_refused error refusal free = found_or_memory (IsFirstOf given) error (first_in_field field_elements error (value, is, refusal) read_as_whole free)

      -- which is read
      pub value_passed : ((e : FsaError) → HasRefusedElement given place value e → ⊥) → IsFreeBefore given (order_of place) → IsFreeBefore given (suc (order_of place))
      value_passed all free = field_passed none free
        where
          none : (step : FieldStep) (e : FsaError) → FindsInField given place owner step e → ⊥
          none field_presence e found = read_as_whole field_presence e (omega arith) found
          none field_kind e found = read_as_whole field_kind e (omega arith) found
          none field_value e found = read_as_whole field_value e (omega arith) found
          none field_elements e found =
              let P : Value → Type 0 = λ v. HasRefusedElement given place v e in all e (subst P (some_value (sym found.1 ∙ is)) found.2)
