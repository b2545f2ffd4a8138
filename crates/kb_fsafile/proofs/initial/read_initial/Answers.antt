use Rattle.std.proofs.Common.{◌≡◌, ◌<◌, ◌≤◌, ℤ, List, [], ◌∷◌, length, slice_get, Some, None, refl, sym, ap, ◌∙◌, w64, SFits, rules, arith}
use Rattle.std.proofs.lemmas.Int.{to_z-of_z}
use Rattle.std.proofs.lemmas.Option.{slice_get_within, get_or_from_slice_get}
use Rattle.std.specs.Prelude.{codes}
use Rattle.kb_record.specs.Tree.{list_value}
use Rattle.kb_fsafile.specs.Kinds.{list_of_numbers}
use Rattle.kb_fsafile.specs.Holds.{HoldsInitial}
use Rattle.std.proofs.lemmas.Result.{err_from_is_err_and}
use Rattle.kb_fields.specs.Fields.{fields_view}
use Rattle.kb_record.specs.View.{value_view}
use Rattle.kb_fields.proofs.NumberLemmas.{one_list_of_numbers}
use Rattle.kb_fsafile.specs.Checks.{initial_field}
use Rattle.kb_fsafile.specs.declared.error.Field.TheVariants as kinds
use Rattle.kb_fsafile.specs.declared.error.FsaError.TheVariants as errors
use Rattle.kb_fsafile.proofs.FieldFaults.{value_seen}
use Rattle.kb_fsafile.proofs.FirstLemmas.{refused, value_refused, element_refused}
use Rattle.kb_fsafile.proofs.initial.read_initial.Goals as goal

no_first : (numbers : List ℤ) → slice_get numbers 0 ≡ None → numbers ≡ []
no_first [] e = refl
no_first (z ∷ numbers) e = cc

one_first : (numbers : List ℤ) (z : ℤ) → length numbers ≤ 1 → slice_get numbers 0 ≡ Some z → numbers ≡ z ∷ []
one_first [] z few e = cc
one_first (y ∷ []) z few e = cc
one_first (y ∷ (x ∷ numbers)) z few e = absurd (omega (arith, few))

not_many : (numbers others : List ℤ) → length numbers ≤ 1 → numbers ≡ others → 1 < length others → ⊥
not_many numbers others few same many = let lengths = ap length same in omega (arith, few, many, lengths)

pub returns-in_err-value-clause-fault : goal.returns-in_err-value-clause-fault
returns-in_err-value-clause-fault c =
    let p = err_from_is_err_and c.from_residual.result c.from_residual.ensures.1 in
    rw (p.1, p.2) (refused (fields_view c.args.fields.now) initial_field (fields_view c.args.fields.now) refl _ c.in_err-value.ensures.fault)

pub returns-in_default-clause-fault : goal.returns-in_default-clause-fault
returns-in_default-clause-fault c =
    let given = fields_view c.args.fields.now in
    let other = rw c.in_default.is at c.in_ok-numbers.ensures.other in
    let is = value_seen given (codes "initial") _ (value_view c.value.result.now) c.in_ok-value.ensures.found c.value.ensures in
    refused given initial_field given refl (errors.WrongKind kinds.Initial) (refl, value_view c.value.result.now, is, λ kind. other kind.0 kind.1)

pub returns-then-len-gt1-clause-fault : goal.returns-then-len-gt1-clause-fault
returns-then-len-gt1-clause-fault c =
    let given = fields_view c.args.fields.now in
    let numbers = c.in-Some.numbers.items in
    let listed = value_seen (fields_view c.args.fields.now) (codes "initial") _ (value_view c.value.result.now) c.in_ok-value.ensures.found c.value.ensures
    ∙ ap Some (rw c.in-Some.is at c.in_ok-numbers.ensures.listed) in
    value_refused given initial_field given refl (list_value (list_of_numbers numbers)) listed (numbers, refl) errors.NotDeterministic
    (refl, numbers, refl, omega (arith, c.in-Some.numbers.ok))

pub returns-in_default-first-clause-read : goal.returns-in_default-first-clause-read
returns-in_default-first-clause-read c =
    let listed = value_seen (fields_view c.args.fields.now) (codes "initial") _ (value_view c.value.result.now) c.in_ok-value.ensures.found c.value.ensures
    ∙ ap Some (rw c.in-Some.is at c.in_ok-numbers.ensures.listed) in
    let first = ap (λ (ns : List ℤ). slice_get ns 0) (sym c.deref.ensures.value) ∙ sym c.in_default-first.ensures.value in
    HoldsInitial.none (listed ∙ ap (λ (ns : List ℤ). Some (list_value (list_of_numbers ns))) (no_first c.in-Some.numbers.items first))

pub returns-in-Some-number_within-clause-read : goal.returns-in-Some-number_within-clause-read
returns-in-Some-number_within-clause-read c =
    let f : SFits w64 c.in-Some-first.number.now = search rules in
    let is = simp to_z-of_z at c.in-Some-number_within.ensures.is in
    let listed = value_seen (fields_view c.args.fields.now) (codes "initial") _ (value_view c.value.result.now) c.in_ok-value.ensures.found c.value.ensures
    ∙ ap Some (rw c.in-Some.is at c.in_ok-numbers.ensures.listed) in
    let first = ap (λ (ns : List ℤ). slice_get ns 0) (sym c.deref.ensures.value) ∙ sym c.in-Some-first.ensures.value in
    let one = one_first c.in-Some.numbers.items c.in-Some-first.number.now (omega (arith, c.in-Some.numbers.ok)) first in
    HoldsInitial.one (listed ∙ ap (λ (ns : List ℤ). Some (list_value (list_of_numbers ns))) (one ∙ ap (λ (z : ℤ). z ∷ []) is))
    c.in-Some-number_within.ensures.positive c.in-Some-number_within.ensures.within

pub returns-clause-fault : goal.returns-clause-fault
returns-clause-fault c =
    let f : SFits w64 c.in-Some-first.number.now = search rules in
    let none = simp to_z-of_z at c.in-None.ensures.none in
    let listed = value_seen (fields_view c.args.fields.now) (codes "initial") _ (value_view c.value.result.now) c.in_ok-value.ensures.found c.value.ensures
    ∙ ap Some (rw c.in-Some.is at c.in_ok-numbers.ensures.listed) in
    let first = ap (λ (ns : List ℤ). slice_get ns 0) (sym c.deref.ensures.value) ∙ sym c.in-Some-first.ensures.value in
    let numbers = c.in-Some.numbers.items in
    let z = c.in-Some-first.number.now in
    let given = fields_view c.args.fields.now in
    let few : length c.in-Some.numbers.items ≤ 1 = omega (arith, c.in-Some.numbers.ok) in
    element_refused given initial_field given refl (list_value (list_of_numbers numbers)) listed (numbers, refl)
    (λ e refusal. not_many c.in-Some.numbers.items refusal.1 few (one_list_of_numbers _ _ refusal.2) refusal.3) errors.TargetOutOfRange
    (refl, c.args.count, numbers, z, c.requires, refl, (0, slice_get_within numbers 0 z first, get_or_from_slice_get numbers 0 z z first), none)
