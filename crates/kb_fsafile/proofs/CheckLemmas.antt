-- The order of the checks.
use Rattle.std.proofs.Common.{◌≡◌, ℕ, ◌<◌, ◌⊎◌, inl, inr, List, [], ◌∷◌, slice_get, Some, refl, sym, ap, ◌∙◌, arith}
use Rattle.std.proofs.lemmas.Bool.{cases_order}
use Rattle.std.proofs.lemmas.Option.{same_Some, slice_get_within}
use Rattle.kb_fsafile.specs.Checks.{FieldPlace, is_fsa_field, alphabet_field, alphabet_type_field, arity_field, base_field, base_type_field, names_field, names_size_field, pairs_size_field, names_format_field, states_field, states_type_field, states_size_field, initial_field, accepting_field, table_field, default_field, table_format_field, transitions_field}
use Rattle.kb_fsafile.specs.Checks.{FieldStep, field_presence, field_kind, field_value, field_elements, RowStep, row_kind, row_length, entry_range, entry_symbol, Check, no_field_twice, of_field, of_row, padded_texts}
use Rattle.kb_fsafile.specs.Checks.{order_of, stage_of, number_of_step, number_in_row, Before}

-- ---- fields

-- the fields in their order, behind one that stands for the whole text
abbrev fields_in_order : List FieldPlace
fields_in_order =
    is_fsa_field ∷ is_fsa_field ∷ alphabet_field ∷ alphabet_type_field ∷ arity_field ∷ base_field ∷ base_type_field ∷ names_field ∷ names_size_field ∷ pairs_size_field
    ∷ names_format_field ∷ states_field ∷ states_type_field ∷ states_size_field ∷ initial_field ∷ accepting_field ∷ table_field ∷ default_field ∷ table_format_field
    ∷ transitions_field ∷ []

at_order : (p : FieldPlace) → slice_get fields_in_order (order_of p) ≡ Some p
at_order is_fsa_field = refl
at_order alphabet_field = refl
at_order alphabet_type_field = refl
at_order arity_field = refl
at_order base_field = refl
at_order base_type_field = refl
at_order names_field = refl
at_order names_size_field = refl
at_order pairs_size_field = refl
at_order names_format_field = refl
at_order states_field = refl
at_order states_type_field = refl
at_order states_size_field = refl
at_order initial_field = refl
at_order accepting_field = refl
at_order table_field = refl
at_order default_field = refl
at_order table_format_field = refl
at_order transitions_field = refl

pub same_field : (p q : FieldPlace) → order_of p ≡ order_of q → p ≡ q
same_field p q same = same_Some p q (sym (at_order p) ∙ (ap (slice_get fields_in_order) same ∙ at_order q))

pub order_small : (p : FieldPlace) → order_of p < 20
order_small p = slice_get_within fields_in_order (order_of p) p (at_order p)

pub order_positive : (p : FieldPlace) → 0 < order_of p
order_positive is_fsa_field = omega arith
order_positive _ = omega arith

-- ---- steps

abbrev steps : List FieldStep
steps = field_presence ∷ field_kind ∷ field_value ∷ field_elements ∷ []

at_step : (s : FieldStep) → slice_get steps (number_of_step s) ≡ Some s
at_step field_presence = refl
at_step field_kind = refl
at_step field_value = refl
at_step field_elements = refl

same_step : (s t : FieldStep) → number_of_step s ≡ number_of_step t → s ≡ t
same_step s t same = same_Some s t (sym (at_step s) ∙ (ap (slice_get steps) same ∙ at_step t))

pub same_row_step : (s t : RowStep) → number_in_row s ≡ number_in_row t → s ≡ t
same_row_step row_kind row_kind e = refl
same_row_step row_kind row_length e = absurd (omega (arith, e))
same_row_step row_kind (entry_range j) e = absurd (omega (arith, e))
same_row_step row_kind (entry_symbol j) e = absurd (omega (arith, e))
same_row_step row_length row_kind e = absurd (omega (arith, e))
same_row_step row_length row_length e = refl
same_row_step row_length (entry_range j) e = absurd (omega (arith, e))
same_row_step row_length (entry_symbol j) e = absurd (omega (arith, e))
same_row_step (entry_range i) row_kind e = absurd (omega (arith, e))
same_row_step (entry_range i) row_length e = absurd (omega (arith, e))
same_row_step (entry_range i) (entry_range j) e = let same : i ≡ j = omega (arith, e) in ap entry_range same
same_row_step (entry_range i) (entry_symbol j) e = absurd (omega (arith, e))
same_row_step (entry_symbol i) row_kind e = absurd (omega (arith, e))
same_row_step (entry_symbol i) row_length e = absurd (omega (arith, e))
same_row_step (entry_symbol i) (entry_range j) e = absurd (omega (arith, e))
same_row_step (entry_symbol i) (entry_symbol j) e = let same : i ≡ j = omega (arith, e) in ap entry_symbol same

-- ---- all checks

abbrev IsOrdered : Check → Check → Type 0
IsOrdered c d = (c ≡ d) ⊎ (Before c d ⊎ Before d c)

-- of two checks of one field, and of two of rows, one comes before the other
field_ordered : (p q : FieldPlace) (s t : FieldStep) → order_of p ≡ order_of q → IsOrdered (of_field p s) (of_field q t)
field_ordered p q s t e = elim (cases_order (number_of_step s) (number_of_step t)) [
  | inl same ↦ let place = same_field p q e in let step = same_step s t same in inl (λ i. of_field (place i) (step i))
  | inr other ↦ elim other [
    | inl before ↦ inr (inl (inr (e, before)))
    | inr behind ↦ inr (inr (inr (sym e, behind)))
  ]
]

row_ordered : (k l : ℕ) (s t : RowStep) → IsOrdered (of_row k s) (of_row l t)
row_ordered k l s t = elim (cases_order k l) [
  | inl place ↦ elim (cases_order (number_in_row s) (number_in_row t)) [
    | inl same ↦ let step = same_row_step s t same in inl (λ i. of_row (place i) (step i))
    | inr other ↦ elim other [
      | inl before ↦ inr (inl (inr (refl, inr (place, before))))
      | inr behind ↦ inr (inr (inr (refl, inr (sym place, behind))))
    ]
  ]
  | inr other ↦ elim other [
    | inl before ↦ inr (inl (inr (refl, inl before)))
    | inr behind ↦ inr (inr (inr (refl, inl behind)))
  ]
]

one_stage : (c d : Check) → stage_of c ≡ stage_of d → IsOrdered c d
one_stage no_field_twice no_field_twice e = inl refl
one_stage no_field_twice (of_field q t) e = let some = order_positive q in absurd (omega (arith, e, some))
one_stage no_field_twice (of_row l t) e = absurd (omega (arith, e))
one_stage no_field_twice padded_texts e = absurd (omega (arith, e))
one_stage (of_field p s) no_field_twice e = let some = order_positive p in absurd (omega (arith, e, some))
one_stage (of_field p s) (of_field q t) e = field_ordered p q s t e
one_stage (of_field p s) (of_row l t) e = let small = order_small p in absurd (omega (arith, e, small))
one_stage (of_field p s) padded_texts e = let small = order_small p in absurd (omega (arith, e, small))
one_stage (of_row k s) no_field_twice e = absurd (omega (arith, e))
one_stage (of_row k s) (of_field q t) e = let small = order_small q in absurd (omega (arith, e, small))
one_stage (of_row k s) (of_row l t) e = row_ordered k l s t
one_stage (of_row k s) padded_texts e = absurd (omega (arith, e))
one_stage padded_texts no_field_twice e = absurd (omega (arith, e))
one_stage padded_texts (of_field q t) e = let small = order_small q in absurd (omega (arith, e, small))
one_stage padded_texts (of_row l t) e = absurd (omega (arith, e))
one_stage padded_texts padded_texts e = inl refl

-- of two checks one comes before the other
pub in_order : (c d : Check) → (c ≡ d) ⊎ (Before c d ⊎ Before d c)
in_order c d = elim (cases_order (stage_of c) (stage_of d)) [
  | inl same ↦ one_stage c d same
  | inr other ↦ elim other [
    | inl before ↦ inr (inl (inl before))
    | inr behind ↦ inr (inr (inl behind))
  ]
]
