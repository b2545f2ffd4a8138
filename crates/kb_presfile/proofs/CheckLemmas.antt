-- The order of the checks, and the first fault by steps.
use Rattle.std.proofs.Common.{◌≡◌, ℕ, suc, ◌<◌, ◌⊎◌, inl, inr, List, [], ◌∷◌, slice_get, Some, refl, sym, ap, subst, ◌∙◌, arith}
use Rattle.std.proofs.lemmas.Bool.{cases_order, cases_lt}
use Rattle.std.proofs.lemmas.Option.{same_Some}
use Rattle.kb_record.specs.Tree.{Fields}
use Rattle.kb_fields.specs.FirstFaults.{IsFirstFault}
use Rattle.kb_presfile.specs.Checks.{Step, field_names, is_there, is_of_kind, known_ordering, few_names, free_names, right_weights, known_inverses, mutual_inverses, few_equations, read_equations, rank, Check, Before}
use Rattle.kb_presfile.specs.Faults.{StepFinds, Finds, IsMemoryOr, IsFirstOf, IsFreeBefore}
use Rattle.kb_presfile.specs.declared.error.Field.TheVariants as kinds
use Rattle.kb_presfile.specs.declared.error.PresError.{PresError}
use Rattle.kb_presfile.specs.declared.error.PresError.TheVariants as errors

-- the steps in their order
abbrev steps : List Step
steps =
    field_names ∷ is_there kinds.IsRws ∷ is_of_kind kinds.IsRws ∷ is_there kinds.Ordering ∷ is_of_kind kinds.Ordering ∷ known_ordering
    ∷ is_there kinds.GeneratorOrder ∷ is_of_kind kinds.GeneratorOrder ∷ few_names ∷ free_names ∷ is_there kinds.Weight ∷ is_of_kind kinds.Weight ∷ right_weights
    ∷ is_there kinds.Inverses ∷ is_of_kind kinds.Inverses ∷ known_inverses ∷ mutual_inverses ∷ is_there kinds.Equations ∷ is_of_kind kinds.Equations ∷ few_equations
    ∷ read_equations ∷ []

at_rank : (s : Step) → slice_get steps (rank s) ≡ Some s
at_rank field_names = refl
at_rank (is_there kinds.IsRws) = refl
at_rank (is_of_kind kinds.IsRws) = refl
at_rank (is_there kinds.Ordering) = refl
at_rank (is_of_kind kinds.Ordering) = refl
at_rank known_ordering = refl
at_rank (is_there kinds.GeneratorOrder) = refl
at_rank (is_of_kind kinds.GeneratorOrder) = refl
at_rank few_names = refl
at_rank free_names = refl
at_rank (is_there kinds.Weight) = refl
at_rank (is_of_kind kinds.Weight) = refl
at_rank right_weights = refl
at_rank (is_there kinds.Inverses) = refl
at_rank (is_of_kind kinds.Inverses) = refl
at_rank known_inverses = refl
at_rank mutual_inverses = refl
at_rank (is_there kinds.Equations) = refl
at_rank (is_of_kind kinds.Equations) = refl
at_rank few_equations = refl
at_rank read_equations = refl

-- steps of one rank are one
pub same_step : (s t : Step) → rank s ≡ rank t → s ≡ t
same_step s t same = same_Some s t (sym (at_rank s) ∙ (ap (slice_get steps) same ∙ at_rank t))

-- of two checks one comes before the other
pub in_order : (c d : Check) → (c ≡ d) ⊎ (Before c d ⊎ Before d c)
in_order c d = elim (cases_order (rank c.step) (rank d.step)) [
  | inl same ↦ at_step (same_step c.step d.step same)
  | inr other ↦ elim other [
    | inl before ↦ inr (inl (inl before))
    | inr behind ↦ inr (inr (inl behind))
  ]
]
  where
    at_step : c.step ≡ d.step → (c ≡ d) ⊎ (Before c d ⊎ Before d c)
    at_step step = elim (cases_order c.place d.place) [
      | inl place ↦ inl (λ i. record { step = step i; place = place i })
      | inr other ↦ elim other [
        | inl before ↦ inr (inl (inr (step, before)))
        | inr behind ↦ inr (inr (inr (sym step, behind)))
      ]
    ]

module _ (given : Fields) (step : Step) (free : IsFreeBefore given step) where
  -- what a step finds at a place is the first fault, where earlier steps find nothing, nor this one at earlier places
  pub first_at : (place : ℕ) (error : PresError) → StepFinds given step place error
      → ((k : ℕ) (other : PresError) → k < place → StepFinds given step k other → ⊥) → IsFirstOf given error
  first_at place error found none = record {
    check = record { step = step; place = place };
    found = found;
    first = λ earlier other before. sooner earlier other before;
  }
    where
      sooner : (earlier : Check) (other : PresError) → Before earlier (record { step = step; place = place }) → Finds given earlier other → ⊥
      sooner earlier other (inl before) has = free.none earlier other before has
      sooner earlier other (inr same) has =
          let P : Step → Type 0 = λ s. StepFinds given s earlier.place other in
          none earlier.place other same.1 (subst P same.0 has)

  -- what a step finds that looks at the same at each place
  pub first_found : (error : PresError) → StepFinds given step 0 error → IsFirstOf given error
  first_found error found = first_at 0 error found (λ k other before. absurd (omega (arith, before)))

  -- the first of what is found at places
  pub first_of_places : (Has : ℕ → PresError → Type 0) → ((k : ℕ) (e : PresError) → Has k e → StepFinds given step k e)
      → ((k : ℕ) (e : PresError) → StepFinds given step k e → Has k e) → (error : PresError) → IsFirstFault ◌<◌ Has error → IsFirstOf given error
  first_of_places Has finds has error fault =
      first_at fault.check error (finds fault.check error fault.found) (λ k other before found. fault.first k other before (has k other found))

  -- a step that finds nothing
  pub passed : ((k : ℕ) (e : PresError) → StepFinds given step k e → ⊥) → (next : Step) → rank next ≡ suc (rank step) → IsFreeBefore given next
  passed none next follows = record { none = λ earlier error before. sooner earlier error before }
    where
      here : (earlier : Check) (error : PresError) → rank earlier.step ≡ rank step → Finds given earlier error → ⊥
      here earlier error same has =
          let P : Step → Type 0 = λ s. StepFinds given s earlier.place error in
          none earlier.place error (subst P (same_step earlier.step step same) has)

      sooner : (earlier : Check) (error : PresError) → rank earlier.step < rank next → Finds given earlier error → ⊥
      sooner earlier error before has = elim (cases_lt (rank earlier.step) (rank step)) [
        | inl less ↦ free.none earlier error less has
        | inr at ↦ here earlier error (omega (arith, at, before, follows)) has
      ]

-- nothing comes before the first step
pub at_start : (given : Fields) → IsFreeBefore given field_names
at_start given = record { none = λ earlier error before. absurd (omega (arith, before)) }

-- what is found, or want of memory
pub found_or_memory : (Has : PresError → Type 0) (error : PresError) → Has error → IsMemoryOr Has error
found_or_memory Has errors.Memory has = tt
found_or_memory Has error has = has

pub memory_or_weaker : (Has Shows : PresError → Type 0) → ((e : PresError) → Has e → Shows e) → (error : PresError) → IsMemoryOr Has error → IsMemoryOr Shows error
memory_or_weaker Has Shows shows errors.Memory has = tt
memory_or_weaker Has Shows shows error has = shows error has

-- the same by an equation
pub memory_is_free : (Has : PresError → Type 0) (error : PresError) → error ≡ errors.Memory → IsMemoryOr Has error
memory_is_free Has error is = let P : PresError → Type 0 = λ e. IsMemoryOr Has e in subst P (sym is) tt
