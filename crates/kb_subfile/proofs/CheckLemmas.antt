-- The order of the checks, and the first fault by steps.
use Rattle.std.proofs.Common.{◌≡◌, ℕ, suc, ◌<◌, ◌⊎◌, inl, inr, List, [], ◌∷◌, slice_get, Some, refl, sym, ap, subst, ◌∙◌, arith}
use Rattle.std.proofs.lemmas.Bool.{cases_order, cases_lt}
use Rattle.std.proofs.lemmas.Option.{same_Some}
use Rattle.kb_word.specs.Presentations.{PresentationParts}
use Rattle.kb_record.specs.Tree.{Fields}
use Rattle.kb_subfile.specs.Checks.{Step, field_names, is_there, are_words, few_words, read_words, rank, Check, Before}
use Rattle.kb_subfile.specs.Faults.{StepFinds, Finds, IsMemoryOr, IsFirstOf, IsFreeBefore}
use Rattle.kb_subfile.specs.declared.error.SubError.{SubError}
use Rattle.kb_subfile.specs.declared.error.SubError.TheVariants as errors

-- the steps in their order
abbrev steps : List Step
steps = field_names ∷ is_there ∷ are_words ∷ few_words ∷ read_words ∷ []

at_rank : (s : Step) → slice_get steps (rank s) ≡ Some s
at_rank field_names = refl
at_rank is_there = refl
at_rank are_words = refl
at_rank few_words = refl
at_rank read_words = refl

-- steps of one rank are one
same_step : (s t : Step) → rank s ≡ rank t → s ≡ t
same_step s t same = same_Some s t (sym (at_rank s) ∙ (ap (slice_get steps) same ∙ at_rank t))

-- of two checks one comes before the other
pub in_order : (c d : Check) → (c ≡ d) ⊎ (Before c d ⊎ Before d c)
in_order c d = elim (cases_order (rank c.step) (rank d.step)) [
  | inl same ↦ at_step (same_step c.step d.step same)
  | inr other ↦ elim other [
    | inl before ↦ inr (inl (inl before))
    | inr behind ↦ inr (inr (inl behind))
  ]
]
  where
    at_step : c.step ≡ d.step → (c ≡ d) ⊎ (Before c d ⊎ Before d c)
    at_step step = elim (cases_order c.place d.place) [
      | inl place ↦ inl (λ i. record { step = step i; place = place i })
      | inr other ↦ elim other [
        | inl before ↦ inr (inl (inr (step, before)))
        | inr behind ↦ inr (inr (inr (sym step, behind)))
      ]
    ]

module _ (parts : PresentationParts) (given : Fields) (step : Step) (free : IsFreeBefore parts given step) where
  -- what a step finds at a place is the first fault, where earlier steps find nothing, nor this one at earlier places
  pub first_at : (place : ℕ) (error : SubError) → StepFinds parts given step place error
      → ((k : ℕ) (other : SubError) → k < place → StepFinds parts given step k other → ⊥) → IsFirstOf parts given error
  first_at place error found none = record {
    check = record { step = step; place = place };
    found = found;
    first = λ earlier other before. sooner earlier other before;
  }
    where
      sooner : (earlier : Check) (other : SubError) → Before earlier (record { step = step; place = place }) → Finds parts given earlier other → ⊥
      sooner earlier other (inl before) has = free.none earlier other before has
      sooner earlier other (inr same) has =
          let P : Step → Type 0 = λ s. StepFinds parts given s earlier.place other in
          none earlier.place other same.1 (subst P same.0 has)

  -- what a step finds that looks at the same at each place
  pub first_found : (error : SubError) → StepFinds parts given step 0 error → IsFirstOf parts given error
  first_found error found = first_at 0 error found (λ k other before. absurd (omega (arith, before)))

  -- a step that finds nothing
  pub passed : ((k : ℕ) (e : SubError) → StepFinds parts given step k e → ⊥) → (next : Step) → rank next ≡ suc (rank step) → IsFreeBefore parts given next
  passed none next follows = record { none = λ earlier error before. sooner earlier error before }
    where
      here : (earlier : Check) (error : SubError) → rank earlier.step ≡ rank step → Finds parts given earlier error → ⊥
      here earlier error same has =
          let P : Step → Type 0 = λ s. StepFinds parts given s earlier.place error in
          none earlier.place error (subst P (same_step earlier.step step same) has)

      sooner : (earlier : Check) (error : SubError) → rank earlier.step < rank next → Finds parts given earlier error → ⊥
      sooner earlier error before has = elim (cases_lt (rank earlier.step) (rank step)) [
        | inl less ↦ free.none earlier error less has
        | inr at ↦ here earlier error (omega (arith, at, before, follows)) has
      ]

-- nothing comes before the first step
pub at_start : (parts : PresentationParts) (given : Fields) → IsFreeBefore parts given field_names
at_start parts given = record { none = λ earlier error before. absurd (omega (arith, before)) }

-- what is found, or want of memory
pub found_or_memory : (Has : SubError → Type 0) (error : SubError) → Has error → IsMemoryOr Has error
found_or_memory Has errors.Memory has = tt
found_or_memory Has error has = has

pub memory_or_weaker : (Has Shows : SubError → Type 0) → ((e : SubError) → Has e → Shows e) → (error : SubError) → IsMemoryOr Has error → IsMemoryOr Shows error
memory_or_weaker Has Shows shows errors.Memory has = tt
memory_or_weaker Has Shows shows error has = shows error has

-- the same by an equation
pub memory_is_free : (Has : SubError → Type 0) (error : SubError) → error ≡ errors.Memory → IsMemoryOr Has error
memory_is_free Has error is = let P : SubError → Type 0 = λ e. IsMemoryOr Has e in subst P (sym is) tt
