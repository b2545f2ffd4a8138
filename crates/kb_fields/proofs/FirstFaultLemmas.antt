-- First faults: there is one at most.
use Rattle.std.proofs.Common.{◌≡◌, ℕ, ◌<◌, ◌⊎◌, inl, inr, subst}
use Rattle.std.proofs.lemmas.Bool.{cases_order}
use Rattle.kb_fields.specs.FirstFaults.{IsFirstFault}

-- Where of two checks one comes before the other, and each finds one fault at most, one fault is the first.
module _ {Check Error : Type 0} (Before : Check → Check → Type 0) (Finds : Check → Error → Type 0)
    (ordered : (c d : Check) → (c ≡ d) ⊎ (Before c d ⊎ Before d c))
    (one : (c : Check) (e f : Error) → Finds c e → Finds c f → e ≡ f) where
  pub one_first_fault : (e f : Error) → IsFirstFault Before Finds e → IsFirstFault Before Finds f → e ≡ f
  one_first_fault e f a b = elim (ordered a.check b.check) [
    | inl same ↦ let P : Check → Type 0 = λ c. Finds c e in one b.check e f (subst P same a.found) b.found
    | inr other ↦ elim other [
      | inl before ↦ absurd (b.first a.check e before a.found)
      | inr behind ↦ absurd (a.first b.check f behind b.found)
    ]
  ]

-- the same of places
pub one_first_place : {Error : Type 0} (Finds : ℕ → Error → Type 0) → ((k : ℕ) (e f : Error) → Finds k e → Finds k f → e ≡ f)
    → (e f : Error) → IsFirstFault ◌<◌ Finds e → IsFirstFault ◌<◌ Finds f → e ≡ f
one_first_place Finds one e f a b = one_first_fault ◌<◌ Finds (λ c d. cases_order c d) one e f a b
