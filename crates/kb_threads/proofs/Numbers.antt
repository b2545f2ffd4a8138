-- The numbers of workers.
use Rattle.std.proofs.Common.{◌≡◌, ℕ, ◌+◌, List, [], ◌∷◌, ◌++◌, length, sym, ◌∙◌, ap, inl, inr}
use Rattle.kb_machine.proofs.Numbers.{slice_get_push_cases}
use Rattle.kb_threads.specs.Shared.{AreNumbered, PassParts}

-- the next worker has the next number
pub numbered_more : (passes : List PassParts) (last : PassParts) → AreNumbered passes → last.worker ≡ length passes + 1
    → AreNumbered (passes ++ last ∷ [])
numbered_more passes last numbered own place pass is =
    elim (slice_get_push_cases passes last place pass is) [
      | inl earlier ↦ numbered place pass earlier
      | inr here ↦ ap (λ (one : PassParts). one.worker) (sym here.1) ∙ own ∙ ap (λ (n : ℕ). n + 1) (sym here.0)
    ]
