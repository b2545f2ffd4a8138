-- Two words are in one right coset exactly where the least words of their cosets are equal.
use Rattle.std.proofs.Common.{◌≡◌, ◌↔◌, ℕ, List, subst, inl, inr}
use Rattle.kb_word.specs.Words.{Pair}
use Rattle.kb_word.specs.Order.{IsReductionOrder}
use Rattle.kb_word.proofs.PathLemmas.{path_append, path_reversed}
use Rattle.kb_coset.specs.Cosets.{CosetStep, by_relation, comes, goes, SameCoset, IsLeastInCoset}

-- steps within a coset go both ways
step_back : (given : List Pair) (generators : List (List ℕ)) (u v : List ℕ) → CosetStep given generators u v
    → CosetStep given generators v u
step_back given generators u v (by_relation (inl r)) = by_relation (inr r)
step_back given generators u v (by_relation (inr r)) = by_relation (inl r)
step_back given generators u v (comes h is_generator is) = goes h is_generator is
step_back given generators u v (goes h is_generator is) = comes h is_generator is

coset_back : (given : List Pair) (generators : List (List ℕ)) (u v : List ℕ) → SameCoset given generators u v
    → SameCoset given generators v u
coset_back given generators u v same = path_reversed (step_back given generators) same

pub told_by_least : {below : List ℕ → List ℕ → Type 0} → IsReductionOrder below
    → (given : List Pair) (generators : List (List ℕ)) (u v m k : List ℕ)
    → IsLeastInCoset below given generators u m → IsLeastInCoset below given generators v k
    → SameCoset given generators u v ↔ (m ≡ k)
told_by_least {below = below} laws given generators u v m k first second = (equal_least, same_coset)
  where
    equal_least : SameCoset given generators u v → m ≡ k
    equal_least same = elim (laws.total m k) [
      | inl equal ↦ equal
      | inr (inl lower) ↦
          absurd (second.least m (path_append (coset_back given generators u v same) first.same_coset) lower)
      | inr (inr lower) ↦ absurd (first.least k (path_append same second.same_coset) lower)
    ]

    same_coset : m ≡ k → SameCoset given generators u v
    same_coset equal =
        let P : List ℕ → Type 0 = λ w. SameCoset given generators u w in
        path_append (subst P equal first.same_coset) (coset_back given generators v k second.same_coset)
