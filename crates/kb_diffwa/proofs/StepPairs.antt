-- The letters beside a letter by which the difference machine leads to a kept difference, as they are gathered.
use Rattle.std.proofs.Common.{◌≡◌, ◌↔◌, ℕ, zero, suc, ◌+◌, ◌-◌, ◌<◌, ◌≤◌, List, [], ◌∷◌, ◌++◌, length, get_or, slice_get, Option, None, sym, ap, ◌∙◌, subst, inl, inr, arith, length-append}
use Rattle.std.specs.List.{All, Contains}
use Rattle.std.proofs.lemmas.Bool.{cases_lt}
use Rattle.std.proofs.lemmas.List.{get_or_append_left, get_or_default, get_or_push}
use Rattle.std.proofs.lemmas.List.Elements.{Contains-append_left, Contains-push, Contains-push_cases}
use Rattle.std.specs.Option.{unwrap_or}
use Rattle.std.proofs.lemmas.Option.{unwrap_or-slice_get}
use Rattle.kb_diffwa.proofs.Members.{All-from_contains, Contains-none}
use Rattle.kb_diffwa.specs.RivalMoves.{StepsWithin}
use Rattle.kb_diffwa.specs.RivalSets.{AreAllSteps, ArePairs, AreStepsBy, AreWithin, IsPair, Steps, pairs_from}

-- those up to a bound
abbrev pub ArePairsUpTo : ℕ → (ℕ → ℕ → ℕ → ℕ) → ℕ → ℕ → ℕ → List (ℕ × ℕ) → Type 0
ArePairsUpTo n step difference a bound pairs =
    (b target : ℕ) → Contains pairs (b, target) ↔ (IsPair n step difference a b target × (b ≤ bound))

module _ (n : ℕ) (step : ℕ → ℕ → ℕ → ℕ) (difference a : ℕ) where
  pub no_pairs : ArePairsUpTo n step difference a 0 []
  no_pairs b target = (
    λ at. absurd (Contains-none (b, target) at),
    λ pair.
        let positive = pair.0.positive in
        let none = pair.1 in
        absurd (let no : ⊥ = omega arith in no),
  )

  pub one_pair : (bound target : ℕ) (pairs : List (ℕ × ℕ)) → bound < n + 1 → step difference a (bound + 1) ≡ target
      → 0 < target → ArePairsUpTo n step difference a bound pairs
      → ArePairsUpTo n step difference a (bound + 1) (pairs ++ (bound + 1, target) ∷ [])
  one_pair bound target pairs within leads kept are b other = (forth, back)
    where
      forth : Contains (pairs ++ (bound + 1, target) ∷ []) (b, other)
          → IsPair n step difference a b other × (b ≤ bound + 1)
      forth at =
          elim (Contains-push_cases pairs (bound + 1, target) (b, other) at) [
            | inl earlier ↦ let pair = (are b other).0 earlier in let most = pair.1 in (pair.0, omega arith)
            | inr same ↦
                let letter = ap (λ (m : ℕ × ℕ). m.0) same in
                let to = ap (λ (m : ℕ × ℕ). m.1) same in
                let P : ℕ → Type 0 = λ z. step difference a z ≡ target in (
                  record {
                    positive = omega arith;
                    letter = omega arith;
                    leads = subst P letter leads ∙ to;
                    kept = omega arith;
                  },
                  omega arith,
                )
          ]

      back : IsPair n step difference a b other × (b ≤ bound + 1) → Contains (pairs ++ (bound + 1, target) ∷ []) (b, other)
      back pair =
          let most = pair.1 in
          elim (cases_lt bound b) [
            | inr below ↦ Contains-append_left pairs ((bound + 1, target) ∷ []) (b, other) ((are b other).1 (pair.0, below))
            | inl above ↦
                let is : b ≡ bound + 1 = omega arith in
                let P : ℕ → Type 0 = λ z. step difference a z ≡ other in
                let to : target ≡ other = sym leads ∙ subst P is pair.0.leads in
                let R : ℕ × ℕ → Type 0 = λ m. Contains (pairs ++ (bound + 1, target) ∷ []) m in
                let same : (bound + 1, target) ≡ (b, other) =
                ap (λ (z : ℕ). (z, target)) (sym is) ∙ ap (λ (z : ℕ). (b, z)) to in
                subst R same (Contains-push pairs (bound + 1, target))
          ]

  pub no_pair : (bound : ℕ) (pairs : List (ℕ × ℕ)) → step difference a (bound + 1) ≡ 0
      → ArePairsUpTo n step difference a bound pairs → ArePairsUpTo n step difference a (bound + 1) pairs
  no_pair bound pairs none are b other = (
    λ at. let pair = (are b other).0 at in let most = pair.1 in (pair.0, omega arith),
    λ pair.
        let most = pair.1 in
        elim (cases_lt bound b) [
          | inr below ↦ (are b other).1 (pair.0, below)
          | inl above ↦
              let is : b ≡ bound + 1 = omega arith in
              let P : ℕ → Type 0 = λ z. step difference a z ≡ other in
              let to = subst P is pair.0.leads in
              let kept = pair.0.kept in
              absurd (let no : ⊥ = omega arith in no)
        ],
  )

  pub all_pairs : (pairs : List (ℕ × ℕ)) → ArePairsUpTo n step difference a (n + 1) pairs
      → ArePairs n step difference a pairs
  all_pairs pairs are b target =
      (λ at. ((are b target).0 at).0, λ pair. (are b target).1 (pair, pair.letter))

-- ---- the steps by one letter, from the first differences, and the steps by the first letters

pub more_steps : (n : ℕ) (step : ℕ → ℕ → ℕ → ℕ) (count a : ℕ) (steps : Steps) (pairs : List (ℕ × ℕ))
    → AreStepsBy n step count a steps → ArePairs n step (count + 1) a pairs
    → AreStepsBy n step (count + 1) a (steps ++ pairs ∷ [])
more_steps n step count a steps pairs are more =
    let long = are.one_each in record {
      one_each = omega (arith, length-append steps (pairs ∷ []));
      each = λ index within. elim (cases_lt index count) [
        | inl before ↦
            let P : List (ℕ × ℕ) → Type 0 = ArePairs n step (suc index) a in
            subst P (sym (get_or_append_left steps (pairs ∷ []) [] index (omega arith))) (are.each index before)
        | inr last ↦
            let P : List (ℕ × ℕ) → Type 0 = ArePairs n step (suc index) a in
            let Q : ℕ → Type 0 = λ k. ArePairs n step k a pairs in
            let is : count + 1 ≡ suc index = omega arith in
            subst P (sym (get_or_push steps pairs [] index (omega arith))) (subst Q is more)
      ];
    }

pub more_letters : (n : ℕ) (step : ℕ → ℕ → ℕ → ℕ) (count letter : ℕ) (letters : List Steps) (steps : Steps)
    → length letters ≡ letter
    → ((index : ℕ) → index < letter → AreStepsBy n step count (suc index) (get_or letters index []))
    → AreStepsBy n step count (letter + 1) steps → (index : ℕ) → index < letter + 1
    → AreStepsBy n step count (suc index) (get_or (letters ++ steps ∷ []) index [])
more_letters n step count letter letters steps long are more index within =
    elim (cases_lt index letter) [
      | inl before ↦
          let P : Steps → Type 0 = AreStepsBy n step count (suc index) in
          subst P (sym (get_or_append_left letters (steps ∷ []) [] index (omega arith))) (are index before)
      | inr last ↦
          let is : letter + 1 ≡ suc index = omega arith in
          let P : Steps → Type 0 = AreStepsBy n step count (suc index) in
          let Q : ℕ → Type 0 = λ k. AreStepsBy n step count k steps in
          subst P (sym (get_or_push letters steps [] index (omega arith))) (subst Q is more)
    ]

-- ---- they lead to no more than there are differences

within_pairs : (n : ℕ) (step : ℕ → ℕ → ℕ → ℕ) (count difference a : ℕ) (pairs : List (ℕ × ℕ)) → StepsWithin count step
    → ArePairs n step difference a pairs → All (λ pair. (0 < pair.1) × (pair.1 ≤ count)) pairs
within_pairs n step count difference a pairs within are =
    All-from_contains (λ pair. (0 < pair.1) × (pair.1 ≤ count)) pairs (λ pair at.
    let is = (are pair.0 pair.1).0 at in
    let most = within difference a pair.0 in
    let leads = is.leads in
    (is.kept, omega arith))

within_steps : (n : ℕ) (step : ℕ → ℕ → ℕ → ℕ) (count a : ℕ) (steps : Steps) → StepsWithin count step
    → AreStepsBy n step count a steps → AreWithin count steps
within_steps n step count a steps within by place d there =
    let many = by.one_each in
    let pairs = by.each place (omega arith) in
    let R : List (ℕ × ℕ) → Type 0 = All (λ pair. (0 < pair.1) × (pair.1 ≤ count)) in
    subst R (get_or_default steps place [] d there)
    (within_pairs n step count (suc place) a (get_or steps place []) within pairs)

-- by the steps of all letters they do so
pub within_letters : (n : ℕ) (step : ℕ → ℕ → ℕ → ℕ) (count : ℕ) (letters : List Steps) → StepsWithin count step
    → AreAllSteps n step count letters → All (AreWithin count) letters
within_letters n step count letters within are index d at =
    let long = are.one_each in
    let by = are.each index (omega arith) in
    let P : Steps → Type 0 = AreWithin count in
    subst P (get_or_default letters index [] d at) (within_steps n step count (suc index) (get_or letters index []) within by)

-- ---- the steps from a number

pub nothing_from : (steps : Steps) (difference : ℕ) → 0 < difference → slice_get steps (difference - 1) ≡ None
    → [] ≡ pairs_from steps difference
nothing_from steps zero positive none = absurd (let no : ⊥ = omega arith in no)
nothing_from steps (suc index) positive none =
    let at : suc index - 1 ≡ index = omega arith in
    let P : ℕ → Type 0 = λ k. slice_get steps k ≡ None in
    let here = subst P at none in
    sym (sym (unwrap_or-slice_get steps index []) ∙ ap (λ (o : Option (List (ℕ × ℕ))). unwrap_or o []) here)
