-- Searching numbers from the last one back, and by halves.
use Rattle.std.proofs.Common.{◌≡◌, ℕ, ◌-◌, ◌<◌, ◌≤◌, List, length, get_or, reverse, All, Some, slice_get, Result, Ok, Err, IfSome, IfNone, ap, ◌∙◌, subst, arith, inl, inr}
use Rattle.std.specs.List.{AllPairs, Contains}
use Rattle.std.specs.Result.{MatchResult, result_ok}
use Rattle.std.proofs.lemmas.Bool.{cases_lt}
use Rattle.std.proofs.lemmas.List.{get_or-reverse, length-reverse}
use Rattle.std.proofs.lemmas.Option.{slice_get-get_or, get_or_from_slice_get}
use Rattle.kb_book.proofs.Lists.{contained}

-- what holds of each number, from the last one back, holds of each
pub All-reversed : (P : ℕ → Type 0) (numbers : List ℕ) → All P (reverse numbers) → All P numbers
All-reversed P numbers all k d within =
    let mirror : ℕ = length numbers - 1 - k in
    let back : length numbers - 1 - mirror ≡ k = omega arith in
    let same : get_or (reverse numbers) mirror d ≡ get_or numbers k d =
    get_or-reverse numbers mirror d (omega arith) ∙ ap (λ (j : ℕ). get_or numbers j d) back in
    subst P same (all mirror d (omega (arith, length-reverse numbers)))

-- ascending numbers rise
pub rises : (numbers : List ℕ) → AllPairs (λ one other. one < other) numbers
    → (i j : ℕ) → i ≤ j → j < length numbers → get_or numbers i 0 ≤ get_or numbers j 0
rises numbers ascending i j low within =
    elim (cases_lt i j) [
      | inl before ↦ let less : get_or numbers i 0 < get_or numbers j 0 = ascending i j 0 before within in omega arith
      | inr late ↦ let same : i ≡ j = omega arith in omega (arith, ap (λ k. get_or numbers k 0) same)
    ]

pub some_place : (numbers : List ℕ) (x : ℕ) (r : Result ℕ ℕ)
    → MatchResult r (λ i. (i < length numbers) × (get_or numbers i 0 ≡ x)) (λ i. (i ≤ length numbers)
    × ((k : ℕ) → k < i → get_or numbers k 0 < x) × ((k : ℕ) → i ≤ k → k < length numbers → x < get_or numbers k 0))
    → IfSome (result_ok r) (λ place. slice_get numbers place ≡ Some x)
some_place numbers x (Ok i) found = slice_get-get_or numbers i 0 found.0 ∙ ap (λ (n : ℕ). Some n) found.1
some_place numbers x (Err i) apart = tt

pub no_place : (numbers : List ℕ) (x : ℕ) (r : Result ℕ ℕ)
    → MatchResult r (λ i. (i < length numbers) × (get_or numbers i 0 ≡ x)) (λ i. (i ≤ length numbers)
    × ((k : ℕ) → k < i → get_or numbers k 0 < x) × ((k : ℕ) → i ≤ k → k < length numbers → x < get_or numbers k 0))
    → IfNone (result_ok r) (¬ Contains numbers x)
no_place numbers x (Ok i) found = tt
no_place numbers x (Err i) apart = λ c.
    let same : get_or numbers c.0 0 ≡ x = get_or_from_slice_get numbers c.0 x 0 (contained numbers x c) in
    elim (cases_lt c.0 i) [
      | inl before ↦ let less : get_or numbers c.0 0 < x = apart.1 c.0 before in omega arith
      | inr late ↦ let less : x < get_or numbers c.0 0 = apart.2 c.0 late c.1 in omega arith
    ]
