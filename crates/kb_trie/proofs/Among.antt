-- Numbers of a list.
use Rattle.std.proofs.Common.{◌≡◌, ℕ, zero, suc, ◌<◌, ◌⊎◌, List, [], ◌∷◌, ◌++◌, length, get_or, refl, sym, ◌∙◌, inl, inr, arith}
use Rattle.std.proofs.lemmas.List.{get_or_append_left, get_or_push, length_push, get_or_default}
use Rattle.std.proofs.lemmas.List.Sorted.{Contains-permutation, IsPermutation-sym}
use Rattle.std.proofs.lemmas.Bool.{cases_lt, cases_eq}
use Rattle.std.specs.List.{Contains}
use Rattle.std.specs.List.Sorted.{IsPermutation}
use Rattle.kb_trie.specs.Walks.{IsAmong}

pub among_push : (numbers : List ℕ) (more number : ℕ) → IsAmong numbers number → IsAmong (numbers ++ more ∷ []) number
among_push numbers more number is =
    record {
      place = is.place;
      within = omega (arith, is.within, length_push numbers more);
      is = get_or_append_left numbers (more ∷ []) 0 is.place is.within ∙ is.is;
    }

pub among_new : (numbers : List ℕ) (number : ℕ) → IsAmong (numbers ++ number ∷ []) number
among_new numbers number =
    record {
      place = length numbers;
      within = omega (arith, length_push numbers number);
      is = get_or_push numbers number 0 (length numbers) refl;
    }

pub among_cases : (numbers : List ℕ) (more number : ℕ) → IsAmong (numbers ++ more ∷ []) number → IsAmong numbers number ⊎ (more ≡ number)
among_cases numbers more number is =
    elim (cases_lt is.place (length numbers)) [
      | inl old ↦
          inl (record { place = is.place; within = old; is = sym (get_or_append_left numbers (more ∷ []) 0 is.place old) ∙ is.is })
      | inr new ↦
          let last : length numbers ≡ is.place = omega (arith, is.within, length_push numbers more) in
          inr (sym (get_or_push numbers more 0 is.place last) ∙ is.is)
    ]

pub among_none : (number : ℕ) → IsAmong [] number → ⊥
among_none number is = omega (arith, is.within)

among_later : (first : ℕ) (numbers : List ℕ) (number : ℕ) → IsAmong numbers number → IsAmong (first ∷ numbers) number
among_later first numbers number is = record { place = suc is.place; within = omega (arith, is.within); is = is.is }

not_first : (first : ℕ) (numbers : List ℕ) (number : ℕ) → (first ≡ number → ⊥) → (IsAmong numbers number → ⊥)
    → (place : ℕ) → place < length (first ∷ numbers) → get_or (first ∷ numbers) place 0 ≡ number → ⊥
not_first first numbers number other none zero within is = other is
not_first first numbers number other none (suc place) within is =
    none (record { place = place; within = omega arith; is = is })

-- whether a number is one of the list's
pub among_or_not : (numbers : List ℕ) (number : ℕ) → IsAmong numbers number ⊎ (IsAmong numbers number → ⊥)
among_or_not [] number = inr (among_none number)
among_or_not (first ∷ numbers) number =
    elim (cases_eq first number) [
      | inl same ↦ inl (record { place = 0; within = omega arith; is = same })
      | inr other ↦
          elim (among_or_not numbers number) [
            | inl later ↦ inl (among_later first numbers number later)
            | inr none ↦ inr (λ is. not_first first numbers number other none is.place is.within is.is)
          ]
    ]

pub contains_among : (numbers : List ℕ) (number : ℕ) → IsAmong numbers number → Contains numbers number
contains_among numbers number is =
    (is.place, is.within, get_or_default numbers is.place number 0 is.within ∙ is.is)

pub among_contains : (numbers : List ℕ) (number : ℕ) → Contains numbers number → IsAmong numbers number
among_contains numbers number is =
    record { place = is.0; within = is.1; is = get_or_default numbers is.0 0 number is.1 ∙ is.2 }

-- the same numbers in another order
pub among_permuted : (one two : List ℕ) (number : ℕ) → IsPermutation one two → IsAmong one number → IsAmong two number
among_permuted one two number same is =
    among_contains two number (Contains-permutation one two number same (contains_among one number is))

pub among_permuted_back : (one two : List ℕ) (number : ℕ) → IsPermutation one two → IsAmong two number → IsAmong one number
among_permuted_back one two number same is = among_permuted two one number (IsPermutation-sym one two same) is
