-- Numbers that ascend.
use Rattle.std.proofs.Common.{◌≡◌, ℕ, ◌<◌, List, get_or, Some, inl, inr, arith}
use Rattle.std.specs.Prelude.{slice_get}
use Rattle.std.specs.List.{AllPairs}
use Rattle.std.proofs.lemmas.Bool.{cases_lt, cases_eq}
use Rattle.std.proofs.lemmas.Option.{slice_get_within, get_or_from_slice_get}

-- in an ascending list a number stands at one index
pub one_index : (numbers : List ℕ) (i j k : ℕ) → AllPairs (λ one other. one < other) numbers → slice_get numbers i ≡ Some k
    → slice_get numbers j ≡ Some k → i ≡ j
one_index numbers i j k ascending at_i at_j =
    let within_i = slice_get_within numbers i k at_i in
    let within_j = slice_get_within numbers j k at_j in
    let is_i : get_or numbers i 0 ≡ k = get_or_from_slice_get numbers i k 0 at_i in
    let is_j : get_or numbers j 0 ≡ k = get_or_from_slice_get numbers j k 0 at_j in
    elim (cases_lt i j) [
      | inl before ↦
          let low : get_or numbers i 0 < get_or numbers j 0 = ascending i j 0 before within_j in
          absurd (let no : ⊥ = omega (arith, low, is_i, is_j) in no)
      | inr from ↦ elim (cases_eq i j) [
        | inl same ↦ same
        | inr apart ↦
            let low : get_or numbers j 0 < get_or numbers i 0 = ascending j i 0 (omega (arith, from, apart)) within_i in
            absurd (let no : ⊥ = omega (arith, low, is_i, is_j) in no)
      ]
    ]
