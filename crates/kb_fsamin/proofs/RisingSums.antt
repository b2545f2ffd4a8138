-- Numbers that don't fall have a sum that doesn't fall either, and rises where one of them does.
use Rattle.std.proofs.Common.{◌≡◌, ◌≢◌, ℕ, suc, ◌-◌, ◌*◌, ◌<◌, ◌≤◌, List, [], ◌∷◌, length, get_or, sum, refl, sym, ap, ◌∙◌, inl, inr, arith}
use Rattle.std.proofs.lemmas.Bool.{cases_eq}
use Rattle.std.proofs.lemmas.List.Elements.{All-from_get_or}
use Rattle.std.proofs.lemmas.List.Sums.{sum_by-cons, sum_by-le}

sum_le : (xs ys : List ℕ) → length xs ≡ length ys → ((k : ℕ) → get_or xs k 0 ≤ get_or ys k 0) → sum xs ≤ sum ys
sum_le [] [] same all = omega arith
sum_le [] (y ∷ ys) same all = absurd (omega arith)
sum_le (x ∷ xs) [] same all = absurd (omega arith)
sum_le (x ∷ xs) (y ∷ ys) same all =
    let rest = sum_le xs ys (omega arith) (λ k. all (suc k)) in
    omega (arith, sum_by-cons (λ n. n) x xs, sum_by-cons (λ n. n) y ys, all 0)

sum_less : (xs ys : List ℕ) → length xs ≡ length ys → ((k : ℕ) → get_or xs k 0 ≤ get_or ys k 0) → xs ≢ ys → sum xs < sum ys
sum_less [] [] same all apart = absurd (apart refl)
sum_less [] (y ∷ ys) same all apart = absurd (omega arith)
sum_less (x ∷ xs) [] same all apart = absurd (omega arith)
sum_less (x ∷ xs) (y ∷ ys) same all apart =
    let one = sum_by-cons (λ n. n) x xs in
    let two = sum_by-cons (λ n. n) y ys in
    elim (cases_eq x y) [
      | inl is ↦
          let rest = sum_less xs ys (omega arith) (λ k. all (suc k)) (λ tails. apart (ap (λ z. z ∷ xs) is ∙ ap (λ zs. y ∷ zs) tails)) in
          omega arith
      | inr differ ↦
          let rest = sum_le xs ys (omega arith) (λ k. all (suc k)) in
          omega (arith, all 0)
    ]

-- what is left up to a bound falls
pub growth : (xs ys : List ℕ) (n most : ℕ) → length xs ≡ n → length ys ≡ n → ((k : ℕ) → get_or xs k 0 ≤ get_or ys k 0)
    → ((k : ℕ) → get_or ys k 0 ≤ most) → ys ≢ xs → n * most - sum ys < n * most - sum xs
growth xs ys n most one two all small apart =
    let rises : sum xs < sum ys = sum_less xs ys (one ∙ sym two) all (λ same. apart (sym same)) in
    let bound : sum ys ≤ length ys * most = sum_by-le (λ y. y) most ys (All-from_get_or (λ y. y ≤ most) ys 0 (λ k h. small k)) in
    let whole : length ys * most ≡ n * most = ap (λ k. k * most) two in
    omega arith
