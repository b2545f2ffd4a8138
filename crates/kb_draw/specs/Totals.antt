-- Totals over lists, and over the numbers below a bound. Two lists that have the same total by
-- every weight have the same elements, as many times each.
use Rattle.std.specs.Prelude.{ℕ, zero, suc, ◌+◌, List, [], ◌∷◌, cond, ◌==◌, nat_le}

abbrev pub total : {X : Type 0} → (X → ℕ) → List X → ℕ
total weight [] = 0
total weight (x ∷ xs) = weight x + total weight xs

-- the total over the numbers below a bound
abbrev pub below : (ℕ → ℕ) → ℕ → ℕ
below weight zero = 0
below weight (suc n) = below weight n + weight n

-- 1 for this number, and 0 for others
abbrev pub is_it : ℕ → ℕ → ℕ
is_it number other = cond (other == number) 1 0

-- how often a number stands in a list
abbrev pub times : ℕ → List ℕ → ℕ
times number = total (is_it number)

-- 1 for the end and for what is more, and 0 for what is less
abbrev pub is_past : ℕ → ℕ → ℕ
is_past end number = cond (nat_le end number) 1 0

-- how many of the numbers are the end or more
abbrev pub past : ℕ → List ℕ → ℕ
past end = total (is_past end)
