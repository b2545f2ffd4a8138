-- The weights of words, and the order by weight.
use Rattle.std.specs.Prelude.{◌≡◌, ℕ, zero, suc, ◌<◌, ◌≤◌, List, sum_by, slice_get, unwrap_or}
use Rattle.kb_word.specs.Words.{IsEarlier}

-- what a generator may weigh
abbrev pub IsWeight : ℕ → Type 0
IsWeight k = (1 ≤ k) × (k ≤ 1000)

-- at least 1
abbrev pub at_least_one : ℕ → ℕ
at_least_one zero = 1
at_least_one (suc k) = suc k

-- The weight of letter x, where place 0 holds that of letter 1. A letter that has none weighs 1, and none weighs less.
abbrev pub letter_weight : List ℕ → ℕ → ℕ
letter_weight weights zero = 1
letter_weight weights (suc place) = at_least_one (unwrap_or (slice_get weights place) 1)

-- the weights of the word's letters together
abbrev pub word_weight : List ℕ → List ℕ → ℕ
word_weight weights = sum_by (letter_weight weights)

-- The order by weight, wtlex: u weighs less than v, or as much with the earlier generator at the first difference.
-- Since each letter weighs something, neither of two words of one weight is then a front of the other.
-- Sims, Computation with Finitely Presented Groups, 2.1, has such orders among the reduction orders.
pub data LessByWeight (weights u v : List ℕ) : Type 0 where
  lighter : word_weight weights u < word_weight weights v → LessByWeight weights u v
  as_heavy : word_weight weights u ≡ word_weight weights v → IsEarlier u v
      → LessByWeight weights u v
