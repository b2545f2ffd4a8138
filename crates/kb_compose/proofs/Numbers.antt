-- Pairs of states as numbers.
use Rattle.std.proofs.Common.{◌≡◌, ℕ, ◌^◌, ◌<◌}
use Rattle.std.proofs.lemmas.Nat.{div-mul-add, mod-mul-add}
use Rattle.kb_compose.specs.StatePairs.{number_of, first_state, second_state}

pub first_of_number : (p q : ℕ) → q < 2 ^ 32 → first_state (number_of p q) ≡ p
first_of_number p q less = div-mul-add p (2 ^ 32) q less

pub second_of_number : (p q : ℕ) → q < 2 ^ 32 → second_state (number_of p q) ≡ q
second_of_number p q less = mod-mul-add p (2 ^ 32) q less
