-- Numbers by their limbs.
use Rattle.std.specs.Prelude.{ℕ, ◌+◌, ◌*◌, ◌^◌, List, [], ◌∷◌}

-- the number of limbs of eighteen decimal digits, the lowest first
abbrev pub value_of : List ℕ → ℕ
value_of [] = 0
value_of (limb ∷ limbs) = limb + 10 ^ 18 * value_of limbs
