-- Numbers of any size in decimal digits.
use Rattle.std.specs.Prelude.{ℕ, zero, suc, ◌+◌, ◌/◌, ◌%◌, List, [], ◌∷◌, ◌++◌, map}
use Rattle.std.specs.Int.Digits.{digits_of}

-- the digits, the highest first, each as the byte that stands for it
abbrev pub as_text : List ℕ → List ℕ
as_text digits = map (λ digit. 48 + digit) digits

-- the number in decimal digits, with no zero before another digit
unfoldable pub decimal_text : ℕ → List ℕ
decimal_text zero = as_text (0 ∷ [])
decimal_text (suc n) = as_text (digits_of 10 (suc n))

-- the last digits of a number, so many, the highest first
abbrev pub last_digits : ℕ → ℕ → List ℕ
last_digits zero n = []
last_digits (suc count) n = last_digits count (n / 10) ++ n % 10 ∷ []

-- the eighteen digits of a limb
unfoldable pub limb_digits : ℕ → List ℕ
limb_digits limb = as_text (last_digits 18 limb)
