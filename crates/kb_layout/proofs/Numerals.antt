-- Numbers of at most 18 digits, and their digits.
use Rattle.std.proofs.Common.{◌≡◌, ℕ, zero, suc, ◌<◌, ◌^◌, inl, inr, ℤ, pos, negsuc, List, decimal, refl, sym, ap, ◌∙◌, subst, arith}
use Rattle.std.specs.Prelude.{nat_abs}
use Rattle.std.specs.Fmt.{signed_decimal}
use Rattle.std.specs.List.{AllByRecursion}
use Rattle.std.proofs.lemmas.Fmt.{decimal_nonempty, length-decimal-le, digits_decimal, digits_value-decimal}
use Rattle.std.proofs.lemmas.Str.Parse.{IsNumeralModel, numerals_by_fold, digits_value_short}
use Rattle.kb_lexing.specs.Spelling.{IsDigit, AreDigits, IsNumber, value_after, opposite}
use Rattle.kb_layout.specs.Layout.{IsShortNumber}

numerals : IsNumeralModel (AllByRecursion IsDigit) (value_after 0)
numerals =
    numerals_by_fold (AllByRecursion IsDigit) record { empty = tt; parts = λ c cs h. (h.0, h.1); more = λ c cs h k. (h, k) }
    value_after record { empty = λ n. refl; more = λ n c cs h. refl }

decimal_digits : (n : ℕ) → n < 10 ^ 18 → AreDigits (decimal n) n
decimal_digits n short =
    let small : n < 2 ^ 64 = omega arith in
    record {
      some = decimal_nonempty n small;
      few = length-decimal-le 18 n (omega arith) short small;
      each = digits_decimal numerals n small;
      worth = sym (digits_value-decimal numerals n small);
    }

-- a number's text spells it
pub number_spelled : (z : ℤ) → IsShortNumber z → IsNumber (signed_decimal z) z
number_spelled (pos n) short = inl (n, decimal_digits n short, refl)
number_spelled (negsuc n) short = inr (suc n, decimal (suc n), decimal_digits (suc n) short, refl, refl)

nat_abs-opposite : (n : ℕ) → nat_abs (opposite n) ≡ n
nat_abs-opposite zero = refl
nat_abs-opposite (suc n) = refl

digits_short : (digits : List ℕ) (n : ℕ) → AreDigits digits n → n < 10 ^ 18
digits_short digits n h = subst (λ k. k < 10 ^ 18) (sym h.worth) (digits_value_short numerals digits 18 h.each h.few)

-- what is spelled is short
pub number_short : (bytes : List ℕ) (z : ℤ) → IsNumber bytes z → IsShortNumber z
number_short bytes z (inl h) = subst (λ k. k < 10 ^ 18) (sym (ap nat_abs h.2)) (digits_short bytes h.0 h.1)
number_short bytes z (inr h) = subst (λ k. k < 10 ^ 18) (sym (ap nat_abs h.4 ∙ nat_abs-opposite h.0)) (digits_short h.1 h.0 h.2)
