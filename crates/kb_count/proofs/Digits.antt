-- The decimal digits of numbers that are kept by their limbs.
use Rattle.std.proofs.Common.{◌≡◌, ℕ, zero, suc, ◌+◌, ◌-◌, ◌*◌, ◌/◌, ◌%◌, ◌^◌, ◌<◌, List, [], ◌∷◌, ◌++◌, get_or, drop, decimal, refl, sym, ◌∙◌, ap, ap₂, subst, arith, append_assoc}
use Rattle.std.specs.Int.Digits.{digits_of}
use Rattle.std.proofs.Math.Nat.{pow-suc, mul-add-div, mul-add-mod_self_left}
use Rattle.std.proofs.lemmas.List.{append-nil, map-append}
use Rattle.std.proofs.lemmas.Nat.{div_below}
use Rattle.std.proofs.lemmas.Int.Digits.{digits_of_step}
use Rattle.std.proofs.lemmas.Fmt.{decimal_digit, decimal-digits_of}
use Rattle.kb_count.specs.Decimal.{as_text, decimal_text, last_digits, limb_digits}
use Rattle.kb_count.specs.Limbs.{value_of}
use Rattle.kb_count.proofs.Sums.{value-drop}

-- ten times something positive, and more, is positive
positive-tens : (q power r : ℕ) → 0 < q → 0 < power → 0 < 10 * (q * power) + r
positive-tens (suc q) (suc power) r positive some = grind arith
positive-tens zero power r positive some = absurd (let no : ⊥ = omega arith in no)
positive-tens (suc q) zero r positive some = absurd (let no : ⊥ = omega arith in no)

tenfold : (q power : ℕ) → q * (power * 10) ≡ 10 * (q * power)
tenfold q power = grind arith

-- the digits of a number that begins with another one: those of that one, and so many more
more-digits : (count q r : ℕ) → 0 < q → r < 10 ^ count
    → digits_of 10 (q * 10 ^ count + r) ≡ digits_of 10 q ++ last_digits count r
more-digits zero q r positive small =
    let same : q * 10 ^ 0 + r ≡ q = omega arith in
    ap (digits_of 10) same ∙ sym (append-nil (digits_of 10 q))
more-digits (suc count) q r positive small =
    let power = 10 ^ count in
    let ten : 10 ^ suc count ≡ power * 10 = pow-suc 10 count in
    let is : q * 10 ^ suc count + r ≡ 10 * (q * power) + r =
    ap (λ p. q * p + r) ten ∙ ap (λ p. p + r) (tenfold q power) in
    let below : r < power * 10 = omega (arith, ten) in
    let smaller : r / 10 < power = div_below r 10 power (omega arith) below in
    let some : 0 < power = omega arith in
    ap (digits_of 10) is
    ∙ digits_of_step 10 (10 * (q * power) + r) (omega arith) (positive-tens q power r positive some)
    ∙ ap₂ (λ (front : List ℕ) (last : ℕ). front ++ last ∷ [])
    (ap (digits_of 10) (mul-add-div {m = 10} (omega arith) (q * power) r) ∙ more-digits count q (r / 10) positive smaller)
    (mul-add-mod_self_left 10 (q * power) r)
    ∙ append_assoc (digits_of 10 q) (last_digits count (r / 10)) (r % 10 ∷ [])

-- a number that a word of the machine holds
pub small-text : (n : ℕ) → n < 10 ^ 18 → decimal n ≡ decimal_text n
unfolding decimal_text
small-text zero small = decimal_digit 0 (omega arith)
small-text (suc n) small = decimal-digits_of (suc n) (omega arith) (omega arith)

positive-text : (n : ℕ) → 0 < n → decimal_text n ≡ as_text (digits_of 10 n)
unfolding decimal_text
positive-text zero positive = absurd (let no : ⊥ = omega arith in no)
positive-text (suc n) positive = refl

-- behind a digit 1 the eighteen digits of a limb stand
pub limb-text : (limb : ℕ) → limb < 10 ^ 18 → decimal (10 ^ 18 + limb) ≡ 49 ∷ limb_digits limb
unfolding limb_digits
limb-text limb small =
    let one : 10 ^ 18 + limb ≡ 1 * 10 ^ 18 + limb = omega arith in
    decimal-digits_of (10 ^ 18 + limb) (omega arith) (omega arith)
    ∙ ap as_text (ap (digits_of 10) one ∙ more-digits 18 1 limb (omega arith) small)

-- a number of one more limb has eighteen more digits
pub more-text : (rest limb : ℕ) → 0 < rest → limb < 10 ^ 18
    → decimal_text (limb + 10 ^ 18 * rest) ≡ decimal_text rest ++ limb_digits limb
unfolding limb_digits
more-text rest limb positive small =
    let turned : limb + 10 ^ 18 * rest ≡ rest * 10 ^ 18 + limb = omega arith in
    positive-text (limb + 10 ^ 18 * rest) (omega arith)
    ∙ ap as_text (ap (digits_of 10) turned ∙ more-digits 18 rest limb positive small)
    ∙ map-append (λ digit. 48 + digit) (digits_of 10 rest) (last_digits 18 limb)
    ∙ ap (λ text. text ++ as_text (last_digits 18 limb)) (sym (positive-text rest positive))

-- one limb more is written behind the digits of those above it
pub text-step : (limbs : List ℕ) (place : ℕ) (before written new : List ℕ) → 0 < place
    → get_or limbs (place - 1) 0 < 10 ^ 18 → 0 < value_of (drop place limbs)
    → written ≡ before ++ decimal_text (value_of (drop place limbs))
    → new ≡ written ++ limb_digits (get_or limbs (place - 1) 0)
    → (0 < value_of (drop (place - 1) limbs)) × (new ≡ before ++ decimal_text (value_of (drop (place - 1) limbs)))
text-step limbs zero before written new some small positive was is = absurd (let no : ⊥ = omega arith in no)
text-step limbs (suc place) before written new some small positive was is =
    let limb = get_or limbs place 0 in
    let rest = value_of (drop (suc place) limbs) in
    let same : suc place - 1 ≡ place = omega arith in
    let below : limb < 10 ^ 18 = subst (λ p. get_or limbs p 0 < 10 ^ 18) same small in
    let value : value_of (drop place limbs) ≡ limb + 10 ^ 18 * rest = value-drop limbs place in
    let more : 0 < value_of (drop place limbs) = omega arith in
    let text : new ≡ before ++ decimal_text (value_of (drop place limbs)) =
    is ∙ ap (λ p. written ++ limb_digits (get_or limbs p 0)) same ∙ ap (λ line. line ++ limb_digits limb) was
    ∙ append_assoc before (decimal_text rest) (limb_digits limb)
    ∙ ap (λ t. before ++ t) (sym (more-text rest limb positive below) ∙ ap decimal_text (sym value)) in (
      subst (λ p. 0 < value_of (drop p limbs)) (sym same) more,
      subst (λ p. new ≡ before ++ decimal_text (value_of (drop p limbs))) (sym same) text,
    )
