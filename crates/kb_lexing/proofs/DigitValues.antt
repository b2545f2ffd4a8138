-- The values of digits, one digit on, and how large they are.
use Rattle.std.proofs.Common.{◌≡◌, ℕ, zero, suc, ◌+◌, ◌-◌, ◌*◌, ◌^◌, ◌<◌, ◌≤◌, List, [], ◌∷◌, ◌++◌, length, take, get_or, refl, ap, ◌∙◌, subst, arith}
use Rattle.std.proofs.Math.Nat.{pow-suc, pow-le-pow_right}
use Rattle.std.proofs.lemmas.List.{take_more}
use Rattle.std.specs.List.{AllByRecursion}
use Rattle.kb_lexing.specs.Spelling.{IsDigit, value_after}
use Rattle.kb_lexing.specs.Lexemes.{AreFewDigits}
use Rattle.kb_lexing.proofs.FirstTokens.{all_at}

value_push : (digits : List ℕ) (n d : ℕ) → value_after n (digits ++ d ∷ []) ≡ value_after n digits * 10 + (d - 48)
value_push [] n d = refl
value_push (b ∷ digits) n d = value_push digits (n * 10 + (b - 48)) d

pub value_more : (digits : List ℕ) (i : ℕ) → i < length digits → value_after 0 (take (i + 1) digits) ≡ value_after 0 (take i digits) * 10 + (get_or digits i 0 - 48)
value_more digits i at = ap (value_after 0) (take_more digits i 0 at) ∙ value_push (take i digits) 0 (get_or digits i 0)

ten_more : (value power d : ℕ) → value < power → d ≤ 9 → value * 10 + d < power * 10
ten_more value power d small digit = omega arith

value_below : (digits : List ℕ) (i : ℕ) → AllByRecursion IsDigit digits → i ≤ length digits → value_after 0 (take i digits) < 10 ^ i
value_below digits zero each at = omega arith
value_below digits (suc i) each at =
    let digit : IsDigit (get_or digits i 0) = all_at IsDigit digits i each (omega arith) in
    let before : value_after 0 (take i digits) < 10 ^ i = value_below digits i each (omega arith) in
    let one : i + 1 ≡ suc i = omega arith in
    let more : value_after 0 (take (suc i) digits) ≡ value_after 0 (take i digits) * 10 + (get_or digits i 0 - 48) =
    subst (λ k. value_after 0 (take k digits) ≡ value_after 0 (take i digits) * 10 + (get_or digits i 0 - 48)) one (value_more digits i (omega arith)) in
    let next : value_after 0 (take i digits) * 10 + (get_or digits i 0 - 48) < 10 ^ i * 10 =
    ten_more (value_after 0 (take i digits)) (10 ^ i) (get_or digits i 0 - 48) before (omega arith) in
    rw (more, pow-suc) next

-- before the 18th digit there is room for one more
pub value_room : (digits : List ℕ) (i : ℕ) → AreFewDigits digits → i < length digits → value_after 0 (take i digits) < 10 ^ 17
value_room digits i digit at =
    let below : value_after 0 (take i digits) < 10 ^ i = value_below digits i digit.0 (omega arith) in
    let some : 0 < 10 = omega arith in
    let before : i ≤ 17 = omega (arith, digit.1) in
    let most : 10 ^ i ≤ 10 ^ 17 = pow-le-pow_right some before in
    omega arith
