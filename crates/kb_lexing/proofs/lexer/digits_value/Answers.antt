use Rattle.std.proofs.Common.{◌≡◌, ℕ, ◌+◌, ◌*◌, ◌^◌, ◌<◌, ◌≤◌, ℤ, pos, ◌*ℤ◌, ◌+ℤ◌, get_or, to_z, of_z, FitsSigned, w64, ap, ◌∙◌, sym, arith}
use Rattle.std.proofs.lemmas.Int.{ints}
use Rattle.kb_lexing.specs.Spelling.{IsDigit}
use Rattle.kb_lexing.proofs.FirstTokens.{all_at}
use Rattle.kb_lexing.proofs.DigitValues.{value_more, value_room}
use Rattle.kb_lexing.proofs.lexer.digits_value.Goals as goal

-- a digit more, at signed numbers that are none below 0
tenfold : (v : ℤ) (n : ℕ) → v ≡ pos n → n < 10 ^ 17 → FitsSigned w64 (v *ℤ pos 10)
tenfold v n e small = rw e record { sfits = omega arith }

more : (v d : ℤ) (n m : ℕ) → v ≡ pos n → d ≡ pos m → n < 10 ^ 17 → m ≤ 9
    → FitsSigned w64 (to_z w64 (of_z w64 (v *ℤ pos 10)) +ℤ to_z w64 (of_z w64 d)) × (to_z w64 (of_z w64 (to_z w64 (of_z w64 (v *ℤ pos 10)) +ℤ to_z w64 (of_z w64 d))) ≡ pos (n * 10 + m))
more v d n m e f small digit = (omega (arith, ints), omega (arith, ints))

pub overflow_mul-value : goal.overflow_mul-value
overflow_mul-value c = tenfold _ _ c.loop-digit.invariant (value_room c.args.digits.now c.loop-digit.digit-index c.requires c.loop-digit-test.true)

pub overflow_add-value : goal.overflow_add-value
overflow_add-value c =
    let i = c.loop-digit.digit-index in
    let digit : IsDigit (get_or c.args.digits.now i 0) = all_at IsDigit c.args.digits.now i c.requires.0 c.loop-digit-test.true in
    (more _ c.from.result _ _ c.loop-digit.invariant c.from.ensures (value_room c.args.digits.now i c.requires c.loop-digit-test.true) (omega arith)).0

pub loop-digit-preserved : goal.loop-digit-preserved
loop-digit-preserved c =
    let i = c.loop-digit.digit-index in
    let digit : IsDigit (get_or c.args.digits.now i 0) = all_at IsDigit c.args.digits.now i c.requires.0 c.loop-digit-test.true in
    (more _ c.from.result _ _ c.loop-digit.invariant c.from.ensures (value_room c.args.digits.now i c.requires c.loop-digit-test.true) (omega arith)).1
    ∙ ap pos (sym (value_more c.args.digits.now i c.loop-digit-test.true))
