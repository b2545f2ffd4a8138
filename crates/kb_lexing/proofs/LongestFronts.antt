-- Longest fronts: of bytes that pass a test, of digits, and of what goes on a name.
use Rattle.std.proofs.Common.{◌≡◌, ℕ, zero, suc, ◌+◌, ◌-◌, ◌<◌, ◌≤◌, ◌⊎◌, inl, inr, Bool, true, false, cond, List, [], ◌∷◌, ◌++◌, length, take, drop, get_or, refl, sym, ap, ◌∙◌, subst, arith, one-add, Decides, length-take, length-drop}
use Rattle.std.proofs.lemmas.List.{take-take, drop_more}
use Rattle.std.proofs.lemmas.List.Folds.{length-prefix_len}
use Rattle.std.proofs.lemmas.List.Sums.{prefix_len-le-length}
use Rattle.std.proofs.lemmas.Bool.Decides.{nat_tests}
use Rattle.std.specs.Prelude.{take_while}
use Rattle.std.specs.List.{AllByRecursion, prefix_len}
use Rattle.std.specs.Char.{is_ascii_digit}
use Rattle.kb_lexing.specs.Spelling.{IsDigit, IsStringByte, IsNameByte, BeginsWithNameByte, GoesOnAsName}
use Rattle.kb_lexing.specs.Lexemes.{IsLongestFront, GoesOnAt, AreFewDigits, is_string_byte}
use Rattle.kb_lexing.proofs.FirstTokens.{same_head, same_tail}

module _ (p : ℕ → Bool) (P : ℕ → Type 0) (decides : (b : ℕ) → Decides (p b) (P b)) where
  prefix_step : (b : ℕ) (bytes : List ℕ) (n : ℕ) (t : Bool) → p b ≡ t → AllByRecursion P (take n bytes)
      → AllByRecursion P (take (cond t (1 + n) 0) (b ∷ bytes))
  prefix_step b bytes n true e h = rw one-add ((decides b).0 e, h)
  prefix_step b bytes n false e h = tt

  prefix_passes : (bytes : List ℕ) → AllByRecursion P (take (prefix_len p bytes) bytes)
  prefix_passes [] = tt
  prefix_passes (b ∷ bytes) = prefix_step b bytes (prefix_len p bytes) (p b) refl (prefix_passes bytes)

  prefix_longest : (bytes front tail : List ℕ) → AllByRecursion P front → bytes ≡ front ++ tail → length front ≤ prefix_len p bytes
  prefix_longest bytes [] tail h e = omega arith
  prefix_longest [] (c ∷ front) tail h e = absurd cc
  prefix_longest (b ∷ bytes) (c ∷ front) tail h e =
      let more : length front ≤ prefix_len p bytes = prefix_longest bytes front tail h.1 (same_tail e) in
      let passes : p b ≡ true = (decides b).1 (subst (λ x. P x) (sym (same_head e)) h.0) in
      rw passes (omega arith)

  pub longest_while : (bytes : List ℕ) → IsLongestFront (AllByRecursion P) bytes (prefix_len p bytes)
  longest_while bytes = record {
    within = prefix_len-le-length p bytes;
    formed = prefix_passes bytes;
    longest = prefix_longest bytes;
  }

digit_decided : (b : ℕ) → Decides (is_ascii_digit b) (IsDigit b)
digit_decided b = (λ e. grind (arith, nat_tests), λ h. grind (arith, nat_tests))

-- a cut behind a front
pub take_past : (n : ℕ) (front tail : List ℕ) → length front ≤ n → take n (front ++ tail) ≡ front ++ take (n - length front) tail
take_past n [] tail few = ap (λ k. take k tail) (let e : n ≡ n - 0 = omega arith in e)
take_past zero (c ∷ front) tail few = absurd (omega arith)
take_past (suc n) (c ∷ front) tail few =
    let less : n - length front ≡ suc n - suc (length front) = omega arith in
    ap (λ bytes. c ∷ bytes) (take_past n front tail (omega arith) ∙ ap (λ k. front ++ take k tail) less)

longest_of_18 : (text : List ℕ) (n : ℕ) → IsLongestFront (AllByRecursion IsDigit) (take 18 text) n → IsLongestFront AreFewDigits text n
longest_of_18 text n h =
    let few : n ≤ 18 = omega (arith, h.within, length-take 18 text) in
    record {
      within = omega (arith, h.within, length-take 18 text);
      formed = (subst (λ x. AllByRecursion IsDigit x) (take-take n 18 text few) h.formed, omega (arith, length-take n text));
      longest = λ front tail digits whole. h.longest front (take (18 - length front) tail) digits.0 (ap (λ x. take 18 x) whole ∙ take_past 18 front tail digits.1);
    }

-- the digits at the front of a text, but no more than 18
pub longest_digits : (text : List ℕ) (n : ℕ) → n ≡ length (take_while is_ascii_digit (take 18 text)) → IsLongestFront AreFewDigits text n
longest_digits text n e =
    subst (λ x. IsLongestFront AreFewDigits text x) (sym (e ∙ length-prefix_len is_ascii_digit (take 18 text)))
    (longest_of_18 text _ (longest_while is_ascii_digit IsDigit digit_decided (take 18 text)))

string_decided : (b : ℕ) → Decides (is_string_byte b) (IsStringByte b)
string_decided b = (λ e. grind (arith, nat_tests), λ h. grind (arith, nat_tests))

-- the bytes at the front of a text that may stand in a string
pub longest_string : (text : List ℕ) (n : ℕ) → n ≡ length (take_while is_string_byte text) → IsLongestFront (AllByRecursion IsStringByte) text n
longest_string text n e =
    subst (λ x. IsLongestFront (AllByRecursion IsStringByte) text x) (sym (e ∙ length-prefix_len is_string_byte text))
    (longest_while is_string_byte IsStringByte string_decided text)

-- a name goes on at its first byte, and then as the bytes behind it do
goes_on : (b : ℕ) (bytes : List ℕ) (m : ℕ) → GoesOnAt (b ∷ bytes) → IsLongestFront GoesOnAsName bytes m → IsNameByte b ⊎ ((b ≡ 46) × BeginsWithNameByte (take m bytes))
goes_on b bytes m (inl h) longest = inl h
goes_on b [] m (inr h) longest = absurd h.1
goes_on b (c ∷ bytes) zero (inr h) longest = absurd (omega (arith, longest.longest (c ∷ []) bytes (inl h.1, tt) refl))
goes_on b (c ∷ bytes) (suc m) (inr h) longest = inr (h.0, h.1)

pub longest_onward : (b : ℕ) (bytes : List ℕ) (m : ℕ) → GoesOnAt (b ∷ bytes) → IsLongestFront GoesOnAsName bytes m → IsLongestFront GoesOnAsName (b ∷ bytes) (suc m)
longest_onward b bytes m at h = record {
  within = omega (arith, h.within);
  formed = (goes_on b bytes m at h, h.formed);
  longest = longest;
}
  where
    longest : (front tail : List ℕ) → GoesOnAsName front → b ∷ bytes ≡ front ++ tail → length front ≤ suc m
    longest [] tail name whole = omega arith
    longest (c ∷ front) tail name whole = omega (arith, h.longest front tail name.1 (same_tail whole))

-- a front that is nowhere to be gone on
stops : (bytes front tail : List ℕ) → ¬ GoesOnAt bytes → GoesOnAsName front → bytes ≡ front ++ tail → length front ≤ 0
stops bytes [] tail ends name whole = omega arith
stops bytes (c ∷ front) tail ends name whole = absurd (ends (rw whole (at c front tail name.0)))
  where
    at : (c : ℕ) (front tail : List ℕ) → IsNameByte c ⊎ ((c ≡ 46) × BeginsWithNameByte front) → GoesOnAt (c ∷ (front ++ tail))
    at c front tail (inl h) = inl h
    at c [] tail (inr h) = absurd h.1
    at c (d ∷ front) tail (inr h) = inr h

pub longest_stop : (bytes : List ℕ) → ¬ GoesOnAt bytes → IsLongestFront GoesOnAsName bytes 0
longest_stop bytes ends = record {
  within = omega arith;
  formed = tt;
  longest = λ front tail name whole. stops bytes front tail ends name whole;
}

-- one step of the scan: what is left has no byte, or one that goes on
pub GoesOnAt-some : (bytes : List ℕ) → GoesOnAt bytes → 0 < length bytes
GoesOnAt-some [] h = absurd h
GoesOnAt-some (b ∷ bytes) h = omega arith

pub longest_step : (text : List ℕ) (n m : ℕ) → GoesOnAt (drop n text) → IsLongestFront GoesOnAsName (drop (n + 1) text) m → IsLongestFront GoesOnAsName (drop n text) (1 + m)
longest_step text n m at h =
    let some : n < length text = omega (arith, GoesOnAt-some (drop n text) at, length-drop n text) in
    let split : drop n text ≡ get_or text n 0 ∷ drop (n + 1) text = drop_more text n 0 some in
    rw (one-add, split) (longest_onward _ _ m (subst (λ x. GoesOnAt x) split at) h)
