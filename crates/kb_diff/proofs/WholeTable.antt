-- A table that has the steps of all words is a machine's.
use Rattle.std.proofs.Common.{◌≡◌, inl, inr, ℕ, suc, ◌+◌, ◌-◌, ◌*◌, ◌<◌, ◌≤◌, Bool, true, false, ◌&&◌, nat_lt, nat_le, if◌then◌else◌, List, length, get_or, refl, sym, ap, ◌∙◌, subst, arith}
use Rattle.std.specs.Cmp.Derive.{both_true}
use Rattle.std.proofs.Math.Nat.{mul-le-mul_right}
use Rattle.std.proofs.lemmas.Bool.{cases_Bool, cases_lt, le-leb, lt-ltb, leb-true, ltb-true}
use Rattle.std.proofs.lemmas.List.{get_or_past}
use Rattle.kb_diff.specs.Groups.{Group}
use Rattle.kb_diff.specs.Steps.{AreSteps, DifferenceStep, IsRead}
use Rattle.kb_diff.specs.Tables.{AreStepsOf, StepTable, entry_of, is_pair_letter, step_in}

and_true : (a b : Bool) → (a && b) ≡ true → (a ≡ true) × (b ≡ true)
and_true true b e = (refl, e)
and_true false b e = cc

letter_true : (n letter : ℕ) → is_pair_letter n letter ≡ true → (0 < letter) × (letter ≤ n + 1)
letter_true n letter is =
    let parts = and_true (nat_lt 0 letter) (nat_le letter (n + 1)) is in (ltb-true 0 letter parts.0, leb-true letter (n + 1) parts.1)

true_letter : (n letter : ℕ) → 0 < letter → letter ≤ n + 1 → is_pair_letter n letter ≡ true
true_letter n letter positive within = both_true (lt-ltb 0 letter positive) (le-leb letter (n + 1) within)

-- whether the entry is looked up
abbrev in_table : ℕ → ℕ → ℕ → ℕ → Bool
in_table n number a b = nat_lt 0 number && (is_pair_letter n a && is_pair_letter n b)

module _ (group : Group) (words : List (List ℕ)) (entries : List ℕ) (are : AreStepsOf group words (length words) entries) where
  abbrev n : ℕ
  n = group.n

  abbrev table : StepTable
  table = record { n = group.n; entries = entries }

  looked_up : (number a b : ℕ) → IsRead group words number a b → in_table n number a b ≡ true
  looked_up number a b read =
      both_true (lt-ltb 0 number read.positive)
      (both_true (true_letter n a read.first_positive read.first) (true_letter n b read.second_positive read.second))

  is_read : (number a b : ℕ) → in_table n number a b ≡ true → number ≤ length words → IsRead group words number a b
  is_read number a b holds among =
      let parts = and_true (nat_lt 0 number) (is_pair_letter n a && is_pair_letter n b) holds in
      let letters = and_true (is_pair_letter n a) (is_pair_letter n b) parts.1 in
      let first = letter_true n a letters.0 in
      let second = letter_true n b letters.1 in record {
        positive = ltb-true 0 number parts.0;
        among = among;
        first_positive = first.0;
        first = first.1;
        second_positive = second.0;
        second = second.1;
      }

  abbrev entry : (number a b : ℕ) → ℕ
  entry number a b = get_or entries (entry_of n (number - 1) (a - 1) (b - 1)) 0

  step_from_table : (number a b : ℕ) → IsRead group words number a b → DifferenceStep group words number a b (step_in table number a b)
  step_from_table number a b read =
      let S : ℕ → Type 0 = λ k. DifferenceStep group words number a b k in
      let is : step_in table number a b ≡ entry number a b = ap (λ t. if t then entry number a b else 0) (looked_up number a b read) in
      let positive = read.positive in
      let among = read.among in
      let one = read.first_positive in
      let first = read.first in
      let two = read.second_positive in
      let second = read.second in
      let here = are.each (number - 1) (a - 1) (b - 1) (omega arith) (omega arith) (omega arith) in
      let N : ℕ → Type 0 = λ k. DifferenceStep group words k (suc (a - 1)) (suc (b - 1)) (entry number a b) in
      let A : ℕ → Type 0 = λ k. DifferenceStep group words number k (suc (b - 1)) (entry number a b) in
      let B : ℕ → Type 0 = λ k. DifferenceStep group words number a k (entry number a b) in
      let number_is : suc (number - 1) ≡ number = omega arith in
      let a_is : suc (a - 1) ≡ a = omega arith in
      let b_is : suc (b - 1) ≡ b = omega arith in
      subst S (sym is) (subst B b_is (subst A a_is (subst N number_is here)))

  past_end : (number a b : ℕ) → length words < number → entry number a b ≡ 0
  past_end number a b past =
      let size = (n + 1) * (n + 1) in
      let most : length words * size ≤ (number - 1) * size = mul-le-mul_right size (omega arith) in
      let long = are.one_each in
      let rest = (a - 1) * (n + 1) + (b - 1) in
      let all = length words * size in
      let place = (number - 1) * size in
      let beyond : length entries ≤ place + rest = omega arith in
      get_or_past entries (entry_of n (number - 1) (a - 1) (b - 1)) 0 beyond

  none_elsewhere : (number a b : ℕ) → ¬ IsRead group words number a b → step_in table number a b ≡ 0
  none_elsewhere number a b not_read = elim (cases_Bool (in_table n number a b)) [
    | inr out ↦ ap (λ t. if t then entry number a b else 0) out
    | inl holds ↦ elim (cases_lt (length words) number) [
      | inl past ↦ ap (λ t. if t then entry number a b else 0) holds ∙ past_end number a b past
      | inr among ↦ absurd (not_read (is_read number a b holds among))
    ]
  ]

  pub are_steps : AreSteps group words (step_in table)
  are_steps = record { each = step_from_table; elsewhere = none_elsewhere }
