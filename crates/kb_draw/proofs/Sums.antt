-- Totals over lists that change at one place, and over the numbers below a bound.
use Rattle.std.proofs.Common.{◌≡◌, ◌≢◌, ℕ, zero, suc, ◌+◌, ◌<◌, ◌≤◌, true, false, cond, leb, List, [], ◌∷◌, ◌++◌, set, refl, sym, ap, ⊎_elim, arith, eq-eqb, ne_eqb, le-leb}
use Rattle.std.proofs.lemmas.Bool.{cases_lt}
use Rattle.std.proofs.lemmas.Bool.Decides.{leb_tells}
use mathlib.Core.Option.{some, some-injective, some-ne-none}
use lib.ListN.{get_elem?}
use Rattle.kb_draw.specs.Totals.{total, below, is_it, is_past}

module _ {X : Type 0} (weight : X → ℕ) where
  pub total-append : (xs ys : List X) → total weight (xs ++ ys) ≡ total weight xs + total weight ys
  total-append [] ys = omega arith
  total-append (x ∷ xs) ys = omega (arith, total-append xs ys)

  pub total-set : (xs : List X) (place : ℕ) (old new : X) → get_elem? xs place ≡ some old
      → total weight (set xs place new) + weight old ≡ total weight xs + weight new
  total-set [] place old new at = absurd (some-ne-none old (sym at))
  total-set (x ∷ xs) zero old new at = omega (arith, ap weight (some-injective x old at))
  total-set (x ∷ xs) (suc place) old new at = omega (arith, total-set xs place old new at)

  pub total-popped : (xs ys : List X) (x : X) → xs ≡ ys ++ x ∷ [] → total weight xs ≡ total weight ys + weight x
  total-popped xs ys x popped = omega (arith, ap (total weight) popped, total-append ys (x ∷ []))

-- a total of what is no more is no more
pub total_le : {X : Type 0} (less more : X → ℕ) (xs : List X) → ((place : ℕ) (x : X) → get_elem? xs place ≡ some x → less x ≤ more x)
    → total less xs ≤ total more xs
total_le less more [] each = omega arith
total_le less more (x ∷ xs) each = let here = each zero x refl in let later = total_le less more xs (λ place y at. each (suc place) y at) in omega (arith, here, later)

pub is_past-yes : (end number : ℕ) → end ≤ number → is_past end number ≡ 1
is_past-yes end number late = ap (λ b. cond b 1 0) (le-leb end number late)

pub is_past-no : (end number : ℕ) → number < end → is_past end number ≡ 0
is_past-no end number early = ⊎_elim
    (λ (t : (leb end number ≡ true) × (end ≤ number)). let late = t.1 in absurd (omega (arith, early, late)))
    (λ (t : (leb end number ≡ false) × (number < end)). ap (λ b. cond b 1 0) t.0)
    (leb_tells end number)

pub is_past-one : (end number : ℕ) → is_past end number ≤ 1
is_past-one end number = ⊎_elim (λ (early : number < end). omega (arith, is_past-no end number early))
    (λ (late : end ≤ number). omega (arith, is_past-yes end number late)) (cases_lt number end)

-- no number up to the end is past it
pub below-none : (end number : ℕ) → number ≤ end → below (is_past end) number ≡ 0
below-none end zero early = refl
below-none end (suc number) early = omega (arith, below-none end number (omega (arith, early)), is_past-no end number (omega (arith, early)))

pub below-within : (end number : ℕ) → number ≤ end + below (is_past end) number
below-within end zero = omega arith
below-within end (suc number) = ⊎_elim (λ (early : number < end). omega (arith, early))
    (λ (late : end ≤ number). omega (arith, below-within end number, is_past-yes end number late)) (cases_lt number end)

is_it-yes : (number other : ℕ) → other ≡ number → is_it number other ≡ 1
is_it-yes number other same = ap (λ b. cond b 1 0) (eq-eqb other number same)

is_it-no : (number other : ℕ) → other ≢ number → is_it number other ≡ 0
is_it-no number other apart = ap (λ b. cond b 1 0) (ne_eqb other number apart)

pub below-never : (number bound : ℕ) → bound ≤ number → below (is_it number) bound ≡ 0
below-never number zero late = refl
below-never number (suc bound) late =
    omega (arith, below-never number bound (omega (arith, late)), is_it-no number bound (λ same. omega (arith, late, same)))

pub below-once : (number bound : ℕ) → number < bound → below (is_it number) bound ≡ 1
below-once number zero early = absurd (omega (arith, early))
below-once number (suc bound) early = ⊎_elim
    (λ (before : number < bound). omega (arith, below-once number bound before, is_it-no number bound (λ same. omega (arith, before, same))))
    (λ (not_before : bound ≤ number). omega (arith, below-never number bound not_before, is_it-yes number bound (omega (arith, early, not_before))))
    (cases_lt number bound)

pub below-at_most_once : (number bound : ℕ) → below (is_it number) bound ≤ 1
below-at_most_once number bound = ⊎_elim (λ (early : number < bound). omega (arith, below-once number bound early))
    (λ (late : bound ≤ number). omega (arith, below-never number bound late)) (cases_lt number bound)
