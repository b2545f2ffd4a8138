-- The letters of a word's meaning are generators.
use Rattle.std.proofs.Common.{◌≡◌, ℕ, zero, suc, ◌+◌, ◌*◌, ◌<◌, ◌≤◌, Bool, true, false, nat_lt, nat_eq, if◌then◌else◌, ℤ, pos, negsuc, List, [], ◌∷◌, ◌++◌, length, slice_get, Option, None, Some, option_and_then, Result, Ok, Err, refl, sym, subst, ◌∙◌, arith}
use Rattle.std.specs.Prelude.{codes}
use Rattle.std.specs.Option.{option_map}
use Rattle.std.specs.Cmp.Lexicographic.{pointwise}
use Rattle.std.proofs.lemmas.List.Elements.{All-nil, All-push, All-append}
use Rattle.std.proofs.lemmas.Option.{slice_get_within}
use Rattle.kb_word.specs.WordOrders.{WeighsEach}
use Rattle.kb_word.specs.declared.word_order.WordOrder.{WordOrder}
use Rattle.kb_word.specs.Relations.{inverse_letter, inverse_word, IsOver, IsPresentation}
use Rattle.kb_word.specs.Words.{Pair, OneOf}
use Rattle.kb_record.specs.Tree.{Factor, named, grouped, Factors, no_factors, factor, Places}
use Rattle.kb_record.specs.Meaning.{WordFault, too_long, most_letters, letter_from, name_meaning, repeated, repetition, power_meaning, and_then, product, factor_meaning, product_meaning}
use Rattle.kb_record.proofs.WordMeanings.{name_known, name_unknown}
use Rattle.kb_presfile.specs.Holds.{AreMutual, AreMeanings, AreEquations}
use Rattle.kb_presfile.proofs.InverseLemmas.{letter_within, inverse_read}

over_none : (n : ℕ) → IsOver n []
over_none n = All-nil (λ x. (0 < x) × (x ≤ n))

over_one : (n x : ℕ) → 0 < x → x ≤ n → IsOver n (x ∷ [])
over_one n x low high zero d h = (low, high)
over_one n x low high (suc k) d h = absurd (omega (arith, h))

some_pair : {p q : Pair} → Some p ≡ Some q → p ≡ q
some_pair e = cc

ok_same : {v w : List ℕ} → ◌≡◌ {A = Result (List ℕ) WordFault} (Ok v) (Ok w) → v ≡ w
ok_same e = cc

-- where a step follows another, both succeed
record BothSucceed (first : Result (List ℕ) WordFault) (next : List ℕ → Result (List ℕ) WordFault) (v : List ℕ) : Type 0 where
  between : List ℕ
  was : first ≡ Ok between
  gave : next between ≡ Ok v

both_succeed : (first : Result (List ℕ) WordFault) (next : List ℕ → Result (List ℕ) WordFault) (v : List ℕ) → and_then first next ≡ Ok v → BothSucceed first next v
both_succeed (Ok w) next v e = record { between = w; was = refl; gave = e }
both_succeed (Err fault) next v e = cc

unless_long : (long : Bool) (w v : List ℕ) → (if long then Err too_long else Ok w) ≡ Ok v → w ≡ v
unless_long true w v e = cc
unless_long false w v e = ok_same e

name_over : (names : List (List ℕ)) (text v : List ℕ) → name_meaning names text ≡ Ok v → IsOver (length names) v
name_over names text v e = go (pointwise nat_eq text (codes "IdWord")) refl (letter_from 1 names text) refl
  where
    P : List ℕ → Type 0
    P w = IsOver (length names) w

    is_letter : (x : ℕ) → letter_from 1 names text ≡ Some x → IsOver (length names) (x ∷ [])
    is_letter x letter = let within = letter_within 1 names text x letter in over_one (length names) x (omega (arith, within.0)) (omega (arith, within.1))

    go : (empty : Bool) → pointwise nat_eq text (codes "IdWord") ≡ empty → (o : Option ℕ) → letter_from 1 names text ≡ o → IsOver (length names) v
    go true is o letter = subst P (ok_same (rw is at e)) (over_none (length names))
    go false other None letter = let never = sym (name_unknown names text other letter) ∙ e in cc
    go false other (Some x) letter = subst P (ok_same (sym (name_known names text x other letter) ∙ e)) (is_letter x letter)

repeated_over : (n k : ℕ) (w : List ℕ) → IsOver n w → IsOver n (repeated k w)
repeated_over n zero w over = over_none n
repeated_over n (suc k) w over = All-append (λ x. (0 < x) × (x ≤ n)) w (repeated k w) over (repeated_over n k w over)

repetition_over : (n k : ℕ) (w v : List ℕ) → IsOver n w → repetition k w ≡ Ok v → IsOver n v
repetition_over n k w v over e =
    let P : List ℕ → Type 0 = λ u. IsOver n u in
    subst P (unless_long (nat_lt most_letters (k * length w)) (repeated k w) v e) (repeated_over n k w over)

letter_over : (inverses : List (Option ℕ)) (x y : ℕ) → AreMutual inverses → inverse_letter inverses x ≡ Some y → (0 < y) × (y ≤ length inverses)
letter_over inverses x zero back_again e = let back = back_again x 0 e in cc
letter_over inverses x (suc k) back_again e =
    let back = slice_get_within inverses k (Some x) (inverse_read inverses k x (back_again x (suc k) e)) in
    (omega arith, omega (arith, back))

some_word : {a b : List ℕ} → Some a ≡ Some b → a ≡ b
some_word h = cc

inverse_over : (inverses : List (Option ℕ)) (w u : List ℕ) → AreMutual inverses → inverse_word inverses w ≡ Some u → IsOver (length inverses) u
inverse_over inverses [] u back_again e =
    let P : List ℕ → Type 0 = λ v. IsOver (length inverses) v in subst P (some_word e) (over_none (length inverses))
inverse_over inverses (x ∷ w) u back_again e = at_letter (inverse_letter inverses x) refl e (λ v h. inverse_over inverses w v back_again h)
  where
    at_rest : (y : ℕ) → (0 < y) × (y ≤ length inverses) → (o : Option (List ℕ)) → ((v : List ℕ) → o ≡ Some v → IsOver (length inverses) v)
        → option_map (λ v. v ++ y ∷ []) o ≡ Some u → IsOver (length inverses) u
    at_rest y within None over h = cc
    at_rest y within (Some v) over h =
        let P : List ℕ → Type 0 = λ z. IsOver (length inverses) z in
        subst P (some_word h) (All-push (λ z. (0 < z) × (z ≤ length inverses)) v y (over v refl) within)

    at_letter : (o : Option ℕ) → inverse_letter inverses x ≡ o → option_and_then (λ y. option_map (λ v. v ++ y ∷ []) (inverse_word inverses w)) o ≡ Some u
        → ((v : List ℕ) → inverse_word inverses w ≡ Some v → IsOver (length inverses) v) → IsOver (length inverses) u
    at_letter None is h over = cc
    at_letter (Some y) is h over = at_rest y (letter_over inverses x y back_again is) (inverse_word inverses w) over h

module _ (names : List (List ℕ)) (inverses : List (Option ℕ)) (both_ways : AreMutual inverses) (one_each : length inverses ≡ length names) where
  power_over : (power : Option ℤ) (w v : List ℕ) → IsOver (length names) w → power_meaning names inverses power w ≡ Ok v → IsOver (length names) v
  power_over None w v over e = let P : List ℕ → Type 0 = λ u. IsOver (length names) u in subst P (ok_same e) over
  power_over (Some (pos k)) w v over e = repetition_over (length names) k w v over e
  power_over (Some (negsuc k)) w v over e = inverted (inverse_word inverses w) refl
    where
      inverted : (o : Option (List ℕ)) → inverse_word inverses w ≡ o → IsOver (length names) v
      inverted None is = let never = rw is at e in cc
      inverted (Some u) is =
          let Q : ℕ → Type 0 = λ n. IsOver n u in
          repetition_over (length names) (suc k) u v (subst Q one_each (inverse_over inverses w u both_ways is)) (rw is at e)

  mutual
    factor_over : (f : Factor) (v : List ℕ) → factor_meaning names inverses f ≡ Ok v → IsOver (length names) v
    factor_over (named text power) v e =
        let both = both_succeed (name_meaning names text) (power_meaning names inverses power) v e in
        power_over power both.between v (name_over names text both.between both.was) both.gave
    factor_over (grouped factors power) v e =
        let both = both_succeed (product_meaning names inverses [] factors) (power_meaning names inverses power) v e in
        power_over power both.between v (product_over factors [] both.between (over_none (length names)) both.was) both.gave

    product_over : (factors : Factors) (so_far v : List ℕ) → IsOver (length names) so_far → product_meaning names inverses so_far factors ≡ Ok v → IsOver (length names) v
    product_over no_factors so_far v over e = let P : List ℕ → Type 0 = λ u. IsOver (length names) u in subst P (ok_same e) over
    product_over (factor next others) so_far v over e =
        let whole = both_succeed (and_then (factor_meaning names inverses next) (product so_far)) (λ w. product_meaning names inverses w others) v e in
        let last = both_succeed (factor_meaning names inverses next) (product so_far) whole.between whole.was in
        let P : List ℕ → Type 0 = λ u. IsOver (length names) u in
        let joined = All-append (λ x. (0 < x) × (x ≤ length names)) so_far last.between over (factor_over next last.between last.was) in
        product_over others whole.between v
        (subst P (unless_long (nat_lt most_letters (length so_far + length last.between)) (so_far ++ last.between) whole.between last.gave) joined) whole.gave

  pairs_over : (sides : List (Factors × Factors)) (pairs : List Pair) → AreMeanings names inverses sides pairs → (pair : Pair) → OneOf pairs pair
      → IsOver (length names) pair.0 × IsOver (length names) pair.1
  pairs_over [] [] are pair at = absurd (nowhere pair at)
    where
      nowhere : (pair : Pair) → OneOf [] pair → ⊥
      nowhere pair at = let e = at.1 in cc
  pairs_over [] (p ∷ pairs) are pair at = cc
  pairs_over (s ∷ sides) [] are pair at = absurd are
  pairs_over (s ∷ sides) (p ∷ pairs) are pair at = go at.0 at.1 (pairs_over sides pairs are.2 pair)
    where
      go : (k : ℕ) → slice_get (p ∷ pairs) k ≡ Some pair → (OneOf pairs pair → IsOver (length names) pair.0 × IsOver (length names) pair.1)
          → IsOver (length names) pair.0 × IsOver (length names) pair.1
      go zero is later =
          let P : Pair → Type 0 = λ q. IsOver (length names) q.0 × IsOver (length names) q.1 in
          subst P (some_pair is) (product_over s.0 [] p.0 (over_none (length names)) are.0, product_over s.1 [] p.1 (over_none (length names)) are.1)
      go (suc k) is later = later (k, is)

  pub equations_over : (n : ℕ) (order : WordOrder) (list : Places) (equations : List Pair) → n ≡ length names → WeighsEach n order
      → AreEquations names inverses list equations → IsPresentation n order names inverses equations
  equations_over n order list equations count weighed are = record {
    one_weight_each = weighed;
    one_name_each = sym count;
    one_inverse_each = one_each ∙ sym count;
    mutual_inverses = both_ways;
    letters = λ pair at. let P : ℕ → Type 0 = λ m. IsOver m pair.0 × IsOver m pair.1 in subst P (sym count) (pairs_over are.sides equations are.meanings pair at);
  }
