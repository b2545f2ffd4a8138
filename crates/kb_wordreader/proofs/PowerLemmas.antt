-- A word whose end is repeated, letter by letter.
use Rattle.std.proofs.Common.{◌≡◌, ℕ, zero, suc, ◌+◌, ◌-◌, ◌*◌, ◌<◌, ◌≤◌, take, drop, get_or, List, [], ◌∷◌, ◌++◌, length, length-append, length-take, length-drop, min, append_assoc, append-nil, Ok, refl, sym, ap, ◌∙◌, subst, arith}
use Rattle.std.proofs.lemmas.List.{take-append-drop, length-take-le, take_all, take_more, take_at, get_or-take, get_or_append_left, get_or-append-add}
use Rattle.kb_record.proofs.WordMeanings.{repeated_more}
use Rattle.kb_record.specs.Meaning.{most_letters, repeated, repetition}
use Rattle.kb_wordreader.specs.Factors.{Adds}
use Rattle.kb_wordreader.proofs.ProductLemmas.{not_more}

pub length_repeated : (n : ℕ) (w : List ℕ) → length (repeated n w) ≡ n * length w
length_repeated zero w = let e : 0 ≡ 0 * length w = omega arith in e
length_repeated (suc n) w =
    let more : length w + n * length w ≡ suc n * length w = omega arith in
    length-append w (repeated n w) ∙ ap (λ k. length w + k) (length_repeated n w) ∙ more

pub repetition_fits : (n : ℕ) (w : List ℕ) → n * length w ≤ most_letters → repetition n w ≡ Ok (repeated n w)
repetition_fits n w few = rw (not_more most_letters (n * length w) few) refl

-- each letter stands again behind a length of the word
periodic : (n : ℕ) (w : List ℕ) (i : ℕ) → i < n * length w → get_or (repeated (suc n) w) (length w + i) 0 ≡ get_or (repeated (suc n) w) i 0
periodic n w i h =
    let inside : i < length (repeated n w) = subst (λ k. i < k) (sym (length_repeated n w)) h in
    let next : suc n ≡ n + 1 = omega arith in
    let turned : repeated (suc n) w ≡ repeated n w ++ w = ap (λ k. repeated k w) next ∙ sym (repeated_more n w) in
    get_or-append-add w (repeated n w) i 0 ∙ sym (ap (λ v. get_or v i 0) turned ∙ get_or_append_left (repeated n w) w 0 i inside)

again : (base w : List ℕ) (n place : ℕ) → length base ≤ place → place + length w < length base + n * length w
    → get_or (base ++ repeated n w) (place + length w) 0 ≡ get_or (base ++ repeated n w) place 0
again base w zero place from h = absurd (omega arith)
again base w (suc n) place from h =
    let i = place - length base in
    let more : suc n * length w ≡ length w + n * length w = omega arith in
    let at : place ≡ length base + i = omega arith in
    let behind : place + length w ≡ length base + (length w + i) = omega arith in
    ap (λ k. get_or (base ++ repeated (suc n) w) k 0) behind ∙ get_or-append-add base (repeated (suc n) w) (length w + i) 0 ∙ periodic n w i (omega arith)
    ∙ sym (ap (λ k. get_or (base ++ repeated (suc n) w) k 0) at ∙ get_or-append-add base (repeated (suc n) w) i 0)

-- a place before the last of the parts is behind a part
part_some : (start n place part : ℕ) → start ≤ place → place < start + n * part - part → 0 < part
part_some start n place zero from below = let none : n * 0 ≡ 0 = omega arith in absurd (omega (arith, none, below))
part_some start n place (suc part) from below = omega arith

-- the power of the word's end, from the place on
abbrev pub power_of_end : List ℕ → ℕ → ℕ → List ℕ
power_of_end old start n = take start old ++ repeated n (drop start old)

module _ (old : List ℕ) (start n : ℕ) (within : start ≤ length old) where
  base_length : length (take start old) ≡ start
  base_length = omega (arith, ap length (take-append-drop start old), length-append (take start old) (drop start old), length-drop start old)

  pub power_length : length (power_of_end old start n) ≡ start + n * (length old - start)
  power_length =
      length-append (take start old) (repeated n (drop start old)) ∙ ap (λ k. k + length (repeated n (drop start old))) base_length
      ∙ ap (λ k. start + k) (length_repeated n (drop start old) ∙ ap (λ k. n * k) (length-drop start old))

  -- cut to the power's length, the word begins the power
  pub cut : take (start + n * (length old - start)) old ≡ take (start + (length old - start)) (power_of_end old start n)
  cut = go n refl
    where
      go : (m : ℕ) → n ≡ m → take (start + n * (length old - start)) old ≡ take (start + (length old - start)) (power_of_end old start n)
      go zero none =
          let short : start + n * (length old - start) ≡ start = rw none (omega arith) in
          let whole : power_of_end old start n ≡ take start old = ap (λ k. power_of_end old start k) none ∙ append-nil (take start old) in
          ap (λ k. take k old) short ∙ sym (ap (λ w. take (start + (length old - start)) w) whole ∙ take_all (start + (length old - start)) (take start old) (omega (arith, base_length)))
      go (suc m) some =
          let long : length old ≤ start + n * (length old - start) = rw some (omega arith) in
          let front : take start old ++ drop start old ≡ old = take-append-drop start old in
          let split : power_of_end old start n ≡ old ++ repeated m (drop start old) =
          ap (λ k. power_of_end old start k) some ∙ sym (append_assoc (take start old) (drop start old) (repeated m (drop start old))) ∙ ap (λ w. w ++ repeated m (drop start old)) front in
          let e : length old ≡ start + (length old - start) = omega arith in
          take_all (start + n * (length old - start)) old long ∙ sym (ap (λ w. take (start + (length old - start)) w) split ∙ take_at old (repeated m (drop start old)) (start + (length old - start)) e)

  -- one more letter of the power
  pub one_more : (w new : List ℕ) (place : ℕ) → w ≡ take (place + (length old - start)) (power_of_end old start n) → start ≤ place
      → place < start + n * (length old - start) - (length old - start) → new ≡ w ++ get_or w place 0 ∷ [] → new ≡ take (place + 1 + (length old - start)) (power_of_end old start n)
  one_more w new place is from below grown =
      let end = length old - start in
      let whole = power_of_end old start n in
      let tail : length (drop start old) ≡ end = length-drop start old in
      let some : 0 < end = part_some start n place end from below in
      let inside : place + end < length whole = omega (arith, power_length) in
      let same : get_or w place 0 ≡ get_or whole place 0 = ap (λ v. get_or v place 0) is ∙ get_or-take (place + end) whole place 0 (omega arith) in
      let next : get_or whole (place + end) 0 ≡ get_or whole place 0 =
      subst (λ k. get_or whole (place + k) 0 ≡ get_or whole place 0) tail (again (take start old) (drop start old) n place (omega (arith, base_length)) (omega (arith, base_length, ap (λ k. n * k) tail))) in
      let e : place + end + 1 ≡ place + 1 + end = omega arith in
      grown ∙ ap (λ v. v ++ get_or w place 0 ∷ []) is ∙ ap (λ x. take (place + end) whole ++ x ∷ []) (same ∙ sym next) ∙ sym (take_more whole (place + end) 0 inside) ∙ ap (λ k. take k whole) e

  pub all_of_it : (w : List ℕ) (place : ℕ) → w ≡ take (place + (length old - start)) (power_of_end old start n) → start + n * (length old - start) - (length old - start) ≤ place
      → n * (length old - start) ≤ most_letters → Adds (λ letters. repetition n (drop start old) ≡ Ok letters) (take start old) w
  all_of_it w place is past few = record {
    letters = repeated n (drop start old);
    is_read = repetition_fits n (drop start old) (rw (length-drop start old) few);
    grown = is ∙ take_all (place + (length old - start)) (power_of_end old start n) (omega (arith, power_length));
  }

  -- the place is in the word
  pub place_within : (w : List ℕ) (place : ℕ) → w ≡ take (place + (length old - start)) (power_of_end old start n) → start ≤ place
      → place < start + n * (length old - start) - (length old - start) → place < length w
  place_within w place is from below =
      let end = length old - start in
      let some : 0 < end = part_some start n place end from below in
      let cut_length : length (take (place + end) (power_of_end old start n)) ≡ place + end = length-take-le (place + end) (power_of_end old start n) (omega (arith, power_length)) in
      omega (arith, ap length is, cut_length, some)

  pub all_few : (w : List ℕ) (place : ℕ) → w ≡ take (place + (length old - start)) (power_of_end old start n) → start + n * (length old - start) ≤ most_letters → length w ≤ most_letters
  all_few w place is few = omega (arith, ap length is, length-take (place + (length old - start)) (power_of_end old start n), power_length, few)

-- a length that isn't cut
pub saturated : (start count part times len : ℕ) → times ≡ min (count * part) 18446744073709551615 → len ≡ min (start + times) 18446744073709551615 → len ≤ most_letters
    → len ≡ start + count * part
saturated start count part times len product sum few = omega (arith, product, sum, few)
