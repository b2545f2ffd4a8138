-- Names, repetitions and powers, as the meaning of words has them.
use Rattle.std.proofs.Common.{◌≡◌, ◌≢◌, ℕ, zero, suc, ◌+◌, ◌-◌, ◌*◌, ◌<◌, true, false, List, [], ◌∷◌, ◌++◌, Option, None, Some, Ok, Err, negsuc, nat_eq, refl, sym, ap, ◌∙◌, subst, arith, append_assoc, append-nil}
use Rattle.std.specs.Prelude.{codes, slice_get, Contains}
use Rattle.std.specs.Cmp.Lexicographic.{pointwise}
use Rattle.std.proofs.lemmas.Slice.Eq.{bytes_eq-Decides}
use Rattle.std.proofs.lemmas.Bool.{false_from_ne_true}
use Rattle.kb_word.specs.Names.{name_of}
use Rattle.kb_word.specs.Relations.{inverse_word}
use Rattle.kb_record.specs.Meaning.{unknown_generator, letter_from, name_meaning, repeated, repetition, power_meaning}

same_text : (text other : List ℕ) → text ≡ other → pointwise nat_eq text other ≡ true
same_text text other e = (bytes_eq-Decides text other).1 e

other_text : (text other : List ℕ) → text ≢ other → pointwise nat_eq text other ≡ false
other_text text other differ = false_from_ne_true (pointwise nat_eq text other) (λ e. differ ((bytes_eq-Decides text other).0 e))

-- the first place of a name is the letter's
letter_at : (names : List (List ℕ)) (text : List ℕ) (first place : ℕ) → slice_get names place ≡ Some text
    → ((earlier : ℕ) → earlier < place → slice_get names earlier ≢ Some text) → letter_from first names text ≡ Some (place + first)
letter_at [] text first place e before = absurd cc
letter_at (name ∷ names) text first zero e before =
    rw (same_text name text (let k = e in cc)) (ap Some (let k : first ≡ 0 + first = omega arith in k))
letter_at (name ∷ names) text first (suc place) e before =
    let differ : name ≢ text = λ k. before 0 (omega arith) (ap Some k) in
    rw (other_text name text differ)
    (letter_at names text (suc first) place e (λ earlier h. before (suc earlier) (omega arith)) ∙ ap Some (let k : place + suc first ≡ suc place + first = omega arith in k))

pub letter_found : (names : List (List ℕ)) (text : List ℕ) (x : ℕ) → name_of names x ≡ Some text
    → ((earlier : ℕ) → earlier < x → name_of names earlier ≢ Some text) → letter_from 1 names text ≡ Some x
letter_found names text zero e before = absurd cc
letter_found names text (suc place) e before =
    letter_at names text 1 place e (λ earlier h. before (suc earlier) (omega arith)) ∙ ap Some (let k : place + 1 ≡ suc place = omega arith in k)

letter_nowhere : (names : List (List ℕ)) (text : List ℕ) (first : ℕ) → ((place : ℕ) → slice_get names place ≢ Some text) → letter_from first names text ≡ None
letter_nowhere [] text first none = refl
letter_nowhere (name ∷ names) text first none =
    let differ : name ≢ text = λ k. none 0 (ap Some k) in
    rw (other_text name text differ) (letter_nowhere names text (suc first) (λ place. none (suc place)))

Contains-at : (names : List (List ℕ)) (text : List ℕ) (place : ℕ) → slice_get names place ≡ Some text → Contains names text
Contains-at [] text place e = absurd cc
Contains-at (name ∷ names) text zero e = (0, omega arith, (let k = e in cc))
Contains-at (name ∷ names) text (suc place) e =
    let at = Contains-at names text place e in
    (suc at.0, omega (arith, at.1), at.2)

pub letter_unknown : (names : List (List ℕ)) (text : List ℕ) → ¬ Contains names text → letter_from 1 names text ≡ None
letter_unknown names text none = letter_nowhere names text 1 (λ place e. none (Contains-at names text place e))

pub name_known : (names : List (List ℕ)) (text : List ℕ) (x : ℕ) → pointwise nat_eq text (codes "IdWord") ≡ false → letter_from 1 names text ≡ Some x
    → name_meaning names text ≡ Ok (x ∷ [])
name_known names text x other letter = rw (other, letter)

pub name_unknown : (names : List (List ℕ)) (text : List ℕ) → pointwise nat_eq text (codes "IdWord") ≡ false → letter_from 1 names text ≡ None
    → name_meaning names text ≡ Err (unknown_generator text)
name_unknown names text other letter = rw (other, letter)

repeated_empty : (n : ℕ) → repeated n [] ≡ []
repeated_empty zero = refl
repeated_empty (suc n) = repeated_empty n

pub repetition_empty : (n : ℕ) → repetition n [] ≡ Ok []
repetition_empty n = let none : n * 0 ≡ 0 = omega arith in rw none (ap Ok (repeated_empty n))

repeated_last : (n : ℕ) (w : List ℕ) → repeated n w ++ w ≡ w ++ repeated n w
repeated_last zero w = sym (append-nil w)
repeated_last (suc n) w = append_assoc w (repeated n w) w ∙ ap (λ v. w ++ v) (repeated_last n w)

pub repeated_more : (n : ℕ) (w : List ℕ) → repeated n w ++ w ≡ repeated (n + 1) w
repeated_more n w = let next : suc n ≡ n + 1 = omega arith in subst (λ k. repeated n w ++ w ≡ repeated k w) next (repeated_last n w)

pub negative_power_is : (names : List (List ℕ)) (inverses : List (Option ℕ)) (w v : List ℕ) (count : ℕ) → inverse_word inverses w ≡ Some v → 0 < count
    → repetition count v ≡ power_meaning names inverses (Some (negsuc (count - 1))) w
negative_power_is names inverses w v count e some =
    let same : count ≡ suc (count - 1) = omega arith in
    ap (λ k. repetition k v) same ∙ rw e
