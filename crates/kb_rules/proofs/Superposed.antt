-- What a critical pair is, by equations of lists.
use Rattle.std.proofs.Common.{◌≡◌, ℕ, zero, suc, ◌+◌, ◌-◌, List, [], ◌∷◌, ◌++◌, length, take, drop, Some, refl, sym, ◌∙◌, arith, append_assoc, length-drop, suc-le-suc, zero-le, zero-add}
use Rattle.std.specs.Prelude.{slice_get}
use Rattle.std.proofs.lemmas.List.{take-append-drop, append-nil, drop-drop}
use Rattle.std.proofs.Math.Nat.{suc-add}
use Rattle.kb_word.specs.Words.{Pair}
use Rattle.kb_word.specs.Overlap.{Overlaps, superposition, critical_pair}
use Rattle.kb_word.specs.Congruence.{Replaces}
use Rattle.kb_rules.specs.Agreement.{AgreeAsFar}

some-injective : {x y : ℕ} → Some x ≡ Some y → x ≡ y
some-injective e = cc

pub slice_get-drop : (n : ℕ) (xs : List ℕ) (k : ℕ) → slice_get (drop n xs) k ≡ slice_get xs (n + k)
slice_get-drop zero xs k = rw zero-add refl
slice_get-drop (suc n) [] k = refl
slice_get-drop (suc n) (x ∷ xs) k = rw suc-add (slice_get-drop n xs k)

drop_nil : (n : ℕ) → drop n [] ≡ ◌++◌ {A = ℕ} [] []
drop_nil zero = refl
drop_nil (suc n) = refl

-- lists that agree as far as both go are one list, lengthened by the rest of the longer
agreeing-lengthened : (xs ys : List ℕ) → AgreeAsFar xs ys → xs ++ drop (length xs) ys ≡ ys ++ drop (length ys) xs
agreeing-lengthened [] [] agree = refl
agreeing-lengthened [] (y ∷ ys) agree = sym (append-nil (y ∷ ys))
agreeing-lengthened (x ∷ xs) [] agree = simp (append-nil)
agreeing-lengthened (x ∷ xs) (y ∷ ys) agree =
    let same : x ≡ y = some-injective (agree 0 (suc-le-suc zero-le) (suc-le-suc zero-le)) in
    let rest : xs ++ drop (length xs) ys ≡ ys ++ drop (length ys) xs =
    agreeing-lengthened xs ys (λ k low high. agree (suc k) (suc-le-suc low) (suc-le-suc high)) in
    cc

-- from the place on, the left side agrees with the other
pub overlap-agrees : (l m : List ℕ) (place : ℕ) → Overlaps l m place → AgreeAsFar (drop place l) m
overlap-agrees l m place overlap k low high =
    slice_get-drop place l k ∙ overlap.agree k (omega (arith, length-drop place l)) high

-- the superposition by its parts: the first letters of l, then m, then what l has past m
superposition-parts : (l m : List ℕ) (place : ℕ) → Overlaps l m place
    → superposition l m place ≡ take place l ++ m ++ drop (place + length m) l
superposition-parts l m place overlap =
    let whole : take place l ++ drop place l ≡ l = take-append-drop place l in
    let agreed : drop place l ++ drop (length (drop place l)) m ≡ m ++ drop (length m) (drop place l) =
    agreeing-lengthened (drop place l) m (overlap-agrees l m place overlap) in
    let long : length (drop place l) ≡ length l - place = length-drop place l in
    let past : drop (length m) (drop place l) ≡ drop (place + length m) l = drop-drop (length m) place l in
    let regroup : (take place l ++ drop place l) ++ drop (length l - place) m ≡ take place l ++ (drop place l ++ drop (length l - place) m) =
    append_assoc (take place l) (drop place l) (drop (length l - place) m) in
    let regroup2 : (take place l ++ m) ++ drop (place + length m) l ≡ take place l ++ (m ++ drop (place + length m) l) =
    append_assoc (take place l) m (drop (place + length m) l) in
    cc

pub replaced-by-first : (first second : Pair) (place : ℕ) → Overlaps first.0 second.0 place
    → Replaces (λ pair. pair ≡ first) (superposition first.0 second.0 place) (critical_pair first second place).0
replaced-by-first first second place overlap = record {
  before = [];
  pair = first;
  after = drop (length first.0 - place) second.0;
  is_allowed = refl;
  from = refl;
  to = refl;
}

pub replaced-by-second : (first second : Pair) (place : ℕ) → Overlaps first.0 second.0 place
    → Replaces (λ pair. pair ≡ second) (superposition first.0 second.0 place) (critical_pair first second place).1
replaced-by-second first second place overlap = record {
  before = take place first.0;
  pair = second;
  after = drop (place + length second.0) first.0;
  is_allowed = refl;
  from = superposition-parts first.0 second.0 place overlap;
  to = refl;
}
