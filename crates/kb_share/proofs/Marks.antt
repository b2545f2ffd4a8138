-- Bits within bits, and the signatures of factors.
use Rattle.std.proofs.Common.{◌≡◌, ℕ, ◌+◌, ◌-◌, ◌<◌, ◌≤◌, max, List, ◌++◌, length, take, drop, sym, ◌∙◌, ap, subst, inl, inr, arith, length-append}
use Rattle.std.specs.Prelude.{bit_or}
use Rattle.std.specs.Int.{bit_at}
use Rattle.std.proofs.lemmas.Bool.{cases_lt}
use Rattle.std.proofs.Math.Seq.{drop-append-add}
use Rattle.std.proofs.lemmas.List.{drop-append-le, take-append-le, length-drop}
use Rattle.std.proofs.lemmas.Nat.Bits.{bit_at_or, bit_at-zero, same_from_bits}
use Rattle.kb_word.specs.Words.{IsFactor}
use Rattle.kb_share.specs.Signatures.{mark, window_mark, AreWithin, AreBitsOf, HasWindows, HasMarks, IsSignature}

-- bits within bits, one at a time
within_at : (a b i : ℕ) → AreWithin a b → max (bit_at a i) (bit_at b i) ≡ bit_at b i
within_at a b i h = sym (bit_at_or a b i) ∙ ap (λ n. bit_at n i) h

within_from : (a b : ℕ) → ((i : ℕ) → max (bit_at a i) (bit_at b i) ≡ bit_at b i) → AreWithin a b
within_from a b h = same_from_bits (bit_or a b) b (λ i. bit_at_or a b i ∙ h i)

max_first : (x y : ℕ) → max x (max x y) ≡ max x y
max_first x y = omega arith

max_second : (x y : ℕ) → max y (max x y) ≡ max x y
max_second x y = omega arith

max_both : (x y z : ℕ) → max x z ≡ z → max y z ≡ z → max (max x y) z ≡ z
max_both x y z e f = omega (arith, e, f)

max_then : (x y z : ℕ) → max x y ≡ y → max y z ≡ z → max x z ≡ z
max_then x y z e f = omega (arith, e, f)

pub within_first : (a b : ℕ) → AreWithin a (bit_or a b)
within_first a b = within_from a (bit_or a b) (λ i.
    let P : ℕ → Type 0 = λ n. max (bit_at a i) n ≡ n in
    subst P (sym (bit_at_or a b i)) (max_first (bit_at a i) (bit_at b i)))

pub within_second : (a b : ℕ) → AreWithin b (bit_or a b)
within_second a b = within_from b (bit_or a b) (λ i.
    let P : ℕ → Type 0 = λ n. max (bit_at b i) n ≡ n in
    subst P (sym (bit_at_or a b i)) (max_second (bit_at a i) (bit_at b i)))

pub within_both : (a b c : ℕ) → AreWithin a c → AreWithin b c → AreWithin (bit_or a b) c
within_both a b c first second = within_from (bit_or a b) c (λ i.
    let P : ℕ → Type 0 = λ n. max n (bit_at c i) ≡ bit_at c i in
    subst P (sym (bit_at_or a b i))
    (max_both (bit_at a i) (bit_at b i) (bit_at c i) (within_at a c i first) (within_at b c i second)))

pub within_then : (a b c : ℕ) → AreWithin a b → AreWithin b c → AreWithin a c
within_then a b c first second = within_from a c (λ i.
    max_then (bit_at a i) (bit_at b i) (bit_at c i) (within_at a b i first) (within_at b c i second))

none_within : (a : ℕ) → AreWithin 0 a
none_within a = within_from 0 a (λ i.
    let P : ℕ → Type 0 = λ n. max n (bit_at a i) ≡ bit_at a i in
    subst P (sym (bit_at-zero i)) (omega arith))

-- no marks, and one more
pub no_marks : (marks : ℕ → ℕ) → AreBitsOf marks 0 0
no_marks marks = record {
  has = λ index low. absurd (let no : ⊥ = omega (arith, low) in no);
  least = λ more all. none_within more;
}

pub marks_more : (marks : ℕ → ℕ) (count bits : ℕ) → AreBitsOf marks count bits
    → AreBitsOf marks (count + 1) (bit_or bits (marks count))
marks_more marks count bits are = record {
  has = λ index low. elim (cases_lt index count) [
    | inl before ↦ within_then (marks index) bits (bit_or bits (marks count)) (are.has index before) (within_first bits (marks count))
    | inr late ↦
        let same : count ≡ index = omega (arith, low, late) in
        let P : ℕ → Type 0 = λ n. AreWithin (marks n) (bit_or bits (marks count)) in
        subst P same (within_second bits (marks count))
  ];
  least = λ more all.
      within_both bits (marks count) more (are.least more (λ index low. all index (omega (arith, low)))) (all count (omega arith));
}

-- four numbers within another
within_four : (a b c d bits : ℕ) → AreWithin a bits → AreWithin b bits → AreWithin c bits → AreWithin d bits
    → AreWithin (bit_or (bit_or (bit_or a b) c) d) bits
within_four a b c d bits first second third fourth =
    within_both (bit_or (bit_or a b) c) d bits
    (within_both (bit_or a b) c bits (within_both a b bits first second) third) fourth

-- the marks of all windows of a size are within numbers that have them all
windows_are : (size : ℕ) (word : List ℕ) (bits more : ℕ) → AreBitsOf (window_mark size word) (length word + 1 - size) bits
    → AreWithin bits more → HasWindows size word more
windows_are size word bits more are within = λ place low.
    within_then (window_mark size word place) bits more (are.has place (omega (arith, low))) within

windows_least : (size : ℕ) (word : List ℕ) (bits more : ℕ) → 0 < size → AreBitsOf (window_mark size word) (length word + 1 - size) bits
    → HasWindows size word more → AreWithin bits more
windows_least size word bits more some are has = are.least more (λ place low. has place (omega (arith, low, some)))

-- the marks of windows of all sizes together
pub signature_is : (word : List ℕ) (a b c d : ℕ) → AreBitsOf (window_mark 1 word) (length word + 1 - 1) a
    → AreBitsOf (window_mark 2 word) (length word + 1 - 2) b → AreBitsOf (window_mark 5 word) (length word + 1 - 5) c
    → AreBitsOf (window_mark 12 word) (length word + 1 - 12) d → IsSignature word (bit_or (bit_or (bit_or a b) c) d)
signature_is word a b c d letters pairs fives twelves =
    let two = bit_or a b in
    let three = bit_or two c in
    let all = bit_or three d in
    let short = within_then two three all (within_first two c) (within_first three d) in
    record {
      has = record {
        letters = windows_are 1 word a all letters (within_then a two all (within_first a b) short);
        pairs = windows_are 2 word b all pairs (within_then b two all (within_second a b) short);
        fives = windows_are 5 word c all fives (within_then c three all (within_second two c) (within_first three d));
        twelves = windows_are 12 word d all twelves (within_second three d);
      };
      least = λ more has. within_four a b c d more
          (windows_least 1 word a more (omega arith) letters has.letters) (windows_least 2 word b more (omega arith) pairs has.pairs)
          (windows_least 5 word c more (omega arith) fives has.fives) (windows_least 12 word d more (omega arith) twelves has.twelves);
    }

-- a window of a factor is one of the word
window_of : (size : ℕ) (before factor after : List ℕ) (place : ℕ) → place + size ≤ length factor
    → take size (drop (length before + place) (before ++ factor ++ after)) ≡ take size (drop place factor)
window_of size before factor after place low =
    let start = length before + place in
    let rest = drop place factor in
    let within : start ≤ length (before ++ factor) = omega (arith, low, length-append before factor) in
    let fits : size ≤ length rest = omega (arith, low, length-drop place factor) in
    let cut : drop start (before ++ factor ++ after) ≡ rest ++ after =
    drop-append-le start (before ++ factor) after within ∙ ap (λ (w : List ℕ). w ++ after) (drop-append-add before factor place) in
    ap (take size) cut ∙ take-append-le size rest after fits

-- the marks of a word's windows have those of its factor's
windows_of : (size : ℕ) (before factor after : List ℕ) (bits : ℕ) → HasWindows size (before ++ factor ++ after) bits
    → HasWindows size factor bits
windows_of size before factor after bits has = λ place low.
    let within : length before + place + size ≤ length (before ++ factor ++ after) =
    omega (arith, low, length-append (before ++ factor) after, length-append before factor) in
    subst (λ (window : List ℕ). AreWithin (mark window) bits) (window_of size before factor after place low)
    (has (length before + place) within)

has_parts : (before factor after : List ℕ) (bits : ℕ) → HasMarks (before ++ factor ++ after) bits → HasMarks factor bits
has_parts before factor after bits has = record {
  letters = windows_of 1 before factor after bits has.letters;
  pairs = windows_of 2 before factor after bits has.pairs;
  fives = windows_of 5 before factor after bits has.fives;
  twelves = windows_of 12 before factor after bits has.twelves;
}

-- a word has the marks of its factors
factor_has : (word factor : List ℕ) (bits : ℕ) → IsFactor word factor → HasMarks word bits → HasMarks factor bits
factor_has word factor bits is has =
    let stands = is.1 in
    has_parts stands.before factor stands.after bits (subst (λ (w : List ℕ). HasMarks w bits) stands.whole has)

-- the signature of a factor is within that of the word
pub signature_within : (word factor : List ℕ) (bits own : ℕ) → IsFactor word factor → HasMarks word bits → IsSignature factor own
    → AreWithin own bits
signature_within word factor bits own is has signature = signature.least bits (factor_has word factor bits is has)
