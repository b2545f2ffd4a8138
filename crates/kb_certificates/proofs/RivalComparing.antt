-- How a rival compares with the second word of a pair, letter by letter.
use Rattle.std.proofs.Common.{◌≡◌, ◌≢◌, ℕ, ◌+◌, ◌<◌, ◌≤◌, Bool, true, false, not, nat_eq, List, [], ◌∷◌, length, if◌then◌else◌, refl, sym, ap, ◌∙◌, subst, inl, inr, arith}
use Rattle.std.proofs.lemmas.Bool.{cases_lt, cases_order, eq-eqb, false≢true, le-ltb, lt-ltb, ne_eqb, not-true, true≢false}
use Rattle.kb_word.specs.Words.{Less}
use Rattle.kb_word.specs.Words.Less.{earlier, shorter}
use Rattle.kb_word.specs.Relations.{IsOver}
use Rattle.kb_certificates.specs.declared.later_pairs.relation.Relation.{Relation}
use Rattle.kb_certificates.specs.declared.later_pairs.relation.Relation.TheVariants.{Same, Earlier, Later, Ended}
use Rattle.kb_certificates.specs.Rivalry.{compared, goes_on, is_less}

-- what is still to be read of a rival beside the rest of the second word, so that it is less
abbrev pub Fits : Relation → List ℕ → List ℕ → Type 0
Fits Same rest second = Less rest second
Fits Earlier rest second = length rest ≤ length second
Fits Later rest second = length rest < length second
Fits Ended rest second = rest ≡ []

-- the letter of a word, or the padding at its end, and what is after it
abbrev pub head_of : ℕ → List ℕ → ℕ
head_of n [] = n + 1
head_of n (x ∷ w) = x

abbrev pub tail_of : List ℕ → List ℕ
tail_of [] = []
tail_of (x ∷ w) = w

none_below : (w : List ℕ) → ¬ Less w []
none_below w (shorter less) = let no : ⊥ = omega arith in no
none_below [] (earlier long before) = before
none_below (x ∷ w) (earlier long before) = before

empty_is : (w : List ℕ) → length w ≤ 0 → w ≡ []
empty_is [] low = refl
empty_is (x ∷ w) low = absurd (let no : ⊥ = omega arith in no)

-- ---- where both end

pub less_fits : (relation : Relation) → is_less relation ≡ true → Fits relation [] []
less_fits Same less = absurd (false≢true less)
less_fits Earlier less = omega arith
less_fits Later less = absurd (false≢true less)
less_fits Ended less = refl

pub fits_less : (relation : Relation) (rest : List ℕ) → Fits relation rest [] → (rest ≡ []) × (is_less relation ≡ true)
fits_less Same rest fits = absurd (none_below rest fits)
fits_less Earlier rest fits = (empty_is rest fits, refl)
fits_less Later rest fits = absurd (let no : ⊥ = omega (arith, fits) in no)
fits_less Ended rest fits = (fits, refl)

-- ---- where the rival may go on

padding_stops : (n : ℕ) → not (nat_eq (n + 1) (n + 1)) ≡ true → ⊥
padding_stops n is = true≢false (sym (eq-eqb (n + 1) (n + 1) refl) ∙ not-true (nat_eq (n + 1) (n + 1)) is)

letter_goes : (n b : ℕ) → (0 < b) × (b ≤ n) → not (nat_eq b (n + 1)) ≡ false → ⊥
letter_goes n b letter is = true≢false (sym (ap not (ne_eqb b (n + 1) (λ same. omega (arith, letter.1, same)))) ∙ is)

-- then it may end
pub ended_fits : (n : ℕ) (relation : Relation) (second : List ℕ) → goes_on n relation (head_of n second) ≡ true → Fits relation [] second
ended_fits n Ended second on = absurd (false≢true on)
ended_fits n Same [] on = absurd (padding_stops n on)
ended_fits n Earlier [] on = absurd (padding_stops n on)
ended_fits n Later [] on = absurd (padding_stops n on)
ended_fits n Same (b ∷ second) on = shorter (omega arith)
ended_fits n Earlier (b ∷ second) on = omega arith
ended_fits n Later (b ∷ second) on = omega arith

-- otherwise it has nothing more
pub stopped_fits : (n : ℕ) (relation : Relation) (rest second : List ℕ) → IsOver n second → goes_on n relation (head_of n second) ≡ false
    → Fits relation rest (tail_of second) → (rest ≡ []) × Fits relation [] second
stopped_fits n Ended rest second over off fits = (fits, refl)
stopped_fits n Same rest [] over off fits = absurd (none_below rest fits)
stopped_fits n Earlier rest [] over off fits = (empty_is rest fits, omega arith)
stopped_fits n Later rest [] over off fits = absurd (let no : ⊥ = omega (arith, fits) in no)
stopped_fits n Same rest (b ∷ second) over off fits = absurd (letter_goes n b (over 0 0 (omega arith)) off)
stopped_fits n Earlier rest (b ∷ second) over off fits = absurd (letter_goes n b (over 0 0 (omega arith)) off)
stopped_fits n Later rest (b ∷ second) over off fits = absurd (letter_goes n b (over 0 0 (omega arith)) off)

-- and so has it before
pub fits_stopped : (n : ℕ) (relation : Relation) (rest second : List ℕ) → IsOver n second → goes_on n relation (head_of n second) ≡ false
    → Fits relation rest second → (rest ≡ []) × Fits relation [] (tail_of second)
fits_stopped n Ended rest second over off fits = (fits, refl)
fits_stopped n Same rest [] over off fits = absurd (none_below rest fits)
fits_stopped n Earlier rest [] over off fits = (empty_is rest fits, omega arith)
fits_stopped n Later rest [] over off fits = absurd (let no : ⊥ = omega (arith, fits) in no)
fits_stopped n Same rest (b ∷ second) over off fits = absurd (letter_goes n b (over 0 0 (omega arith)) off)
fits_stopped n Earlier rest (b ∷ second) over off fits = absurd (letter_goes n b (over 0 0 (omega arith)) off)
fits_stopped n Later rest (b ∷ second) over off fits = absurd (letter_goes n b (over 0 0 (omega arith)) off)

-- ---- a letter more

same_compared : (a b : ℕ) → (a < b → compared Same a b ≡ Earlier) × ((a ≡ b → compared Same a b ≡ Same) × (b < a → compared Same a b ≡ Later))
same_compared a b =
    let other : Relation = if nat_eq a b then Same else Later in (
      λ below. ap (λ (t : Bool). if t then Earlier else other) (lt-ltb a b below),
      (
        λ same.
            ap (λ (t : Bool). if t then Earlier else other) (le-ltb a b (omega arith))
            ∙ ap (λ (t : Bool). if t then Same else Later) (eq-eqb a b same),
        λ above.
            ap (λ (t : Bool). if t then Earlier else other) (le-ltb a b (omega arith))
            ∙ ap (λ (t : Bool). if t then Same else Later) (ne_eqb a b (λ same. omega arith)),
      ),
    )

less_by_first : (a b : ℕ) (rest second : List ℕ) → a < b → length rest ≤ length second → Less (a ∷ rest) (b ∷ second)
less_by_first a b rest second below low = elim (cases_lt (length rest) (length second)) [
  | inl less ↦ shorter (omega arith)
  | inr more ↦ earlier (omega arith) (inl below)
]

less_with : (a b : ℕ) (rest second : List ℕ) → a ≡ b → Less rest second → Less (a ∷ rest) (b ∷ second)
less_with a b rest second same (shorter less) = shorter (omega arith)
less_with a b rest second same (earlier long before) = earlier (omega arith) (inr (same, before))

length_of_less : (u v : List ℕ) → Less u v → length u ≤ length v
length_of_less u v (shorter less) = omega arith
length_of_less u v (earlier long before) = omega arith

less_without : (a b : ℕ) (rest second : List ℕ) → a ≡ b → Less (a ∷ rest) (b ∷ second) → Less rest second
less_without a b rest second same (shorter less) = shorter (omega arith)
less_without a b rest second same (earlier long (inl below)) = absurd (let no : ⊥ = omega arith in no)
less_without a b rest second same (earlier long (inr both)) = earlier (omega arith) both.1

shorter_only : (a b : ℕ) (rest second : List ℕ) → b < a → Less (a ∷ rest) (b ∷ second) → length rest < length second
shorter_only a b rest second above (shorter less) = omega arith
shorter_only a b rest second above (earlier long (inl below)) = absurd (let no : ⊥ = omega arith in no)
shorter_only a b rest second above (earlier long (inr both)) = absurd (let same = both.0 in let no : ⊥ = omega arith in no)

pub letter_fits : (relation : Relation) (a b : ℕ) (rest second : List ℕ) → relation ≢ Ended → Fits (compared relation a b) rest second
    → Fits relation (a ∷ rest) (b ∷ second)
letter_fits Ended a b rest second on fits = absurd (on refl)
letter_fits Earlier a b rest second on fits = omega (arith, fits)
letter_fits Later a b rest second on fits = omega (arith, fits)
letter_fits Same a b rest second on fits =
    let P : Relation → Type 0 = λ relation. Fits relation rest second in
    let is = same_compared a b in
    elim (cases_order a b) [
      | inl same ↦ less_with a b rest second same (subst P (is.1.0 same) fits)
      | inr apart ↦ elim apart [
        | inl below ↦ less_by_first a b rest second below (subst P (is.0 below) fits)
        | inr above ↦ let less = subst P (is.1.1 above) fits in shorter (omega (arith, less))
      ]
    ]

pub fits_letter : (relation : Relation) (a b : ℕ) (rest second : List ℕ) → Fits relation (a ∷ rest) (b ∷ second)
    → Fits (compared relation a b) rest second
fits_letter Ended a b rest second fits = absurd (let no : ⊥ = cc in no)
fits_letter Earlier a b rest second fits = omega (arith, fits)
fits_letter Later a b rest second fits = omega (arith, fits)
fits_letter Same a b rest second fits =
    let P : Relation → Type 0 = λ relation. Fits relation rest second in
    let is = same_compared a b in
    elim (cases_order a b) [
      | inl same ↦ subst P (sym (is.1.0 same)) (less_without a b rest second same fits)
      | inr apart ↦ elim apart [
        | inl below ↦
            let low = length_of_less (a ∷ rest) (b ∷ second) fits in
            subst P (sym (is.0 below)) (let short : length rest ≤ length second = omega arith in short)
        | inr above ↦ subst P (sym (is.1.1 above)) (shorter_only a b rest second above fits)
      ]
    ]

-- ---- the same of any second word beside which the rival goes on

not_ended : (n : ℕ) (relation : Relation) (b : ℕ) → goes_on n relation b ≡ true → relation ≢ Ended
not_ended n relation b on is =
    let P : Relation → Type 0 = λ r. goes_on n r b ≡ true in false≢true (subst P is on)

padding_goes : (n : ℕ) (relation : Relation) → goes_on n relation (n + 1) ≡ true → ⊥
padding_goes n Ended on = false≢true on
padding_goes n Same on = padding_stops n on
padding_goes n Earlier on = padding_stops n on
padding_goes n Later on = padding_stops n on

pub letter_fits_on : (n : ℕ) (relation : Relation) (a : ℕ) (rest second : List ℕ) → goes_on n relation (head_of n second) ≡ true
    → Fits (compared relation a (head_of n second)) rest (tail_of second) → Fits relation (a ∷ rest) second
letter_fits_on n relation a rest [] on fits = absurd (padding_goes n relation on)
letter_fits_on n relation a rest (b ∷ second) on fits = letter_fits relation a b rest second (not_ended n relation b on) fits

pub fits_letter_on : (n : ℕ) (relation : Relation) (a : ℕ) (rest second : List ℕ) → goes_on n relation (head_of n second) ≡ true
    → Fits relation (a ∷ rest) second → Fits (compared relation a (head_of n second)) rest (tail_of second)
fits_letter_on n relation a rest [] on fits = absurd (padding_goes n relation on)
fits_letter_on n relation a rest (b ∷ second) on fits = fits_letter relation a b rest second fits
