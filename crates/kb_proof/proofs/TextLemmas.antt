-- The bytes of the texts of numbers, names, words, steps and origins.
use Rattle.std.proofs.Common.{◌≡◌, ◌≢◌, ◌∙◌, ℕ, zero, suc, ◌+◌, ◌%◌, ◌^◌, ◌<◌, ◌≤◌, List, [], ◌∷◌, ◌++◌, length, get_or, decimal, inl, inr, refl, sym, ap, subst, arith}
use Rattle.std.specs.Prelude.{map, All, Contains, codes, Option, Some, None, unwrap_or}
use Rattle.std.specs.List.{AllByRecursion, join_with_byte}
use Rattle.std.specs.Str.{IsUtf8}
use Rattle.std.proofs.lemmas.Str.{IsUtf8-from_ascii}
use Rattle.std.proofs.lemmas.Fmt.{decimal_by_steps_wide, digits_decimal, IsAscii-decimal}
use Rattle.std.proofs.lemmas.Str.Parse.{IsNumeralModel, numerals_by_fold}
use Rattle.std.proofs.lemmas.List.Elements.{Contains-get_or, All-head}
use Rattle.std.proofs.lemmas.Option.{unwrap_or-slice_get, slice_get_within}
use Rattle.kb_lexing.specs.Spelling.{IsDigit, IsName, IsNameByte, GoesOnAsName, value_after}
use Rattle.kb_word.specs.Names.{name_of}
use Rattle.kb_word.specs.Printed.{letter_name, text_of_word}
use Rattle.kb_word.specs.Relations.{IsOver}
use Rattle.kb_machine.specs.declared.line.LogStep.{LogStep}
use Rattle.kb_machine.specs.declared.origin.Origin.{Origin}
use Rattle.kb_machine.specs.declared.origin.Origin.TheVariants.{Relation, Overlap, Killed, Shortened}
use Rattle.kb_proof.specs.Printed.{text_of_origin, text_of_step, text_of_steps}
use Rattle.kb_proof.specs.Printable.{AreReadableNames, FitsOrigin, FitsStep, IsShortening}
use Rattle.kb_proof.specs.Reading.{AllFrom, Reads, ReadsJoined, ReadsOverlap, parts}
use Rattle.kb_proof.proofs.Bytes.{from_weaker, from_join, all_map}
use Rattle.kb_proof.proofs.PartLemmas.{AreParts, alone, are_parts, parts_join}

-- numbers
pub numerals : IsNumeralModel (AllByRecursion IsDigit) (value_after 0)
numerals =
    numerals_by_fold (AllByRecursion IsDigit) record { empty = tt; parts = λ c cs h. (h.0, h.1); more = λ c cs h k. (h, k) }
    value_after record { empty = λ n. refl; more = λ n c cs h. refl }

digits_from : (xs : List ℕ) → AllByRecursion IsDigit xs → AllFrom 48 xs
digits_from [] h = tt
digits_from (x ∷ xs) h = (h.0.0, digits_from xs h.1)

digit_more : (ds : List ℕ) (d : ℕ) → AllByRecursion IsDigit ds → d < 10 → AllByRecursion IsDigit (ds ++ ((48 + d) ∷ []))
digit_more [] d h small = ((omega arith, omega arith), tt)
digit_more (x ∷ ds) d h small = (h.0, digit_more ds d h.1 small)

-- the digits of any number that is not huge
pub digits_wide : (n : ℕ) → n ≤ 2 ^ 64 → AllByRecursion IsDigit (decimal n)
digits_wide n small =
    decimal_by_steps_wide (λ m ds. AllByRecursion IsDigit ds) (λ m h. ((omega arith, omega arith), tt))
    (λ m ds h all. digit_more ds (m % 10) all (omega arith)) n (omega arith)

pub decimal_wide : (n : ℕ) → n ≤ 2 ^ 64 → AllFrom 48 (decimal n)
decimal_wide n small = digits_from (decimal n) (digits_wide n small)

pub decimal_from : (n : ℕ) → n < 2 ^ 64 → AllFrom 48 (decimal n)
decimal_from n small = digits_from (decimal n) (digits_decimal numerals n small)

pub decimal_utf8 : (n : ℕ) (bytes : List ℕ) → n < 2 ^ 64 → bytes ≡ decimal n → IsUtf8 bytes
decimal_utf8 n bytes small e = subst IsUtf8 (sym e) (IsUtf8-from_ascii (decimal n) (IsAscii-decimal n small))

digits_ascii : (xs : List ℕ) → AllByRecursion IsDigit xs → (i : ℕ) → get_or xs i 0 < 128
digits_ascii [] h i = omega arith
digits_ascii (x ∷ xs) h zero = omega (arith, h.0)
digits_ascii (x ∷ xs) h (suc i) = digits_ascii xs h.1 i

pub digits_utf8 : (xs : List ℕ) → AllByRecursion IsDigit xs → IsUtf8 xs
digits_utf8 xs h = IsUtf8-from_ascii xs (digits_ascii xs h)

-- names
name_byte : (b : ℕ) → IsNameByte b → (46 ≤ b) × (b < 128)
name_byte b (inl (inl h)) = (omega (arith, h), omega (arith, h))
name_byte b (inl (inr (inl h))) = (omega (arith, h), omega (arith, h))
name_byte b (inl (inr (inr h))) = (omega arith, omega arith)
name_byte b (inr h) = (omega (arith, h), omega (arith, h))

goes_on_byte : (b : ℕ) (bytes : List ℕ) → GoesOnAsName (b ∷ bytes) → (46 ≤ b) × (b < 128)
goes_on_byte b bytes (inl h, more) = name_byte b h
goes_on_byte b bytes (inr h, more) = (omega (arith, h.0), omega (arith, h.0))

goes_on_from : (bytes : List ℕ) → GoesOnAsName bytes → AllFrom 46 bytes
goes_on_from [] h = tt
goes_on_from (b ∷ bytes) h = ((goes_on_byte b bytes h).0, goes_on_from bytes h.1)

pub name_from : (bytes : List ℕ) → IsName bytes → AllFrom 46 bytes
name_from [] h = absurd h
name_from (b ∷ bytes) h = ((name_byte b (inl h.0)).0, goes_on_from bytes h.1)

goes_on_ascii : (bytes : List ℕ) → GoesOnAsName bytes → (i : ℕ) → get_or bytes i 0 < 128
goes_on_ascii [] h i = omega arith
goes_on_ascii (b ∷ bytes) h zero = (goes_on_byte b bytes h).1
goes_on_ascii (b ∷ bytes) h (suc i) = goes_on_ascii bytes h.1 i

name_ascii : (bytes : List ℕ) → IsName bytes → (i : ℕ) → get_or bytes i 0 < 128
name_ascii [] h i = absurd h
name_ascii (b ∷ bytes) h zero = (name_byte b (inl h.0)).1
name_ascii (b ∷ bytes) h (suc i) = goes_on_ascii bytes h.1 i

pub name_utf8 : (bytes : List ℕ) → IsName bytes → IsUtf8 bytes
name_utf8 bytes h = IsUtf8-from_ascii bytes (name_ascii bytes h)

-- letters
abbrev pub IsLetter : ℕ → ℕ → Type 0
IsLetter n x = (0 < x) × (x ≤ n)

pub name_at : (names : List (List ℕ)) (place : ℕ) → letter_name names (suc place) ≡ get_or names place []
name_at names place = unwrap_or-slice_get names place []

pub letter_is_name : (names : List (List ℕ)) (x : ℕ) → All IsName names → IsLetter (length names) x → IsName (letter_name names x)
letter_is_name names zero all h = absurd (omega (arith, h.0))
letter_is_name names (suc place) all h =
    let P : List ℕ → Type 0 = λ l. IsName l in subst P (sym (name_at names place)) (all place [] (omega (arith, h.1)))

pub letter_is_there : (names : List (List ℕ)) (x : ℕ) → IsLetter (length names) x → Contains names (letter_name names x)
letter_is_there names zero h = absurd (omega (arith, h.0))
letter_is_there names (suc place) h =
    let P : List ℕ → Type 0 = λ l. Contains names l in
    subst P (sym (name_at names place)) (Contains-get_or names place [] (omega (arith, h.1)))

pub letter_found : (names : List (List ℕ)) (x : ℕ) (bytes : List ℕ) → name_of names x ≡ Some bytes → (bytes ≡ letter_name names x) × IsLetter (length names) x
letter_found names zero bytes e = absurd cc
letter_found names (suc place) bytes e =
    let within = slice_get_within names place bytes e in
    (sym (ap (λ o. unwrap_or o []) e), (omega arith, omega arith))

pub letter_from : (names : List (List ℕ)) (x : ℕ) → AreReadableNames names → IsLetter (length names) x → AllFrom 46 (letter_name names x)
letter_from names x are h = name_from (letter_name names x) (letter_is_name names x are.spelled h)

-- words
pub word_parts : (names : List (List ℕ)) → AreReadableNames names → AreParts 42 (letter_name names) (IsLetter (length names))
word_parts names are = are_parts 46 42 (letter_name names) (IsLetter (length names)) (omega arith) (λ x h. letter_from names x are h)

id_word_from : AllFrom 42 (codes "IdWord")
id_word_from = (omega arith, (omega arith, (omega arith, (omega arith, (omega arith, (omega arith, tt))))))

pub word_from : (names : List (List ℕ)) (w : List ℕ) → AreReadableNames names → IsOver (length names) w → AllFrom 42 (text_of_word names w)
word_from names [] are over = id_word_from
word_from names (x ∷ w) are over =
    from_join 42 42 (map (letter_name names) (x ∷ w)) (omega arith)
    (all_map 42 (letter_name names) (IsLetter (length names))
    (λ y h. from_weaker 42 46 (letter_name names y) (omega arith) (letter_from names y are h)) (x ∷ w) over)

pub word_read : (names : List (List ℕ)) (bytes : List ℕ) (found : Option (List ℕ)) → bytes ≢ codes "IdWord"
    → ReadsJoined 42 (letter_name names) (IsLetter (length names)) bytes found → Reads (text_of_word names) (IsOver (length names)) bytes found
word_read names bytes None other none = each
  where
    each : (w : List ℕ) → IsOver (length names) w → bytes ≢ text_of_word names w
    each [] over e = other e
    each (x ∷ w) over e = none x w over e
word_read names bytes (Some []) other some = absurd (some.2 refl)
word_read names bytes (Some (x ∷ w)) other some = (some.0, some.1)

-- steps
pub step_from : (step : LogStep) → FitsStep step → AllFrom 47 (text_of_step step)
step_from step fits =
    let place : step.place < 2 ^ 64 = omega (arith, fits.place) in
    let line : step.line < 2 ^ 64 = omega (arith, fits.line) in
    from_join 47 47 (decimal step.place ∷ decimal step.line ∷ []) (omega arith) (
      from_weaker 47 48 (decimal step.place) (omega arith) (decimal_from step.place place),
      (from_weaker 47 48 (decimal step.line) (omega arith) (decimal_from step.line line), tt),
    )

pub step_parts : (step : LogStep) → FitsStep step → parts 47 (text_of_step step) ≡ decimal step.place ∷ decimal step.line ∷ []
step_parts step fits =
    let place : step.place < 2 ^ 64 = omega (arith, fits.place) in
    let line : step.line < 2 ^ 64 = omega (arith, fits.line) in
    parts_join 48 47 (decimal step.place) (decimal step.line ∷ []) (omega arith)
    (decimal_from step.place place, (decimal_from step.line line, tt))

pub steps_parts : AreParts 44 text_of_step FitsStep
steps_parts = are_parts 47 44 text_of_step FitsStep (omega arith) step_from

pub steps_from : (steps : List LogStep) → All FitsStep steps → AllFrom 44 (text_of_steps steps)
steps_from [] all = (omega arith, tt)
steps_from (step ∷ steps) all =
    from_join 44 44 (map text_of_step (step ∷ steps)) (omega arith)
    (all_map 44 text_of_step FitsStep (λ one fits. from_weaker 44 47 (text_of_step one) (omega arith) (step_from one fits)) (step ∷ steps) all)

-- origins
kind_from : (kind n : ℕ) → n < 2 ^ 64 → 44 ≤ kind → AllFrom 44 (kind ∷ decimal n)
kind_from kind n small high = (high, from_weaker 44 48 (decimal n) (omega arith) (decimal_from n small))

pub origin_from : (origin : Origin) → FitsOrigin origin → AllFrom 44 (text_of_origin origin)
origin_from (Relation k) fits = kind_from 82 k (omega (arith, fits)) (omega arith)
origin_from (Killed k) fits = kind_from 75 k (omega (arith, fits)) (omega arith)
origin_from (Shortened k) fits = kind_from 83 k (omega (arith, fits)) (omega arith)
origin_from (Overlap i j place) fits =
    let one : i < 2 ^ 64 = omega (arith, fits.0) in
    let two : j < 2 ^ 64 = omega (arith, fits.1) in
    let three : place < 2 ^ 64 = omega (arith, fits.2) in
    let P : (n : ℕ) → n < 2 ^ 64 → AllFrom 44 (decimal n) = λ n small. from_weaker 44 48 (decimal n) (omega arith) (decimal_from n small) in
    (omega arith, from_join 44 44 (decimal i ∷ decimal j ∷ decimal place ∷ []) (omega arith) (P i one, (P j two, (P place three, tt))))

pub overlap_parts : (i j place : ℕ) → FitsOrigin (Overlap i j place)
    → parts 44 (join_with_byte 44 (decimal i ∷ decimal j ∷ decimal place ∷ [])) ≡ decimal i ∷ decimal j ∷ decimal place ∷ []
overlap_parts i j place fits =
    let one : i < 2 ^ 64 = omega (arith, fits.0) in
    let two : j < 2 ^ 64 = omega (arith, fits.1) in
    let three : place < 2 ^ 64 = omega (arith, fits.2) in
    parts_join 48 44 (decimal i) (decimal j ∷ decimal place ∷ []) (omega arith)
    (decimal_from i one, (decimal_from j two, (decimal_from place three, tt)))

-- nothing read
pub reads_none : {T : Type 0} (text : T → List ℕ) (Fits : T → Type 0) (bytes : List ℕ) (found : Option T) → found ≡ None
    → ((value : T) → Fits value → bytes ≢ text value) → Reads text Fits bytes found
reads_none text Fits bytes None e none = none
reads_none text Fits bytes (Some x) e none = absurd cc

pub reads_no_overlap : (bytes : List ℕ) (found : Option Origin) → found ≡ None
    → ((i j place : ℕ) → FitsOrigin (Overlap i j place) → parts 44 bytes ≢ decimal i ∷ decimal j ∷ decimal place ∷ []) → ReadsOverlap bytes found
reads_no_overlap bytes None e none = λ i j place fits is.
    let tail : bytes ≡ join_with_byte 44 (decimal i ∷ decimal j ∷ decimal place ∷ []) = cc in
    none i j place fits (ap (parts 44) tail ∙ overlap_parts i j place fits)
reads_no_overlap bytes (Some x) e none = absurd cc

-- steps

pub no_steps_read : (bytes : List ℕ) (steps : List LogStep) → bytes ≢ 45 ∷ [] → ReadsJoined 44 text_of_step FitsStep bytes None → All FitsStep steps
    → bytes ≢ text_of_steps steps
no_steps_read bytes [] other none all e = other e
no_steps_read bytes (step ∷ steps) other none all e = none step steps all e

-- the text of no steps is that of none only
pub none_printed : (steps : List LogStep) → All FitsStep steps → text_of_steps steps ≡ 45 ∷ [] → steps ≡ []
none_printed [] all e = refl
none_printed (step ∷ steps) all e =
    let are = steps_parts step steps all in
    let one : parts 44 (45 ∷ []) ≡ (45 ∷ []) ∷ [] = alone 45 44 (45 ∷ []) (omega arith) (omega arith, tt) in
    let same : parts 44 (text_of_steps (step ∷ steps)) ≡ parts 44 (45 ∷ []) = ap (parts 44) e in
    let list : map text_of_step (step ∷ steps) ≡ (45 ∷ []) ∷ [] = sym are ∙ (same ∙ one) in
    let head : text_of_step step ≡ 45 ∷ [] = cc in
    let from : AllFrom 47 (45 ∷ []) = (let P : List ℕ → Type 0 = λ l. AllFrom 47 l in subst P head (step_from step (All-head FitsStep step steps all))) in
    absurd (omega (arith, from.0))

pub head_same : (x y : ℕ) (xs ys : List ℕ) → x ∷ xs ≡ y ∷ ys → x ≡ y
head_same x y xs ys e = cc

-- an origin that is printed as a shortened line's is one
pub same_shortening : (one other : Origin) → text_of_origin one ≡ text_of_origin other → IsShortening one → IsShortening other
same_shortening (Relation k) other e h = absurd h
same_shortening (Killed k) other e h = absurd h
same_shortening (Overlap i j place) other e h = absurd h
same_shortening (Shortened k) (Shortened m) e h = tt
same_shortening (Shortened k) (Relation m) e h = absurd (omega (arith, head_same 83 82 (decimal k) (decimal m) e))
same_shortening (Shortened k) (Killed m) e h = absurd (omega (arith, head_same 83 75 (decimal k) (decimal m) e))
same_shortening (Shortened k) (Overlap i j place) e h =
    absurd (omega (arith, head_same 83 77 (decimal k) (join_with_byte 44 (decimal i ∷ decimal j ∷ decimal place ∷ [])) e))
