-- Values with the same text are the same.
use Rattle.std.proofs.Common.{◌≡◌, ◌≢◌, ◌∙◌, ℕ, zero, suc, ◌+◌, ◌^◌, ◌<◌, ◌≤◌, List, [], ◌∷◌, ◌++◌, length, get_or, decimal, refl, sym, ap, subst, append_assoc, arith}
use Rattle.std.specs.Prelude.{All, Contains, IfSome, Option, None, Some, codes, map, slice_get}
use Rattle.std.specs.List.{AllByRecursion, AllZip, join_with_byte}
use Rattle.std.proofs.lemmas.Fmt.{decimal_injective}
use Rattle.std.proofs.lemmas.List.{append_cancel_left}
use Rattle.std.proofs.lemmas.List.Elements.{All-head, All-tail}
use Rattle.std.proofs.lemmas.Option.{slice_get-get_or}
use Rattle.kb_lexing.specs.Spelling.{IsDigit}
use Rattle.kb_word.specs.Names.{AreApart}
use Rattle.kb_word.specs.Printed.{letter_name, text_of_word}
use Rattle.kb_word.specs.Relations.{IsOver}
use Rattle.kb_machine.specs.declared.line.Line.{Line}
use Rattle.kb_machine.specs.declared.line.LogStep.{LogStep}
use Rattle.kb_machine.specs.declared.origin.Origin.{Origin}
use Rattle.kb_machine.specs.declared.origin.Origin.TheVariants.{Relation, Overlap, Killed, Shortened}
use Rattle.kb_proof.specs.Printed.{field_texts, header, text_of_body, text_of_fields, text_of_line, text_of_lines, text_of_log, text_of_open, text_of_origin, text_of_step, text_of_steps, text_of_waiting}
use Rattle.kb_proof.specs.Printable.{AreReadableNames, FitsOrigin, FitsStep, IsPrintable, IsPrintableLine}
use Rattle.kb_proof.specs.Reading.{AllFrom, parts}
use Rattle.kb_proof.specs.Same.{AreSameLines, AreSameLogs, WaitSame}
use Rattle.kb_proof.specs.declared.log.Log.{Log}
use Rattle.kb_proof.specs.declared.log.Version.{Version}
use Rattle.kb_proof.specs.declared.log.Version.TheVariants.{One, Two}
use Rattle.kb_proof.proofs.Bytes.{from_weaker}
use denote.Struct.Props.{props}
use Rattle.kb_proof.proofs.PartLemmas.{alone, same_parts}
use Rattle.kb_proof.proofs.TextLemmas.{IsLetter, decimal_wide, digits_wide, head_same, letter_is_there, name_at, none_printed, overlap_parts, step_parts, steps_parts, word_parts}
use Rattle.kb_proof.proofs.LineLemmas.{LineCut, fields_printed, line_cut, same_fields}

-- origins

wide : (n : ℕ) → n < 2 ^ 32 → n < 2 ^ 64
wide n h = omega arith

tail_decimal : (x m n : ℕ) → m < 2 ^ 32 → n < 2 ^ 32 → x ∷ decimal m ≡ x ∷ decimal n → m ≡ n
tail_decimal x m n a b e = let tail : decimal m ≡ decimal n = cc in decimal_injective m n (wide m a) (wide n b) tail

overlap_same : (i j place i' j' place' : ℕ) → FitsOrigin (Overlap i j place) → FitsOrigin (Overlap i' j' place')
    → text_of_origin (Overlap i j place) ≡ text_of_origin (Overlap i' j' place') → Overlap i j place ≡ Overlap i' j' place'
overlap_same i j place i' j' place' a b e =
    let tail : join_with_byte 44 (decimal i ∷ decimal j ∷ decimal place ∷ []) ≡ join_with_byte 44 (decimal i' ∷ decimal j' ∷ decimal place' ∷ []) = cc in
    let list : decimal i ∷ decimal j ∷ decimal place ∷ [] ≡ decimal i' ∷ decimal j' ∷ decimal place' ∷ [] =
    sym (overlap_parts i j place a) ∙ (ap (parts 44) tail ∙ overlap_parts i' j' place' b) in
    let di : decimal i ≡ decimal i' = cc in
    let dj : decimal j ≡ decimal j' = cc in
    let dp : decimal place ≡ decimal place' = cc in
    let one = decimal_injective i i' (wide i a.0) (wide i' b.0) di in
    let two = decimal_injective j j' (wide j a.1) (wide j' b.1) dj in
    let three = decimal_injective place place' (wide place a.2) (wide place' b.2) dp in
    cc

differ : {A : Type 0} (x y : ℕ) (xs ys : List ℕ) → x ≢ y → x ∷ xs ≡ y ∷ ys → A
differ x y xs ys ne e = absurd (ne (head_same x y xs ys e))

pub origin_same : (one other : Origin) → FitsOrigin one → FitsOrigin other → text_of_origin one ≡ text_of_origin other → one ≡ other
origin_same (Relation k) (Relation m) a b e = ap Relation (tail_decimal 82 k m a b e)
origin_same (Killed k) (Killed m) a b e = ap Killed (tail_decimal 75 k m a b e)
origin_same (Shortened k) (Shortened m) a b e = ap Shortened (tail_decimal 83 k m a b e)
origin_same (Overlap i j place) (Overlap i' j' place') a b e = overlap_same i j place i' j' place' a b e
origin_same (Relation k) (Killed m) a b e = differ 82 75 (decimal k) (decimal m) (λ h. omega (arith, h)) e
origin_same (Relation k) (Shortened m) a b e = differ 82 83 (decimal k) (decimal m) (λ h. omega (arith, h)) e
origin_same (Relation k) (Overlap i j place) a b e =
    differ 82 77 (decimal k) (join_with_byte 44 (decimal i ∷ decimal j ∷ decimal place ∷ [])) (λ h. omega (arith, h)) e
origin_same (Killed k) (Relation m) a b e = differ 75 82 (decimal k) (decimal m) (λ h. omega (arith, h)) e
origin_same (Killed k) (Shortened m) a b e = differ 75 83 (decimal k) (decimal m) (λ h. omega (arith, h)) e
origin_same (Killed k) (Overlap i j place) a b e =
    differ 75 77 (decimal k) (join_with_byte 44 (decimal i ∷ decimal j ∷ decimal place ∷ [])) (λ h. omega (arith, h)) e
origin_same (Shortened k) (Relation m) a b e = differ 83 82 (decimal k) (decimal m) (λ h. omega (arith, h)) e
origin_same (Shortened k) (Killed m) a b e = differ 83 75 (decimal k) (decimal m) (λ h. omega (arith, h)) e
origin_same (Shortened k) (Overlap i j place) a b e =
    differ 83 77 (decimal k) (join_with_byte 44 (decimal i ∷ decimal j ∷ decimal place ∷ [])) (λ h. omega (arith, h)) e
origin_same (Overlap i j place) (Relation m) a b e =
    differ 77 82 (join_with_byte 44 (decimal i ∷ decimal j ∷ decimal place ∷ [])) (decimal m) (λ h. omega (arith, h)) e
origin_same (Overlap i j place) (Killed m) a b e =
    differ 77 75 (join_with_byte 44 (decimal i ∷ decimal j ∷ decimal place ∷ [])) (decimal m) (λ h. omega (arith, h)) e
origin_same (Overlap i j place) (Shortened m) a b e =
    differ 77 83 (join_with_byte 44 (decimal i ∷ decimal j ∷ decimal place ∷ [])) (decimal m) (λ h. omega (arith, h)) e

-- steps

step_of : (one other : LogStep) → one.place ≡ other.place → one.line ≡ other.line → one ≡ other
step_of one other p l =
    let f : (n : ℕ) → n < 2 ^ 32 → LogStep = λ n fits. record { place = n; line = one.line; fits = fits } in
    let g : ℕ → LogStep = λ n. record { place = other.place; line = n; fits = other.fits } in
    let once : IsProp (one.place < 2 ^ 32) = hlevel props in
    let P : ℕ → Type 0 = λ n. (fits : n < 2 ^ 32) → f one.place one.fits ≡ f n fits in
    subst P p (λ fits. ap (f one.place) (once one.fits fits)) other.fits ∙ ap g l

pub step_same : (one other : LogStep) → FitsStep one → FitsStep other → text_of_step one ≡ text_of_step other → one ≡ other
step_same one other a b e =
    let list : decimal one.place ∷ decimal one.line ∷ [] ≡ decimal other.place ∷ decimal other.line ∷ [] =
    sym (step_parts one a) ∙ (ap (parts 47) e ∙ step_parts other b) in
    let dp : decimal one.place ≡ decimal other.place = cc in
    let dl : decimal one.line ≡ decimal other.line = cc in
    let place = decimal_injective one.place other.place (wide one.place a.place) (wide other.place b.place) dp in
    let line = decimal_injective one.line other.line (wide one.line a.line) (wide other.line b.line) dl in
    step_of one other place line

-- lists with the same texts are the same where each text is of one value
map_same : {T : Type 0} (text : T → List ℕ) (Fits : T → Type 0) → ((x y : T) → Fits x → Fits y → text x ≡ text y → x ≡ y)
    → (xs ys : List T) → All Fits xs → All Fits ys → map text xs ≡ map text ys → xs ≡ ys
map_same text Fits each [] [] a b e = refl
map_same text Fits each [] (y ∷ ys) a b e = absurd cc
map_same text Fits each (x ∷ xs) [] a b e = absurd cc
map_same text Fits each (x ∷ xs) (y ∷ ys) a b e =
    let head : text x ≡ text y = cc in
    let tail : map text xs ≡ map text ys = cc in
    let one = each x y (All-head Fits x xs a) (All-head Fits y ys b) head in
    let rest = map_same text Fits each xs ys (All-tail Fits x xs a) (All-tail Fits y ys b) tail in
    cc

pub steps_same : (one other : List LogStep) → All FitsStep one → All FitsStep other → text_of_steps one ≡ text_of_steps other → one ≡ other
steps_same [] other a b e = sym (none_printed other b (sym e))
steps_same (x ∷ xs) [] a b e = none_printed (x ∷ xs) a e
steps_same (x ∷ xs) (y ∷ ys) a b e =
    map_same text_of_step FitsStep step_same (x ∷ xs) (y ∷ ys) a b (sym (steps_parts x xs a) ∙ (ap (parts 44) e ∙ steps_parts y ys b))

-- words

pub letter_same : (names : List (List ℕ)) (x y : ℕ) → AreApart names → IsLetter (length names) x → IsLetter (length names) y
    → letter_name names x ≡ letter_name names y → x ≡ y
letter_same names zero y apart a b e = absurd (omega (arith, a.0))
letter_same names (suc x) zero apart a b e = absurd (omega (arith, b.0))
letter_same names (suc x) (suc y) apart a b e =
    let one : slice_get names x ≡ Some (get_or names x []) = slice_get-get_or names x [] (omega (arith, a.1)) in
    let two : slice_get names y ≡ Some (get_or names y []) = slice_get-get_or names y [] (omega (arith, b.1)) in
    let names_same : get_or names y [] ≡ get_or names x [] = sym (name_at names y) ∙ (sym e ∙ name_at names x) in
    ap suc (apart x y (get_or names x []) one (two ∙ ap (λ n. Some n) names_same))

id_word : (names : List (List ℕ)) (x : ℕ) (w : List ℕ) → AreReadableNames names → IsOver (length names) (x ∷ w)
    → codes "IdWord" ≢ text_of_word names (x ∷ w)
id_word names x w are over e =
    let one : parts 42 (codes "IdWord") ≡ codes "IdWord" ∷ [] =
    alone 43 42 (codes "IdWord") (omega arith) (omega arith, (omega arith, (omega arith, (omega arith, (omega arith, (omega arith, tt)))))) in
    let list : map (letter_name names) (x ∷ w) ≡ codes "IdWord" ∷ [] = sym (word_parts names are x w over) ∙ (sym (ap (parts 42) e) ∙ one) in
    let head : letter_name names x ≡ codes "IdWord" = cc in
    let P : List ℕ → Type 0 = λ l. Contains names l in
    are.free (subst P head (letter_is_there names x (All-head (IsLetter (length names)) x w over)))

pub word_same : (names : List (List ℕ)) (u v : List ℕ) → AreReadableNames names → AreApart names → IsOver (length names) u → IsOver (length names) v
    → text_of_word names u ≡ text_of_word names v → u ≡ v
word_same names [] [] are apart a b e = refl
word_same names [] (y ∷ v) are apart a b e = absurd (id_word names y v are b e)
word_same names (x ∷ u) [] are apart a b e = absurd (id_word names x u are a (sym e))
word_same names (x ∷ u) (y ∷ v) are apart a b e =
    map_same (letter_name names) (IsLetter (length names)) (λ s t h k. letter_same names s t apart h k) (x ∷ u) (y ∷ v) a b
    (sym (word_parts names are x u a) ∙ (ap (parts 42) e ∙ word_parts names are y v b))

-- lines

pub fields_same : (version : Version) (names : List (List ℕ)) (sign : List ℕ) (one other : Line) → AreReadableNames names → AreApart names → AllFrom 33 sign
    → IsPrintableLine version names one → IsPrintableLine version names other
    → text_of_fields version names sign one ≡ text_of_fields version names sign other → AreSameLines one other
fields_same version names sign one other are apart s a b e =
    let bytes = text_of_fields version names sign one in
    let texts = same_fields version names sign bytes (field_texts names one) other (fields_printed version names sign bytes one are s a refl)
    (fields_printed version names sign bytes other are s b e) in record {
      origin = origin_same one.origin other.origin a.fits.origin b.fits.origin texts.origin;
      left = word_same names one.left other.left are apart a.fits.left b.fits.left texts.left;
      right = word_same names one.right other.right are apart a.fits.right b.fits.right texts.right;
      first_steps = steps_same one.first_steps.items other.first_steps.items a.fits.first_steps b.fits.first_steps texts.first;
      second_steps = steps_same one.second_steps.items other.second_steps.items a.fits.second_steps b.fits.second_steps texts.second;
    }

-- two lines at the front of the same bytes
pub record SameFront (version : Version) (names : List (List ℕ)) (sign first sign' first' : List ℕ) (line : Line) (rest : List ℕ) (line' : Line) (rest' : List ℕ) : Type 0 where
  pub first_same : first ≡ first'
  pub fields : text_of_fields version names sign line ≡ text_of_fields version names sign' line'
  pub rest_same : rest ≡ rest'

pub front_same : (version : Version) (names : List (List ℕ)) (sign first sign' first' bytes : List ℕ) (line : Line) (rest : List ℕ) (line' : Line) (rest' : List ℕ)
    → LineCut version names sign first bytes line rest → LineCut version names sign' first' bytes line' rest'
    → SameFront version names sign first sign' first' line rest line' rest'
front_same version names sign first sign' first' bytes line rest line' rest' a b =
    let one = a.bytes_parts in
    let two = b.bytes_parts in
    let text : a.text ≡ b.text = cc in
    let others : parts 10 rest ≡ parts 10 rest' = cc in
    let list = sym a.text_parts ∙ (ap (parts 32) text ∙ b.text_parts) in
    let head : first ≡ first' = cc in
    let tail : parts 32 (text_of_fields version names sign line) ≡ parts 32 (text_of_fields version names sign' line') = cc in record {
      first_same = head;
      fields = same_parts 32 (text_of_fields version names sign line) (text_of_fields version names sign' line') tail;
      rest_same = same_parts 10 rest rest' others;
    }

-- a number is not the word `open`
pub not_open : (k : ℕ) → k ≤ 2 ^ 64 → codes "open" ≢ decimal k
not_open k small e =
    let P : List ℕ → Type 0 = λ l. AllByRecursion IsDigit l in
    let digits : AllByRecursion IsDigit (codes "open") = subst P (sym e) (digits_wide k small) in
    omega (arith, digits.0)

pub no_line : (text rest : List ℕ) → [] ≢ text ++ 10 ∷ rest
no_line [] rest e = absurd cc
no_line (b ∷ text) rest e = absurd cc

pub numbered_cut : (version : Version) (names : List (List ℕ)) (k : ℕ) (bytes : List ℕ) (line : Line) (rest : List ℕ) → AreReadableNames names → k ≤ 2 ^ 64
    → IsPrintableLine version names line → bytes ≡ text_of_line version names k line ++ 10 ∷ rest → LineCut version names (codes "->") (decimal k) bytes line rest
numbered_cut version names k bytes line rest are small h e =
    line_cut version names (codes "->") (decimal k) bytes line rest are h.fits (omega arith, (omega arith, tt))
    (from_weaker 33 48 (decimal k) (omega arith) (decimal_wide k small)) e

pub open_cut : (version : Version) (names : List (List ℕ)) (bytes : List ℕ) (line : Line) (rest : List ℕ) → AreReadableNames names
    → IsPrintableLine version names line → bytes ≡ text_of_open version names line ++ 10 ∷ rest → LineCut version names (codes "<>") (codes "open") bytes line rest
open_cut version names bytes line rest are h e =
    line_cut version names (codes "<>") (codes "open") bytes line rest are h.fits (omega arith, (omega arith, tt))
    (omega arith, (omega arith, (omega arith, (omega arith, tt)))) e

waiting_same : (version : Version) (names : List (List ℕ)) (v w : Option Line) → AreReadableNames names → AreApart names → IfSome v (IsPrintableLine version names)
    → IfSome w (IsPrintableLine version names) → text_of_waiting version names v ≡ text_of_waiting version names w → WaitSame v w
waiting_same version names None None are apart a b e = tt
waiting_same version names None (Some w) are apart a b e = absurd (no_line (text_of_open version names w) [] e)
waiting_same version names (Some v) None are apart a b e = absurd (no_line (text_of_open version names v) [] (sym e))
waiting_same version names (Some v) (Some w) are apart a b e =
    let bytes = text_of_open version names v ++ 10 ∷ [] in
    let same = front_same version names (codes "<>") (codes "open") (codes "<>") (codes "open") bytes v [] w []
    (open_cut version names bytes v [] are a refl) (open_cut version names bytes w [] are b e) in
    fields_same version names (codes "<>") v w are apart (omega arith, (omega arith, tt)) a b same.fields

-- no numbered line stands where a pair waits or nothing
pub not_waiting : (version : Version) (names : List (List ℕ)) (v : Option Line) (k : ℕ) (line : Line) (rest : List ℕ) → AreReadableNames names → k ≤ 2 ^ 64
    → IfSome v (IsPrintableLine version names) → IsPrintableLine version names line → text_of_waiting version names v ≢ text_of_line version names k line ++ 10 ∷ rest
not_waiting version names None k line rest are small a b e = no_line (text_of_line version names k line) rest e
not_waiting version names (Some v) k line rest are small a b e =
    let bytes = text_of_open version names v ++ 10 ∷ [] in
    let same = front_same version names (codes "<>") (codes "open") (codes "->") (decimal k) bytes v [] line rest
    (open_cut version names bytes v [] are a refl) (numbered_cut version names k bytes line rest are small b e) in
    not_open k small same.first_same

pub record SameBodies (xs ys : List Line) (v w : Option Line) : Type 0 where
  pub lines : AllZip AreSameLines xs ys
  pub waiting : WaitSame v w

bodies_same : (version : Version) (names : List (List ℕ)) (k : ℕ) (xs ys : List Line) (v w : Option Line) → AreReadableNames names → AreApart names
    → All (IsPrintableLine version names) xs → All (IsPrintableLine version names) ys → IfSome v (IsPrintableLine version names)
    → IfSome w (IsPrintableLine version names) → k + length xs ≤ 2 ^ 64 → k + length ys ≤ 2 ^ 64
    → text_of_lines version names k xs ++ text_of_waiting version names v ≡ text_of_lines version names k ys ++ text_of_waiting version names w
    → SameBodies xs ys v w
bodies_same version names k [] [] v w are apart a b p q m n e = record { lines = tt; waiting = waiting_same version names v w are apart p q e }
bodies_same version names k [] (y ∷ ys) v w are apart a b p q m n e =
    let small : k ≤ 2 ^ 64 = omega arith in
    absurd (not_waiting version names v k y (text_of_lines version names (k + 1) ys ++ text_of_waiting version names w) are small p
    (All-head (IsPrintableLine version names) y ys b)
    (e ∙ append_assoc (text_of_line version names k y) (10 ∷ text_of_lines version names (k + 1) ys) (text_of_waiting version names w)))
bodies_same version names k (x ∷ xs) [] v w are apart a b p q m n e =
    let small : k ≤ 2 ^ 64 = omega arith in
    absurd (not_waiting version names w k x (text_of_lines version names (k + 1) xs ++ text_of_waiting version names v) are small q
    (All-head (IsPrintableLine version names) x xs a)
    (sym e ∙ append_assoc (text_of_line version names k x) (10 ∷ text_of_lines version names (k + 1) xs) (text_of_waiting version names v)))
bodies_same version names k (x ∷ xs) (y ∷ ys) v w are apart a b p q m n e =
    let small : k ≤ 2 ^ 64 = omega arith in
    let one = text_of_lines version names (k + 1) xs ++ text_of_waiting version names v in
    let two = text_of_lines version names (k + 1) ys ++ text_of_waiting version names w in
    let bytes = text_of_line version names k x ++ 10 ∷ one in
    let px = All-head (IsPrintableLine version names) x xs a in
    let py = All-head (IsPrintableLine version names) y ys b in
    let again : text_of_line version names k x ++ 10 ∷ one ≡ text_of_line version names k y ++ 10 ∷ two =
    sym (append_assoc (text_of_line version names k x) (10 ∷ text_of_lines version names (k + 1) xs) (text_of_waiting version names v))
    ∙ (e ∙ append_assoc (text_of_line version names k y) (10 ∷ text_of_lines version names (k + 1) ys) (text_of_waiting version names w)) in
    let same = front_same version names (codes "->") (decimal k) (codes "->") (decimal k) bytes x one y two
    (numbered_cut version names k bytes x one are small px refl) (numbered_cut version names k bytes y two are small py again) in
    let rest = bodies_same version names (k + 1) xs ys v w are apart (All-tail (IsPrintableLine version names) x xs a)
    (All-tail (IsPrintableLine version names) y ys b) p q (omega arith) (omega arith) same.rest_same in record {
      lines = (fields_same version names (codes "->") x y are apart (omega arith, (omega arith, tt)) px py same.fields, rest.lines);
      waiting = rest.waiting;
    }

pub version_same : (one other : Version) (xs ys : List ℕ) → header one ++ xs ≡ header other ++ ys → one ≡ other
version_same One One xs ys e = refl
version_same Two Two xs ys e = refl
version_same One Two xs ys e = let rest : 49 ∷ 10 ∷ xs ≡ 50 ∷ 10 ∷ ys = cc in differ 49 50 (10 ∷ xs) (10 ∷ ys) (λ h. omega (arith, h)) rest
version_same Two One xs ys e = let rest : 50 ∷ 10 ∷ xs ≡ 49 ∷ 10 ∷ ys = cc in differ 50 49 (10 ∷ xs) (10 ∷ ys) (λ h. omega (arith, h)) rest

-- printable lines, and a pair that waits, with the text of a log are those of the log
pub log_same : (names : List (List ℕ)) (version : Version) (lines : List Line) (waiting : Option Line) (other : Log) → AreReadableNames names → AreApart names
    → All (IsPrintableLine version names) lines → IfSome waiting (IsPrintableLine version names) → length lines < 2 ^ 64 → IsPrintable names other
    → header version ++ text_of_body version names lines waiting ≡ text_of_log names other
    → (version ≡ other.version) × SameBodies lines other.lines.items waiting other.waiting
log_same names version lines waiting other are apart a p few b e =
    let body = text_of_body version names lines waiting in
    let same : version ≡ other.version =
    version_same version other.version body (text_of_body other.version names other.lines.items other.waiting) e in
    let again : header version ++ body ≡ header version ++ text_of_body version names other.lines.items other.waiting =
    e ∙ ap (λ v. header v ++ text_of_body v names other.lines.items other.waiting) (sym same) in
    let P : Version → Type 0 = λ v. All (IsPrintableLine v names) other.lines.items in
    let Q : Version → Type 0 = λ v. IfSome other.waiting (IsPrintableLine v names) in (
      same,
      bodies_same version names 1 lines other.lines.items waiting other.waiting are apart a
          (subst P (sym same) b.lines) p (subst Q (sym same) b.waiting) (omega (arith, few)) (omega (arith, b.few))
          (append_cancel_left (header version) body (text_of_body version names other.lines.items other.waiting) again),
    )

-- two printable logs with one text are the same
pub logs_same : (names : List (List ℕ)) (one other : Log) → AreReadableNames names → AreApart names → IsPrintable names one → IsPrintable names other
    → text_of_log names one ≡ text_of_log names other → AreSameLogs one other
logs_same names one other are apart a b e =
    let same = log_same names one.version one.lines.items one.waiting other are apart a.lines a.waiting a.few b e in record {
      version = same.0;
      lines = same.1.lines;
      waiting = same.1.waiting;
    }
