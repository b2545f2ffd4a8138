-- Bytes cut into parts, and the parts joined again.
use Rattle.std.proofs.Common.{◌≡◌, ◌≢◌, ◌∙◌, ℕ, zero, suc, drop-cons, ◌+◌, ◌<◌, ◌≤◌, Bool, true, false, eqb, ne_eqb, eq-eqb, List, [], ◌∷◌, ◌++◌, length, take, drop, get_or, refl, sym, ap, subst, append_assoc, arith}
use Rattle.std.specs.Prelude.{map, All, Option, Some, None, IfNone, Result, Ok, Err, OnOk, IfOk}
use Rattle.std.specs.List.{AllByRecursion, join_with_byte, onto_first}
use Rattle.std.proofs.lemmas.List.{map-append, take-append-drop}
use Rattle.std.proofs.Math.Seq.{take-length}
use Rattle.std.proofs.lemmas.List.Elements.{All-head, All-tail, All-push, All-from_recursion}
use Rattle.std.proofs.lemmas.List.Splits.{slice_split_none, slice_split_at, join_with_byte-slice_split, slice_split-cons_yes, slice_split-cons_no}
use Rattle.kb_proof.specs.Reading.{AllFrom, CutAt, ReadsJoined, parts}
use Rattle.kb_proof.proofs.Bytes.{none_below, all_map}

-- bytes with no separator in them are one part
pub alone : (k c : ℕ) (xs : List ℕ) → c < k → AllFrom k xs → parts c xs ≡ xs ∷ []
alone k c xs low h = slice_split_none (λ b. eqb b c) xs (All-from_recursion (λ b. eqb b c ≡ false) xs (none_below k c xs low h))

-- the first part ends at the first separator
pub first_part : (k c : ℕ) (xs ys : List ℕ) → c < k → AllFrom k xs → parts c (xs ++ c ∷ ys) ≡ xs ∷ parts c ys
first_part k c xs ys low h =
    slice_split_at (λ b. eqb b c) xs c ys (All-from_recursion (λ b. eqb b c ≡ false) xs (none_below k c xs low h)) (eq-eqb c c refl)

pub parts_join : (k c : ℕ) (x : List ℕ) (xs : List (List ℕ)) → c < k → AllByRecursion (AllFrom k) (x ∷ xs)
    → parts c (join_with_byte c (x ∷ xs)) ≡ x ∷ xs
parts_join k c x [] low h = alone k c x low h.0
parts_join k c x (y ∷ ys) low h =
    first_part k c x (join_with_byte c (y ∷ ys)) low h.0 ∙ ap (λ (l : List (List ℕ)). x ∷ l) (parts_join k c y ys low h.1)

pub join_parts : (c : ℕ) (bytes : List ℕ) → join_with_byte c (parts c bytes) ≡ bytes
join_parts c bytes = join_with_byte-slice_split c bytes

-- bytes with the same parts are the same
pub same_parts : (c : ℕ) (xs ys : List ℕ) → parts c xs ≡ parts c ys → xs ≡ ys
same_parts c xs ys e = sym (join_parts c xs) ∙ (ap (join_with_byte c) e ∙ join_parts c ys)

-- the bytes are their one part
pub one_part : (c : ℕ) (xs x : List ℕ) → parts c xs ≡ x ∷ [] → xs ≡ x
one_part c xs x e = sym (join_parts c xs) ∙ ap (join_with_byte c) e

onto_some : (x : ℕ) (list : List (List ℕ)) → onto_first x list ≢ []
onto_some x [] e = absurd cc
onto_some x (y ∷ list) e = absurd cc

some_by : (c x : ℕ) (xs : List ℕ) (b : Bool) → eqb x c ≡ b → parts c (x ∷ xs) ≢ []
some_by c x xs true is e = let one = slice_split-cons_yes (λ y. eqb y c) x xs is in absurd cc
some_by c x xs false is e =
    let one = slice_split-cons_no (λ y. eqb y c) x xs is in
    onto_some x (parts c xs) (sym one ∙ e)

pub parts_some : (c : ℕ) (xs : List ℕ) → parts c xs ≢ []
parts_some c [] e = absurd cc
parts_some c (x ∷ xs) e = some_by c x xs (eqb x c) refl e

-- a cut at the first place of the byte
before_none : (c : ℕ) (bytes : List ℕ) (n : ℕ) → ((k : ℕ) → k < n → get_or bytes k 0 ≢ c) → n ≤ length bytes
    → AllByRecursion (λ b. eqb b c ≡ false) (take n bytes)
before_none c bytes zero none within = tt
before_none c [] (suc n) none within = tt
before_none c (b ∷ bytes) (suc n) none within =
    (ne_eqb b c (none 0 (omega arith)), before_none c bytes n (λ k h. none (suc k) (omega arith)) (omega arith))

pub no_place : (c : ℕ) (bytes : List ℕ) → ((k : ℕ) → k < length bytes → get_or bytes k 0 ≢ c) → parts c bytes ≡ bytes ∷ []
no_place c bytes none =
    let all = before_none c bytes (length bytes) none (omega arith) in
    let P : List ℕ → Type 0 = λ l. AllByRecursion (λ b. eqb b c ≡ false) l in
    slice_split_none (λ b. eqb b c) bytes (All-from_recursion (λ b. eqb b c ≡ false) bytes (subst P (take-length bytes) all))

whole_there : (c : ℕ) (bytes back : List ℕ) (n : ℕ) → n < length bytes → get_or bytes n 0 ≡ c → back ≡ drop (n + 1) bytes → bytes ≡ take n bytes ++ c ∷ back
whole_there c bytes back n within at is =
    let one : suc n ≡ n + 1 = omega arith in
    let rest : drop n bytes ≡ c ∷ back = drop-cons bytes n 0 within
    ∙ (ap (λ b. b ∷ drop (suc n) bytes) at ∙ ap (λ l. c ∷ l) (ap (λ m. drop m bytes) one ∙ sym is)) in
    sym (take-append-drop n bytes) ∙ ap (λ l. take n bytes ++ l) rest

pub cut_there : (c : ℕ) (bytes back : List ℕ) (n : ℕ) → n < length bytes → get_or bytes n 0 ≡ c → ((k : ℕ) → k < n → get_or bytes k 0 ≢ c)
    → back ≡ drop (n + 1) bytes → CutAt c bytes (take n bytes) back
cut_there c bytes back n within at none is =
    let split : bytes ≡ take n bytes ++ c ∷ back = whole_there c bytes back n within at is in
    let before = All-from_recursion (λ b. eqb b c ≡ false) (take n bytes) (before_none c bytes n none (omega arith)) in record {
      whole = split;
      first = ap (parts c) split ∙ slice_split_at (λ b. eqb b c) (take n bytes) c back before (eq-eqb c c refl);
      alone = slice_split_none (λ b. eqb b c) (take n bytes) before;
    }

-- values were read of the bytes in front of the rest, which their texts make up with separators between them
pub record Parted {T : Type 0} (c : ℕ) (text : T → List ℕ) (Fits : T → Type 0) (bytes : List ℕ) (so_far : List T) (rest : List ℕ) : Type 0 where
  pub whole : parts c bytes ≡ map text so_far ++ parts c rest
  pub fits : All Fits so_far

pub parted_more : {T : Type 0} (c : ℕ) (text : T → List ℕ) (Fits : T → Type 0) (bytes : List ℕ) (so_far : List T) (rest front back : List ℕ) (x : T)
    → Parted c text Fits bytes so_far rest → CutAt c rest front back → front ≡ text x → Fits x → Parted c text Fits bytes (so_far ++ x ∷ []) back
parted_more c text Fits bytes so_far rest front back x here cut is fits = record {
  whole = here.whole ∙ (ap (λ l. map text so_far ++ l) (cut.first ∙ ap (λ f. f ∷ parts c back) is)
      ∙ (sym (append_assoc (map text so_far) (text x ∷ []) (parts c back))
      ∙ ap (λ l. l ++ parts c back) (sym (map-append text so_far (x ∷ [])))));
  fits = All-push Fits so_far x here.fits fits;
}

-- a part that is no value's text stands among no values' texts
no_element : {T : Type 0} (text : T → List ℕ) (Fits : T → Type 0) (front : List ℕ) → ((x : T) → Fits x → front ≢ text x) → (values : List T)
    (before after : List (List ℕ)) → All Fits values → map text values ≢ before ++ front ∷ after
no_element text Fits front none [] [] after all e = absurd cc
no_element text Fits front none [] (b ∷ before) after all e = absurd cc
no_element text Fits front none (x ∷ xs) [] after all e = let same : front ≡ text x = cc in none x (All-head Fits x xs all) same
no_element text Fits front none (x ∷ xs) (b ∷ before) after all e =
    let rest : map text xs ≡ before ++ front ∷ after = cc in
    no_element text Fits front none xs before after (All-tail Fits x xs all) rest

-- what is joined has the texts as its parts
abbrev pub AreParts : {T : Type 0} → ℕ → (T → List ℕ) → (T → Type 0) → Type 0
AreParts {T} c text Fits = (x : T) (xs : List T) → All Fits (x ∷ xs) → parts c (join_with_byte c (map text (x ∷ xs))) ≡ map text (x ∷ xs)

-- it is enough that the texts have bytes above the separator only
pub are_parts : {T : Type 0} (k c : ℕ) (text : T → List ℕ) (Fits : T → Type 0) → c < k → ((value : T) → Fits value → AllFrom k (text value))
    → AreParts c text Fits
are_parts k c text Fits low each x xs all = parts_join k c (text x) (map text xs) low (all_map k text Fits each (x ∷ xs) all)

pub parted_stuck : {T : Type 0} (c : ℕ) (text : T → List ℕ) (Fits : T → Type 0) (bytes : List ℕ) (so_far : List T) (rest front : List ℕ)
    (others : List (List ℕ)) → Parted c text Fits bytes so_far rest → parts c rest ≡ front ∷ others → ((x : T) → Fits x → front ≢ text x)
    → AreParts c text Fits → ReadsJoined c text Fits bytes None
parted_stuck c text Fits bytes so_far rest front others here cut none are x xs all e =
    no_element text Fits front none (x ∷ xs) (map text so_far) others all
    (sym (are x xs all) ∙ (sym (ap (parts c) e) ∙ (here.whole ∙ ap (λ l. map text so_far ++ l) cut)))

push_some : {T : Type 0} (xs : List T) (x : T) → xs ++ x ∷ [] ≢ []
push_some [] x e = absurd cc
push_some (y ∷ xs) x e = absurd cc

pub parted_end : {T : Type 0} (c : ℕ) (text : T → List ℕ) (Fits : T → Type 0) (bytes : List ℕ) (so_far : List T) (rest : List ℕ) (x : T)
    → Parted c text Fits bytes so_far rest → parts c rest ≡ rest ∷ [] → rest ≡ text x → Fits x → ReadsJoined c text Fits bytes (Some (so_far ++ x ∷ []))
parted_end c text Fits bytes so_far rest x here last is fits = (
  sym (join_parts c bytes) ∙ ap (join_with_byte c) (here.whole ∙ (ap (λ l. map text so_far ++ l) (last ∙ ap (λ r. r ∷ []) is)
      ∙ sym (map-append text so_far (x ∷ [])))),
  All-push Fits so_far x here.fits fits,
  push_some so_far x,
)

-- what holds where there is nothing
pub if_none : {T : Type 0} {P : Type 0} (found : Option T) → P → IfNone found P
if_none None p = p
if_none (Some x) p = tt

pub if_ok : {T E : Type 0} (P Q : T → Type 0) (answer : Result T E) → IfOk answer P → ((x : T) → P x → Q x) → IfOk answer Q
if_ok P Q (Ok x) p then = then x p
if_ok P Q (Err e) p then = tt

pub on_ok : {T E : Type 0} (P Q : Type 0) (answer : Result T E) → OnOk answer P → (P → Q) → OnOk answer Q
on_ok P Q (Ok x) p then = then p
on_ok P Q (Err e) p then = tt
