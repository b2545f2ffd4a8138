-- Longest fronts that begin a number, a string or a value.
use Rattle.std.proofs.Common.{◌≡◌, ℕ, suc, ◌+◌, ◌<◌, ◌≤◌, max, ◌⊎◌, inl, inr, ℤ, pos, List, [], ◌∷◌, ◌++◌, length, take, drop, refl, sym, ap, ◌∙◌, subst, arith, length-append, append_assoc, add-one}
use Rattle.std.specs.List.{AllByRecursion}
use Rattle.std.proofs.lemmas.List.{append-nil, append_cancel_left}
use Rattle.kb_lexing.specs.Token.{Token, name, number, string, rec_word}
use Rattle.kb_lexing.specs.Spelling.{IsDigit, IsName, IsNumber, IsStringByte, Spells, value_after, opposite}
use Rattle.kb_lexing.specs.Lexemes.{BeginsWith, IsLongestFront, IsString, AreFewDigits}
use Rattle.kb_lexing.specs.Possible.{IsExpected, BeginsToken, BeginsExpected}
use Rattle.kb_lexing.specs.declared.place.Expected.TheVariants as variant
use Rattle.kb_lexing.proofs.FirstTokens.{same_head, same_tail}
use Rattle.kb_lexing.proofs.TokenFronts.{one_begins}
use Rattle.kb_lexing.proofs.LastTokens.{dotted_name}
use Rattle.kb_lexing.proofs.ExpectedFronts.{longest_as, longest_either, none_begins, Ended, opened_front, closed_front, ends_at}

-- ---- numbers

all_front : (P : ℕ → Type 0) (front more : List ℕ) → AllByRecursion P (front ++ more) → AllByRecursion P front
all_front P [] more each = tt
all_front P (b ∷ front) more each = (each.0, all_front P front more each.1)

number_spelled : (token : Token) (spelling : List ℕ) → IsExpected variant.Number token → Spells token spelling → (z : ℤ) × IsNumber spelling z
number_spelled (number z) spelling h k = (z, k)
number_spelled _ spelling h k = absurd h

digits_spell : (digits : List ℕ) → AreFewDigits digits → 0 < length digits → Spells (number (pos (value_after 0 digits))) digits
digits_spell digits h some = inl (value_after 0 digits, record { some = some; few = h.1; each = h.0; worth = refl }, refl)

-- digits at the front
pub digits_begin : (bytes : List ℕ) (n : ℕ) → ¬ BeginsWith 45 bytes → IsLongestFront AreFewDigits bytes n → IsLongestFront (BeginsExpected variant.Number) bytes n
digits_begin bytes n other h = record {
  within = h.within;
  formed = formed (take n bytes) h.formed;
  longest = longest;
}
  where
    formed : (front : List ℕ) → AreFewDigits front → BeginsExpected variant.Number front
    formed [] few = inl refl
    formed (b ∷ front) few =
        inr (number (pos (value_after 0 (b ∷ front))), [], tt, subst (λ x. Spells (number (pos (value_after 0 (b ∷ front)))) x) (sym (append-nil (b ∷ front))) (digits_spell (b ∷ front) few (omega arith)))

    longest : (front tail : List ℕ) → BeginsExpected variant.Number front → bytes ≡ front ++ tail → length front ≤ n
    longest [] tail k e = omega arith
    longest (b ∷ front) tail (inl k) e = absurd (let j = k in cc)
    longest (b ∷ front) tail (inr (token, more, is, spelled)) e =
        let spelling = number_spelled token ((b ∷ front) ++ more) is spelled in
        go spelling.0 spelling.1
      where
        go : (z : ℤ) → IsNumber ((b ∷ front) ++ more) z → length (b ∷ front) ≤ n
        go z (inl (value, k, _)) =
            h.longest (b ∷ front) tail (all_front IsDigit (b ∷ front) more k.each, omega (arith, k.few, length-append (b ∷ front) more)) e
        go z (inr (value, digits, k, w, _)) = absurd (other (subst (λ x. BeginsWith 45 x) (sym e) (same_head w)))

-- `-` and digits behind it
pub negative_begins : (b : ℕ) (rest : List ℕ) (n : ℕ) → b ≡ 45 → IsLongestFront AreFewDigits rest n → IsLongestFront (BeginsExpected variant.Number) (b ∷ rest) (n + 1)
negative_begins b rest n at h = rw add-one record {
  within = omega (arith, h.within);
  formed = subst (λ x. BeginsExpected variant.Number (x ∷ take n rest)) (sym at) (formed (take n rest) h.formed);
  longest = longest;
}
  where
    minus : (digits : List ℕ) → AreFewDigits digits → 0 < length digits → Spells (number (opposite (value_after 0 digits))) (45 ∷ digits)
    minus digits k some = inr (value_after 0 digits, digits, record { some = some; few = k.1; each = k.0; worth = refl }, refl, refl)

    formed : (front : List ℕ) → AreFewDigits front → BeginsExpected variant.Number (45 ∷ front)
    formed [] few = inr (number (opposite (value_after 0 (48 ∷ []))), 48 ∷ [], tt, minus (48 ∷ []) (((omega arith, omega arith), tt), omega arith) (omega arith))
    formed (c ∷ front) few =
        inr (number (opposite (value_after 0 (c ∷ front))), [], tt, subst (λ x. Spells (number (opposite (value_after 0 (c ∷ front)))) x) (sym (append-nil (45 ∷ c ∷ front))) (minus (c ∷ front) few (omega arith)))

    longest : (front tail : List ℕ) → BeginsExpected variant.Number front → b ∷ rest ≡ front ++ tail → length front ≤ suc n
    longest [] tail k e = omega arith
    longest (c ∷ front) tail (inl k) e = absurd (let j = k in cc)
    longest (c ∷ front) tail (inr (token, more, is, spelled)) e =
        let spelling = number_spelled token ((c ∷ front) ++ more) is spelled in
        go spelling.0 spelling.1
      where
        go : (z : ℤ) → IsNumber ((c ∷ front) ++ more) z → suc (length front) ≤ suc n
        go z (inl (value, k, _)) = let same = same_head e in absurd (omega (arith, k.each.0))
        go z (inr (value, digits, k, w, _)) =
            let split : digits ≡ front ++ more = sym (same_tail w) in
            let few : AreFewDigits front = (all_front IsDigit front more (subst (λ x. AllByRecursion IsDigit x) split k.each), omega (arith, k.few, ap length split, length-append front more)) in
            omega (arith, h.longest front tail few (same_tail e))

-- ---- strings

string_text : (token : Token) (spelling : List ℕ) → IsString token → Spells token spelling → (text : List ℕ) × (spelling ≡ 34 ∷ (text ++ 34 ∷ [])) × AllByRecursion IsStringByte text
string_text (string text) spelling h k = (text, k.0, k.1)
string_text _ spelling h k = absurd h

string_ended : (b : ℕ) (rest : List ℕ) (n : ℕ) → b ≡ 34 → IsLongestFront (AllByRecursion IsStringByte) rest n → Ended IsString b 34 rest n
string_ended b rest n at h = record {
  within = h.within;
  opened = inr (string (take n rest), 34 ∷ [], tt, (ap (λ x. x ∷ (take n rest ++ 34 ∷ [])) at, h.formed));
  closed = inr (string (take n rest), [], tt, (append-nil (b ∷ (take n rest ++ 34 ∷ [])) ∙ ap (λ x. x ∷ (take n rest ++ 34 ∷ [])) at, h.formed));
  most = most;
}
  where
    whole_text : (text extra more front tail : List ℕ) → AllByRecursion IsStringByte text → front ≡ text ++ extra → extra ++ more ≡ 34 ∷ [] → rest ≡ front ++ tail
        → (suc (length front) ≤ suc n) ⊎ (BeginsWith 34 (drop n rest) × (suc (length front) ≤ suc (suc n)))
    whole_text text [] more front tail each w v e =
        let same : front ≡ text = w ∙ append-nil text in
        inl (omega (arith, h.longest text tail each (e ∙ ap (λ x. x ++ tail) same), ap length same))
    whole_text text (c ∷ extra) more front tail each w v e =
        let none : length extra ≡ 0 = omega (arith, ap length v, length-append (c ∷ extra) more) in
        let closed : front ≡ text ++ 34 ∷ [] = w ∙ ap (λ x. text ++ x) (alone extra none (same_head v)) in
        let split : rest ≡ text ++ 34 ∷ tail = e ∙ ap (λ x. x ++ tail) closed ∙ append_assoc text (34 ∷ []) tail in
        subst (λ x. (suc (length x) ≤ suc n) ⊎ (BeginsWith 34 (drop n rest) × (suc (length x) ≤ suc (suc n)))) (sym closed)
        (ends_at 34 rest text tail n (h.longest text (34 ∷ tail) each split) split)
      where
        alone : (extra : List ℕ) → length extra ≡ 0 → c ≡ 34 → c ∷ extra ≡ 34 ∷ []
        alone [] none at = ap (λ x. x ∷ []) at
        alone (d ∷ extra) none at = absurd (omega arith)

    parts : (text more front tail : List ℕ) → AllByRecursion IsStringByte text → rest ≡ front ++ tail → front ++ more ≡ text ++ 34 ∷ []
        → ((extra : List ℕ) × (front ≡ text ++ extra)) ⊎ ((extra : List ℕ) × (text ≡ front ++ extra))
        → (suc (length front) ≤ suc n) ⊎ (BeginsWith 34 (drop n rest) × (suc (length front) ≤ suc (suc n)))
    parts text more front tail each e w (inl (extra, k)) =
        whole_text text extra more front tail each k
        (append_cancel_left text (extra ++ more) (34 ∷ []) (sym (append_assoc text extra more) ∙ ap (λ x. x ++ more) (sym k) ∙ w)) e
    parts text more front tail each e w (inr (extra, k)) =
        inl (omega (arith, h.longest front tail (all_front IsStringByte front extra (subst (λ x. AllByRecursion IsStringByte x) k each)) e))

    most : (front tail : List ℕ) → BeginsToken IsString front → b ∷ rest ≡ front ++ tail
        → (length front ≤ suc n) ⊎ (BeginsWith 34 (drop n rest) × (length front ≤ suc (suc n)))
    most [] tail k e = inl (omega arith)
    most (c ∷ front) tail (inl k) e = absurd (let j = k in cc)
    most (c ∷ front) tail (inr (token, more, is, spelled)) e =
        let text = string_text token ((c ∷ front) ++ more) is spelled in
        let same : front ++ more ≡ text.0 ++ 34 ∷ [] = same_tail text.1 in
        parts text.0 more front tail text.2 (same_tail e) same (one_begins front text.0 more (34 ∷ []) same)

pub string_opened : (b : ℕ) (rest : List ℕ) (n : ℕ) → b ≡ 34 → IsLongestFront (AllByRecursion IsStringByte) rest n → ¬ BeginsWith 34 (drop n rest) → IsLongestFront (BeginsToken IsString) (b ∷ rest) (n + 1)
string_opened b rest n at h ends = opened_front IsString b 34 rest n (string_ended b rest n at h) ends

pub string_closed : (b : ℕ) (rest : List ℕ) (n : ℕ) → b ≡ 34 → IsLongestFront (AllByRecursion IsStringByte) rest n → BeginsWith 34 (drop n rest) → IsLongestFront (BeginsToken IsString) (b ∷ rest) (n + 2)
string_closed b rest n at h ends = closed_front IsString b 34 rest n (string_ended b rest n at h) ends

pub no_string_begins : (bytes : List ℕ) → ¬ BeginsWith 34 bytes → IsLongestFront (BeginsToken IsString) bytes 0
no_string_begins bytes none = none_begins IsString bytes first
  where
    first : (token : Token) (b : ℕ) (front tail more : List ℕ) → IsString token → Spells token (b ∷ (front ++ more)) → bytes ≡ b ∷ (front ++ tail) → ⊥
    first token b front tail more is spelled e =
        let text = string_text token (b ∷ (front ++ more)) is spelled in
        none (subst (λ x. BeginsWith 34 x) (sym e) (same_head text.1))

-- ---- values

-- what begins a value begins a name, a number or a string
abbrev BeginsSome : List ℕ → Type 0
BeginsSome front = (BeginsExpected variant.Name front ⊎ BeginsExpected variant.Number front) ⊎ BeginsToken IsString front

value_some : (front : List ℕ) → BeginsExpected variant.Value front → BeginsSome front
value_some front (inl none) = inl (inl (inl none))
value_some front (inr (token, more, is, spelled)) = go token is spelled
  where
    go : (token : Token) → IsExpected variant.Value token → Spells token (front ++ more) → BeginsSome front
    go (name text) is spelled = inl (inl (inr (name text, more, tt, spelled)))
    go (number z) is spelled = inl (inr (inr (number z, more, tt, spelled)))
    go (string text) is spelled = inr (inr (string text, more, tt, spelled))
    go rec_word is spelled =
        let is_name : IsName ((front ++ more) ++ 46 ∷ 97 ∷ []) = dotted_name rec_word (front ++ more) 97 spelled tt (inl (inr (inl (omega arith, omega arith)))) in
        inl (inl (inr (name ((front ++ more) ++ 46 ∷ 97 ∷ []), more ++ 46 ∷ 97 ∷ [], tt, (sym (append_assoc front more (46 ∷ 97 ∷ [])), is_name))))
    go _ is spelled = absurd is

some_value : (front : List ℕ) → BeginsSome front → BeginsExpected variant.Value front
some_value front (inl (inl (inl none))) = inl none
some_value front (inl (inl (inr (token, more, is, spelled)))) = go token is spelled
  where
    go : (token : Token) → IsExpected variant.Name token → Spells token (front ++ more) → BeginsExpected variant.Value front
    go (name text) is spelled = inr (name text, more, tt, spelled)
    go _ is spelled = absurd is
some_value front (inl (inr (inl none))) = inl none
some_value front (inl (inr (inr (token, more, is, spelled)))) = go token is spelled
  where
    go : (token : Token) → IsExpected variant.Number token → Spells token (front ++ more) → BeginsExpected variant.Value front
    go (number z) is spelled = inr (number z, more, tt, spelled)
    go _ is spelled = absurd is
some_value front (inr (inl none)) = inl none
some_value front (inr (inr (token, more, is, spelled))) = go token is spelled
  where
    go : (token : Token) → IsString token → Spells token (front ++ more) → BeginsExpected variant.Value front
    go (string text) is spelled = inr (string text, more, tt, spelled)
    go _ is spelled = absurd is

pub value_longest : (bytes : List ℕ) (names numbers strings : ℕ) → IsLongestFront (BeginsExpected variant.Name) bytes names → IsLongestFront (BeginsExpected variant.Number) bytes numbers
    → IsLongestFront (BeginsToken IsString) bytes strings → IsLongestFront (BeginsExpected variant.Value) bytes (max (max names numbers) strings)
value_longest bytes names numbers strings h k j =
    longest_as BeginsSome (BeginsExpected variant.Value) bytes (max (max names numbers) strings) some_value value_some
    (longest_either (λ front. BeginsExpected variant.Name front ⊎ BeginsExpected variant.Number front) (BeginsToken IsString) bytes (max names numbers) strings
    (longest_either (BeginsExpected variant.Name) (BeginsExpected variant.Number) bytes names numbers h k) j)

-- ---- texts with their first byte

pub negative_of : (text : List ℕ) (n : ℕ) → BeginsWith 45 text → IsLongestFront AreFewDigits (drop 1 text) n → IsLongestFront (BeginsExpected variant.Number) text (n + 1)
negative_of [] n at h = absurd at
negative_of (b ∷ rest) n at h = negative_begins b rest n at h

pub string_unclosed : (text : List ℕ) (n : ℕ) → BeginsWith 34 text → IsLongestFront (AllByRecursion IsStringByte) (drop 1 text) n → ¬ BeginsWith 34 (drop n (drop 1 text)) → IsLongestFront (BeginsToken IsString) text (n + 1)
string_unclosed [] n at h ends = absurd at
string_unclosed (b ∷ rest) n at h ends = string_opened b rest n at h ends

pub string_whole : (text : List ℕ) (n : ℕ) → BeginsWith 34 text → IsLongestFront (AllByRecursion IsStringByte) (drop 1 text) n → BeginsWith 34 (drop n (drop 1 text)) → IsLongestFront (BeginsToken IsString) text (n + 2)
string_whole [] n at h ends = absurd at
string_whole (b ∷ rest) n at h ends = string_closed b rest n at h ends
