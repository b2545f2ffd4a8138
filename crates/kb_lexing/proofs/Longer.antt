-- When a spelling goes on with what stands behind it, and when a token stays the first with another text behind it.
use Rattle.std.proofs.Common.{◌≡◌, ◌≢◌, ℕ, suc, ◌<◌, ◌≤◌, ◌⊎◌, inl, inr, pos, List, [], ◌∷◌, ◌++◌, length, refl, sym, ap, ◌∙◌, subst, arith, length-append, append_assoc}
use Rattle.std.specs.Prelude.{codes}
use Rattle.std.specs.List.{AllByRecursion}
use Rattle.std.proofs.lemmas.List.{append_cancel_left}
use Rattle.kb_lexing.specs.Token.{Token, name, number, string, assign, open_round, close_round, open_square, close_square, comma, semicolon, star, caret, dots, rec_word}
use Rattle.kb_lexing.specs.Spelling.{IsDigit, IsNameByte, BeginsNames, BeginsWithNameByte, GoesOnAsName, IsName, Spells, FirstToken, value_after, opposite}
use Rattle.kb_lexing.specs.Lexemes.{GoesOnAt}
use Rattle.kb_lexing.proofs.FirstTokens.{IsSingle, Kind, word, digits, negative, quoted, assigns, ranges, single, kind_of, word_only, digits_only, negative_only, quoted_only, spells_some, same_head, same_tail}
use Rattle.kb_lexing.proofs.Begun.{same_decided, single_only, colon_only, dot_only}
use Rattle.kb_lexing.proofs.TokenFronts.{one_begins, one_close}

-- a name or `rec`
abbrev pub IsWord : Token → Type 0
IsWord (name text) = Unit {0}
IsWord rec_word = Unit {0}
IsWord _ = ⊥

abbrev pub IsNumeral : Token → Type 0
IsNumeral (number z) = Unit {0}
IsNumeral _ = ⊥

abbrev pub BeginsWithDigit : List ℕ → Type 0
BeginsWithDigit [] = ⊥
BeginsWithDigit (b ∷ bytes) = IsDigit b

-- ---- tokens by the first byte of their spelling

data Class (token : Token) (b : ℕ) : Type 0 where
  a_word : IsWord token → BeginsNames b → Class token b
  a_numeral : IsNumeral token → IsDigit b ⊎ (b ≡ 45) → Class token b
  another : (b ≡ 34) ⊎ ((b ≡ 58) ⊎ ((b ≡ 46) ⊎ IsSingle b)) → Class token b

of_name : (token : Token) (b : ℕ) (more text : List ℕ) → IsWord token → b ∷ more ≡ text → IsName text → Class token b
of_name token b more [] one e h = absurd h
of_name token b more (c ∷ text) one e h = a_word one (subst (λ x. BeginsNames x) (sym (same_head e)) h.0)

class_of : (token : Token) (b : ℕ) (more : List ℕ) → Spells token (b ∷ more) → Class token b
class_of (name text) b more h = of_name (name text) b more text tt h.0 h.1
class_of (number z) b more (inl h) = a_numeral tt (inl h.1.each.0)
class_of (number z) b more (inr h) = a_numeral tt (inr (same_head h.3))
class_of (string text) b more h = another (inl (same_head h.0))
class_of assign b more h = another (inr (inl (same_head h)))
class_of open_round b more h = another (inr (inr (inr (inl (same_head h)))))
class_of close_round b more h = another (inr (inr (inr (inr (inl (same_head h))))))
class_of open_square b more h = another (inr (inr (inr (inr (inr (inl (same_head h)))))))
class_of close_square b more h = another (inr (inr (inr (inr (inr (inr (inl (same_head h))))))))
class_of comma b more h = another (inr (inr (inr (inr (inr (inr (inr (inl (same_head h)))))))))
class_of semicolon b more h = another (inr (inr (inr (inr (inr (inr (inr (inr (inl (same_head h))))))))))
class_of star b more h = another (inr (inr (inr (inr (inr (inr (inr (inr (inr (inl (same_head h)))))))))))
class_of caret b more h = another (inr (inr (inr (inr (inr (inr (inr (inr (inr (inr (same_head h)))))))))))
class_of dots b more h = another (inr (inr (inl (same_head h))))
class_of rec_word b more h = a_word tt (inr (inl (let e = same_head h in omega arith)))

pub is_word : (token : Token) (b : ℕ) (more : List ℕ) → BeginsNames b → Spells token (b ∷ more) → IsWord token
is_word token b more at h = go (class_of token b more h)
  where
    go : Class token b → IsWord token
    go (a_word one _) = one
    go (a_numeral _ other) = absurd (omega arith)
    go (another other) = absurd (omega arith)

is_numeral : (token : Token) (b : ℕ) (more : List ℕ) → IsDigit b ⊎ (b ≡ 45) → Spells token (b ∷ more) → IsNumeral token
is_numeral token b more at h = go (class_of token b more h)
  where
    go : Class token b → IsNumeral token
    go (a_word _ other) = absurd (omega arith)
    go (a_numeral numeral _) = numeral
    go (another other) = absurd (omega arith)

pub word_begins : (token : Token) (b : ℕ) (more : List ℕ) → IsWord token → Spells token (b ∷ more) → BeginsNames b × GoesOnAsName more
word_begins (name text) b more one (e, h) = go text e h
  where
    go : (text : List ℕ) → b ∷ more ≡ text → IsName text → BeginsNames b × GoesOnAsName more
    go [] e h = absurd h
    go (c ∷ text) e h = (subst (λ x. BeginsNames x) (sym (same_head e)) h.0, subst (λ x. GoesOnAsName x) (sym (same_tail e)) h.1)
word_begins rec_word b more one h =
    let at : BeginsNames b = inr (inl (let e = same_head h in omega arith)) in
    (at, word_only b more at (kind_of rec_word b more h))
word_begins (number z) b more one h = absurd one
word_begins (string text) b more one h = absurd one
word_begins assign b more one h = absurd one
word_begins open_round b more one h = absurd one
word_begins close_round b more one h = absurd one
word_begins open_square b more one h = absurd one
word_begins close_square b more one h = absurd one
word_begins comma b more one h = absurd one
word_begins semicolon b more one h = absurd one
word_begins star b more one h = absurd one
word_begins caret b more one h = absurd one
word_begins dots b more one h = absurd one

-- ---- names and digits, one behind another

goes_onward : (b : ℕ) (bytes more : List ℕ) → IsNameByte b ⊎ ((b ≡ 46) × BeginsWithNameByte bytes) → IsNameByte b ⊎ ((b ≡ 46) × BeginsWithNameByte (bytes ++ more))
goes_onward b bytes more (inl h) = inl h
goes_onward b [] more (inr h) = absurd h.1
goes_onward b (c ∷ bytes) more (inr h) = inr h

pub goes_append : (bytes more : List ℕ) → GoesOnAsName bytes → GoesOnAsName more → GoesOnAsName (bytes ++ more)
goes_append [] more goes on = on
goes_append (b ∷ bytes) more goes on = (goes_onward b bytes more goes.0, goes_append bytes more goes.1 on)

goes_behind : (bytes more : List ℕ) → GoesOnAsName (bytes ++ more) → GoesOnAsName more
goes_behind [] more goes = goes
goes_behind (b ∷ bytes) more goes = goes_behind bytes more goes.1

all_append : (bytes more : List ℕ) → AllByRecursion IsDigit bytes → AllByRecursion IsDigit more → AllByRecursion IsDigit (bytes ++ more)
all_append [] more each on = on
all_append (b ∷ bytes) more each on = (each.0, all_append bytes more each.1 on)

all_behind : (bytes more : List ℕ) → AllByRecursion IsDigit (bytes ++ more) → AllByRecursion IsDigit more
all_behind [] more each = each
all_behind (b ∷ bytes) more each = all_behind bytes more each.1

pub word_spelled : (b : ℕ) (more : List ℕ) → BeginsNames b → GoesOnAsName more → (token : Token) × Spells token (b ∷ more)
word_spelled b more at goes = go (same_decided (b ∷ more) (codes "rec"))
  where
    go : (b ∷ more ≡ codes "rec") ⊎ (b ∷ more ≢ codes "rec") → (token : Token) × Spells token (b ∷ more)
    go (inl e) = (rec_word, e)
    go (inr other) = (name (b ∷ more), (refl, (at, goes, other)))

-- ---- a spelling that goes on with these bytes

data Longer (token : Token) (spelling : List ℕ) (e : ℕ) (extra : List ℕ) : Type 0 where
  word_on : IsWord token → GoesOnAt (e ∷ extra) → ((x : List ℕ) → GoesOnAsName x → (other : Token) × Spells other (spelling ++ x)) → Longer token spelling e extra
  numeral_on : IsNumeral token → IsDigit e → ((d : ℕ) → IsDigit d → (other : Token) × Spells other (spelling ++ d ∷ [])) → Longer token spelling e extra

module _ (token : Token) (b : ℕ) (more : List ℕ) (e : ℕ) (extra : List ℕ) (spelled : Spells token (b ∷ more)) where
  longer_by : Kind b more → Kind b (more ++ e ∷ extra) → Longer token (b ∷ more) e extra
  longer_by (word at goes) longer =
      word_on (is_word token b more at spelled) (goes_behind more (e ∷ extra) (word_only b (more ++ e ∷ extra) at longer)).0
      (λ x on. word_spelled b (more ++ x) at (goes_append more x goes on))
  longer_by (digits at each few) longer =
      let all = digits_only b (more ++ e ∷ extra) at longer in
      let room : suc (length (more ++ e ∷ [])) ≤ 18 = omega (arith, all.1, length-append more (e ∷ extra), length-append more (e ∷ [])) in
      numeral_on (is_numeral token b more (inl at) spelled) (all_behind more (e ∷ extra) all.0.1).0
      (λ d digit.
      let same : length (more ++ d ∷ []) ≡ length (more ++ e ∷ []) = omega (arith, length-append more (d ∷ []), length-append more (e ∷ [])) in
      (number (pos (value_after 0 (b ∷ (more ++ d ∷ [])))), inl (value_after 0 (b ∷ (more ++ d ∷ [])), record { some = omega arith; few = omega arith; each = (at, all_append more (d ∷ []) each (digit, tt)); worth = refl }, refl)))
  longer_by (negative at each some few) longer =
      let all = negative_only b (more ++ e ∷ extra) at longer in
      let room : length (more ++ e ∷ []) ≤ 18 = omega (arith, all.0.1, length-append more (e ∷ extra), length-append more (e ∷ [])) in
      numeral_on (is_numeral token b more (inr at) spelled) (all_behind more (e ∷ extra) all.0.0).0
      (λ d digit.
      let same : length (more ++ d ∷ []) ≡ length (more ++ e ∷ []) = omega (arith, length-append more (d ∷ []), length-append more (e ∷ [])) in
      (number (opposite (value_after 0 (more ++ d ∷ []))), inr (value_after 0 (more ++ d ∷ []), more ++ d ∷ [], record { some = omega (arith, length-append more (d ∷ [])); few = omega arith; each = all_append more (d ∷ []) each (digit, tt); worth = refl }, ap (λ x. x ∷ (more ++ d ∷ [])) at, refl)))
  longer_by (quoted text at whole each) longer =
      let long = quoted_only b (more ++ e ∷ extra) at longer in
      let split : text ++ (34 ∷ (e ∷ extra)) ≡ long.0 ++ (34 ∷ []) =
      sym (append_assoc text (34 ∷ []) (e ∷ extra)) ∙ ap (λ x. x ++ e ∷ extra) (sym whole) ∙ long.1 in
      let none = one_close text long.0 (e ∷ extra) [] each long.2 split in
      absurd (let k = none in cc)
  longer_by (assigns at whole) longer = absurd (omega (arith, ap length whole, ap length (colon_only b (more ++ e ∷ extra) at longer), length-append more (e ∷ extra)))
  longer_by (ranges at whole) longer = absurd (omega (arith, ap length whole, ap length (dot_only b (more ++ e ∷ extra) at longer), length-append more (e ∷ extra)))
  longer_by (single at whole) longer = absurd (omega (arith, single_only b (more ++ e ∷ extra) at longer, length-append more (e ∷ extra)))

longer : (token other : Token) (spelling : List ℕ) (e : ℕ) (extra : List ℕ) → Spells token spelling → Spells other (spelling ++ e ∷ extra) → Longer token spelling e extra
longer token other [] e extra h k = absurd (spells_some token h)
longer token other (b ∷ more) e extra h k = longer_by token b more e extra h (kind_of token b more h) (kind_of other b (more ++ e ∷ extra) k)

-- ---- the first token, with other bytes behind it

first_unless : (token : Token) (spelling follow : List ℕ) → Spells token spelling
    → ((e : ℕ) (extra back : List ℕ) → follow ≡ (e ∷ extra) ++ back → Longer token spelling e extra → ⊥) → FirstToken (spelling ++ follow) token follow
first_unless token spelling follow h none = record {
  spelling = spelling;
  spelled = h;
  whole = refl;
  longest = λ other front tail k w. most other front tail k w (one_begins spelling front follow tail w);
}
  where
    behind : (other : Token) (front tail extra : List ℕ) → Spells other front → spelling ++ follow ≡ front ++ tail → front ≡ spelling ++ extra → length front ≤ length spelling
    behind other front tail [] k w e = omega (arith, ap length e, length-append spelling [])
    behind other front tail (c ∷ extra) k w e =
        let split : follow ≡ (c ∷ extra) ++ tail =
        append_cancel_left spelling follow ((c ∷ extra) ++ tail) (w ∙ ap (λ x. x ++ tail) e ∙ append_assoc spelling (c ∷ extra) tail) in
        absurd (none c extra tail split (longer token other spelling c extra h (subst (λ x. Spells other x) e k)))

    most : (other : Token) (front tail : List ℕ) → Spells other front → spelling ++ follow ≡ front ++ tail
        → ((back : List ℕ) × (spelling ≡ front ++ back)) ⊎ ((extra : List ℕ) × (front ≡ spelling ++ extra)) → length front ≤ length spelling
    most other front tail k w (inl begins) = omega (arith, ap length begins.1, length-append front begins.0)
    most other front tail k w (inr begins) = behind other front tail begins.0 k w begins.1

goes_on_in : (e : ℕ) (extra back : List ℕ) → GoesOnAt (e ∷ extra) → GoesOnAt ((e ∷ extra) ++ back)
goes_on_in e extra back h = goes_onward e extra back h

-- where nothing goes on
pub ended_first : (token : Token) (spelling follow : List ℕ) → Spells token spelling → ¬ GoesOnAt follow → ¬ BeginsWithDigit follow → FirstToken (spelling ++ follow) token follow
ended_first token spelling follow h no_word no_digit = first_unless token spelling follow h none
  where
    none : (e : ℕ) (extra back : List ℕ) → follow ≡ (e ∷ extra) ++ back → Longer token spelling e extra → ⊥
    none e extra back w (word_on _ goes _) = no_word (subst (λ x. GoesOnAt x) (sym w) (goes_on_in e extra back goes))
    none e extra back w (numeral_on _ digit _) = no_digit (subst (λ x. BeginsWithDigit x) (sym w) digit)

-- a token that is neither a word nor a number ends with itself
pub alone_first : (token : Token) (spelling follow : List ℕ) → Spells token spelling → ¬ IsWord token → ¬ IsNumeral token → FirstToken (spelling ++ follow) token follow
alone_first token spelling follow h no_word no_numeral = first_unless token spelling follow h none
  where
    none : (e : ℕ) (extra back : List ℕ) → follow ≡ (e ∷ extra) ++ back → Longer token spelling e extra → ⊥
    none e extra back w (word_on one _ _) = no_word one
    none e extra back w (numeral_on numeral _ _) = no_numeral numeral

-- what follows goes on with the token only where the rest does
pub record NoMore (token : Token) (rest follow : List ℕ) : Type 0 where
  pub words : IsWord token → GoesOnAt follow → GoesOnAt rest
  pub numerals : IsNumeral token → BeginsWithDigit follow → BeginsWithDigit rest

-- a front of the bytes that goes on a name
record Going (bytes : List ℕ) : Type 0 where
  front : List ℕ
  tail : List ℕ
  some : 0 < length front
  goes : GoesOnAsName front
  whole : bytes ≡ front ++ tail

going : (bytes : List ℕ) → GoesOnAt bytes → Going bytes
going [] h = absurd h
going (b ∷ bytes) (inl h) = record { front = b ∷ []; tail = bytes; some = omega arith; goes = (inl h, tt); whole = refl }
going (b ∷ []) (inr h) = absurd h.1
going (b ∷ c ∷ bytes) (inr h) = record { front = b ∷ c ∷ []; tail = bytes; some = omega arith; goes = (inr h, (inl h.1, tt)); whole = refl }

pub kept_first : (bytes : List ℕ) (token : Token) (rest follow : List ℕ) (first : FirstToken bytes token rest) → NoMore token rest follow → FirstToken (first.spelling ++ follow) token follow
kept_first bytes token rest follow first no_more = first_unless token spelling follow first.spelled none
  where
    spelling : List ℕ
    spelling = first.spelling

    too_long : (x tail : List ℕ) → 0 < length x → rest ≡ x ++ tail → (other : Token) × Spells other (spelling ++ x) → ⊥
    too_long x tail some e (other, k) =
        let w : bytes ≡ (spelling ++ x) ++ tail = first.whole ∙ ap (λ y. spelling ++ y) e ∙ sym (append_assoc spelling x tail) in
        omega (arith, first.longest other (spelling ++ x) tail k w, length-append spelling x)

    digit_on : (rest : List ℕ) → BeginsWithDigit rest → (d : ℕ) × (tail : List ℕ) × IsDigit d × (rest ≡ (d ∷ []) ++ tail)
    digit_on [] h = absurd h
    digit_on (d ∷ tail) h = (d, tail, h, refl)

    none : (e : ℕ) (extra back : List ℕ) → follow ≡ (e ∷ extra) ++ back → Longer token spelling e extra → ⊥
    none e extra back w (word_on one goes on) =
        let way = going rest (no_more.words one (subst (λ x. GoesOnAt x) (sym w) (goes_on_in e extra back goes))) in
        too_long way.front way.tail way.some way.whole (on way.front way.goes)
    none e extra back w (numeral_on numeral digit on) =
        let way = digit_on rest (no_more.numerals numeral (subst (λ x. BeginsWithDigit x) (sym w) digit)) in
        too_long (way.0 ∷ []) way.1 (omega arith) way.3 (on way.0 way.2)

-- where both begin with one byte that is no dot, or with two bytes
pub shared_byte : (token : Token) (b : ℕ) (rest follow : List ℕ) → b ≢ 46 → NoMore token (b ∷ rest) (b ∷ follow)
shared_byte token b rest follow other = record {
  words = λ _ goes. at goes;
  numerals = λ _ digit. digit;
}
  where
    at : GoesOnAt (b ∷ follow) → GoesOnAt (b ∷ rest)
    at (inl h) = inl h
    at (inr h) = absurd (other h.0)

pub shared_two : (token : Token) (b c : ℕ) (rest follow : List ℕ) → NoMore token (b ∷ c ∷ rest) (b ∷ c ∷ follow)
shared_two token b c rest follow = record { words = λ _ goes. goes; numerals = λ _ digit. digit }

-- where both begin with one byte, and the token is no word
pub wordless : (token : Token) (b : ℕ) (rest follow : List ℕ) → ¬ IsWord token → NoMore token (b ∷ rest) (b ∷ follow)
wordless token b rest follow other = record { words = λ one _. absurd (other one); numerals = λ _ digit. digit }

pub unshared : (token : Token) (rest follow : List ℕ) → ¬ GoesOnAt follow → ¬ BeginsWithDigit follow → NoMore token rest follow
unshared token rest follow no_word no_digit = record {
  words = λ _ goes. absurd (no_word goes);
  numerals = λ _ digit. absurd (no_digit digit);
}
