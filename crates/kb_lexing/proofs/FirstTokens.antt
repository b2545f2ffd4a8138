-- How the spellings of tokens look, by their first byte, and which token a text begins with.
use Rattle.std.proofs.Common.{◌≡◌, ◌≢◌, ℕ, zero, suc, ◌+◌, ◌<◌, ◌≤◌, ◌⊎◌, inl, inr, ℤ, pos, neg_ℤ, List, [], ◌∷◌, ◌++◌, length, take, drop, get_or, refl, sym, ap, ◌∙◌, subst, arith, length-append, append_assoc, one-add}
use Rattle.std.specs.List.{AllByRecursion}
use Rattle.kb_lexing.specs.Token.{Token, name, number, string, assign, open_round, close_round, open_square, close_square, comma, semicolon, star, caret, dots, rec_word}
use Rattle.std.proofs.lemmas.Bool.{cases_lt}
use Rattle.std.proofs.lemmas.List.{length-take-le, take-append-drop, drop_more, get_or_at, get_or-take}
use Rattle.kb_lexing.specs.Spelling.{IsDigit, IsNameByte, BeginsNames, BeginsWithNameByte, GoesOnAsName, IsName, IsNumber, IsStringByte, Spells, FirstToken, value_after, opposite}
use Rattle.kb_lexing.specs.Lexemes.{IsLongestFront, AreFewDigits}

-- `(` `)` `[` `]` `,` `;` `*` `^`
abbrev pub IsSingle : ℕ → Type 0
IsSingle b = (b ≡ 40) ⊎ ((b ≡ 41) ⊎ ((b ≡ 91) ⊎ ((b ≡ 93) ⊎ ((b ≡ 44) ⊎ ((b ≡ 59) ⊎ ((b ≡ 42) ⊎ (b ≡ 94)))))))

-- what a spelling has behind its first byte
pub data Kind (b : ℕ) (more : List ℕ) : Type 0 where
  word : BeginsNames b → GoesOnAsName more → Kind b more
  digits : IsDigit b → AllByRecursion IsDigit more → suc (length more) ≤ 18 → Kind b more
  negative : b ≡ 45 → AllByRecursion IsDigit more → 0 < length more → length more ≤ 18 → Kind b more
  quoted : (text : List ℕ) → b ≡ 34 → more ≡ text ++ 34 ∷ [] → AllByRecursion IsStringByte text → Kind b more
  assigns : b ≡ 58 → more ≡ 61 ∷ [] → Kind b more
  ranges : b ≡ 46 → more ≡ 46 ∷ [] → Kind b more
  single : IsSingle b → more ≡ [] → Kind b more

pub same_head : {b c : ℕ} {bs cs : List ℕ} → b ∷ bs ≡ c ∷ cs → b ≡ c
same_head e = cc

pub same_tail : {b c : ℕ} {bs cs : List ℕ} → b ∷ bs ≡ c ∷ cs → bs ≡ cs
same_tail e = cc

of_name : (b : ℕ) (more text : List ℕ) → b ∷ more ≡ text → IsName text → Kind b more
of_name b more [] e h = absurd h
of_name b more (c ∷ text) e h =
    word (subst (λ x. BeginsNames x) (sym (same_head e)) h.0) (subst (λ x. GoesOnAsName x) (sym (same_tail e)) h.1)

of_number : (b : ℕ) (more : List ℕ) (z : ℤ) → IsNumber (b ∷ more) z → Kind b more
of_number b more z (inl h) = digits h.1.each.0 h.1.each.1 h.1.few
of_number b more z (inr h) =
    let e = h.3 in
    let at : more ≡ h.1 = same_tail e in
    negative (same_head e) (subst (λ x. AllByRecursion IsDigit x) (sym at) h.2.each) (subst (λ x. 0 < length x) (sym at) h.2.some) (subst (λ x. length x ≤ 18) (sym at) h.2.few)

pub kind_of : (token : Token) (b : ℕ) (more : List ℕ) → Spells token (b ∷ more) → Kind b more
kind_of (name text) b more h = of_name b more text h.0 h.1
kind_of (number z) b more h = of_number b more z h
kind_of (string text) b more h = quoted text (same_head h.0) (same_tail h.0) h.1
kind_of assign b more h = assigns (same_head h) (same_tail h)
kind_of open_round b more h = single (inl (same_head h)) (same_tail h)
kind_of close_round b more h = single (inr (inl (same_head h))) (same_tail h)
kind_of open_square b more h = single (inr (inr (inl (same_head h)))) (same_tail h)
kind_of close_square b more h = single (inr (inr (inr (inl (same_head h))))) (same_tail h)
kind_of comma b more h = single (inr (inr (inr (inr (inl (same_head h)))))) (same_tail h)
kind_of semicolon b more h = single (inr (inr (inr (inr (inr (inl (same_head h))))))) (same_tail h)
kind_of star b more h = single (inr (inr (inr (inr (inr (inr (inl (same_head h)))))))) (same_tail h)
kind_of caret b more h = single (inr (inr (inr (inr (inr (inr (inr (same_head h)))))))) (same_tail h)
kind_of dots b more h = ranges (same_head h) (same_tail h)
kind_of rec_word b more h =
    word (inr (inl (let e = same_head h in omega arith))) (subst (λ x. GoesOnAsName x) (sym (same_tail h)) (inl (inl (inr (inl (omega arith)))), (inl (inl (inr (inl (omega arith)))), tt)))

-- no spelling is empty
pub spells_some : (token : Token) → Spells token [] → ⊥
spells_some (name text) h = subst (λ x. IsName x) (sym h.0) h.1
spells_some (number z) (inl h) = omega (arith, h.1.some)
spells_some (number z) (inr h) = let e = h.3 in cc
spells_some (string text) h = let e = h.0 in cc
spells_some assign h = cc
spells_some open_round h = cc
spells_some close_round h = cc
spells_some open_square h = cc
spells_some close_square h = cc
spells_some comma h = cc
spells_some semicolon h = cc
spells_some star h = cc
spells_some caret h = cc
spells_some dots h = cc
spells_some rec_word h = cc

-- a token whose spelling no other is longer than
pub first_from : (token : Token) (b : ℕ) (more rest tail : List ℕ) → Spells token (b ∷ more) → rest ≡ more ++ tail
    → ((other back : List ℕ) → Kind b other → rest ≡ other ++ back → length other ≤ length more)
    → FirstToken (b ∷ rest) token tail
first_from token b more rest tail h e most = record {
  spelling = b ∷ more;
  spelled = h;
  whole = ap (λ x. b ∷ x) e;
  longest = longest;
}
  where
    longest : (other : Token) (front back : List ℕ) → Spells other front → b ∷ rest ≡ front ++ back → length front ≤ suc (length more)
    longest other [] back s w = omega arith
    longest other (c ∷ front) back s w =
        let at : c ≡ b = sym (same_head w) in
        let k : Kind b front = subst (λ x. Kind x front) at (kind_of other c front s) in
        omega (arith, most front back k (same_tail w))

-- no token begins where nothing of any kind stands
pub none_from : (b : ℕ) (rest : List ℕ) → ((other back : List ℕ) → Kind b other → rest ≡ other ++ back → ⊥)
    → (token : Token) (tail : List ℕ) → ¬ FirstToken (b ∷ rest) token tail
none_from b rest none token tail first = spelled first.spelling first.spelled first.whole
  where
    spelled : (spelling : List ℕ) → Spells token spelling → b ∷ rest ≡ spelling ++ tail → ⊥
    spelled [] s w = spells_some token s
    spelled (c ∷ more) s w =
        let at : c ≡ b = sym (same_head w) in
        none more tail (subst (λ x. Kind x more) at (kind_of token c more s)) (same_tail w)

-- what the first byte rules out
pub word_only : (b : ℕ) (more : List ℕ) → BeginsNames b → Kind b more → GoesOnAsName more
word_only b more h (word at goes) = goes
word_only b more h (digits at each few) = absurd (omega arith)
word_only b more h (negative at each some few) = absurd (omega arith)
word_only b more h (quoted text at whole each) = absurd (omega arith)
word_only b more h (assigns at whole) = absurd (omega arith)
word_only b more h (ranges at whole) = absurd (omega arith)
word_only b more h (single at whole) = absurd (omega arith)

pub digits_only : (b : ℕ) (more : List ℕ) → IsDigit b → Kind b more → AreFewDigits (b ∷ more)
digits_only b more h (word at goes) = absurd (omega arith)
digits_only b more h (digits at each few) = ((at, each), few)
digits_only b more h (negative at each some few) = absurd (omega arith)
digits_only b more h (quoted text at whole each) = absurd (omega arith)
digits_only b more h (assigns at whole) = absurd (omega arith)
digits_only b more h (ranges at whole) = absurd (omega arith)
digits_only b more h (single at whole) = absurd (omega arith)

pub negative_only : (b : ℕ) (more : List ℕ) → b ≡ 45 → Kind b more → AreFewDigits more × (0 < length more)
negative_only b more h (word at goes) = absurd (omega arith)
negative_only b more h (digits at each few) = absurd (omega arith)
negative_only b more h (negative at each some few) = ((each, few), some)
negative_only b more h (quoted text at whole each) = absurd (omega arith)
negative_only b more h (assigns at whole) = absurd (omega arith)
negative_only b more h (ranges at whole) = absurd (omega arith)
negative_only b more h (single at whole) = absurd (omega arith)

pub quoted_only : (b : ℕ) (more : List ℕ) → b ≡ 34 → Kind b more → (text : List ℕ) × (more ≡ text ++ 34 ∷ []) × AllByRecursion IsStringByte text
quoted_only b more h (word at goes) = absurd (omega arith)
quoted_only b more h (digits at each few) = absurd (omega arith)
quoted_only b more h (negative at each some few) = absurd (omega arith)
quoted_only b more h (quoted text at whole each) = (text, whole, each)
quoted_only b more h (assigns at whole) = absurd (omega arith)
quoted_only b more h (ranges at whole) = absurd (omega arith)
quoted_only b more h (single at whole) = absurd (omega arith)

-- the token begins the text, and n bytes spell it
pub record IsFirstOf (text : List ℕ) (token : Token) (n : ℕ) : Type 0 where
  pub first : FirstToken text token (drop n text)
  pub some : 0 < n
  pub within : n ≤ length text

length_front : (n : ℕ) (bytes : List ℕ) → n ≤ length bytes → length (take n bytes) ≡ n
length_front n bytes h = length-take-le n bytes h

-- a name or `rec`, as long as it goes on
pub word_first : (text : List ℕ) (m : ℕ) (token : Token) → BeginsNames (get_or text 0 0) → IsLongestFront GoesOnAsName (drop 1 text) m
    → Spells token (take (1 + m) text) → IsFirstOf text token (1 + m)
word_first [] m token at h spelled = absurd (omega arith)
word_first (b ∷ rest) m token at h spelled =
    let s : Spells token (b ∷ take m rest) = rw one-add at spelled in
    let n : length (take m rest) ≡ m = length_front m rest h.within in
    rw one-add record {
      first = first_from token b (take m rest) rest (drop m rest) s (sym (take-append-drop m rest)) (λ other back k e. omega (arith, h.longest other back (word_only b other at k) e));
      some = omega arith;
      within = omega (arith, h.within);
    }

-- digits, as long as there are more of them, up to 18
pub digits_first : (text : List ℕ) (m : ℕ) → IsDigit (get_or text 0 0) → IsLongestFront AreFewDigits text m → IsFirstOf text (number (pos (value_after 0 (take m text)))) m
digits_first [] m at h = absurd (omega arith)
digits_first (b ∷ rest) zero at h = absurd (omega (arith, h.longest (b ∷ []) rest ((at, tt), omega arith) refl))
digits_first (b ∷ rest) (suc m) at h =
    let n : length (take m rest) ≡ m = length_front m rest (omega (arith, h.within)) in
    record {
      first = first_from _ b (take m rest) rest (drop m rest) (inl (value_after 0 (b ∷ take m rest), record { some = omega arith; few = omega (arith, h.formed.1); each = h.formed.0; worth = refl }, refl))
          (sym (take-append-drop m rest)) (λ other back k e. omega (arith, h.longest (b ∷ other) back (digits_only b other at k) (ap (λ x. b ∷ x) e)));
      some = omega arith;
      within = h.within;
    }

-- `-` and digits
pub negative_first : (text : List ℕ) (m : ℕ) → get_or text 0 0 ≡ 45 → IsLongestFront AreFewDigits (drop 1 text) m → 0 < m
    → IsFirstOf text (number (opposite (value_after 0 (take m (drop 1 text))))) (1 + m)
negative_first [] m at h some = absurd (omega arith)
negative_first (b ∷ rest) m at h some =
    let n : length (take m rest) ≡ m = length_front m rest h.within in
    rw one-add record {
      first = first_from _ b (take m rest) rest (drop m rest)
          (inr (value_after 0 (take m rest), take m rest, record { some = omega arith; few = omega (arith, h.formed.1); each = h.formed.0; worth = refl }, ap (λ x. x ∷ take m rest) at, refl))
          (sym (take-append-drop m rest)) (λ other back k e. omega (arith, h.longest other back (negative_only b other at k).0 e));
      some = omega arith;
      within = omega (arith, h.within);
    }

pub negative_none : (text : List ℕ) → get_or text 0 0 ≡ 45 → IsLongestFront AreFewDigits (drop 1 text) 0 → (token : Token) (rest : List ℕ) → ¬ FirstToken text token rest
negative_none [] at h = absurd (omega arith)
negative_none (b ∷ rest) at h =
    none_from b rest (λ other back k e. let only = negative_only b other at k in omega (arith, h.longest other back only.0 e, only.1))

pub all_at : (P : ℕ → Type 0) (xs : List ℕ) (i : ℕ) → AllByRecursion P xs → i < length xs → P (get_or xs i 0)
all_at P [] i each at = absurd (omega arith)
all_at P (x ∷ xs) zero each at = each.0
all_at P (x ∷ xs) (suc i) each at = all_at P xs i each.1 (omega arith)

-- what stands behind bytes of strings, up to a `"`
closes : (rest other back text : List ℕ) → rest ≡ other ++ back → other ≡ text ++ 34 ∷ [] → rest ≡ text ++ (34 ∷ back)
closes rest other back text e whole = e ∙ ap (λ x. x ++ back) whole ∙ append_assoc text (34 ∷ []) back

-- `"`, bytes of strings, `"`
string_at : (b : ℕ) (rest : List ℕ) (n : ℕ) → b ≡ 34 → IsLongestFront (AllByRecursion IsStringByte) rest n → n < length rest
    → get_or rest n 0 ≡ 34 → FirstToken (b ∷ rest) (string (take n rest)) (drop (n + 1) rest)
string_at b rest n at h some closed =
    let text = take n rest in
    let long : length text ≡ n = length_front n rest h.within in
    let split : rest ≡ text ++ (34 ∷ drop (n + 1) rest) =
    sym (take-append-drop n rest) ∙ ap (λ x. text ++ x) (drop_more rest n 0 some ∙ ap (λ x. x ∷ drop (n + 1) rest) closed) in
    first_from (string text) b (text ++ 34 ∷ []) rest (drop (n + 1) rest) (ap (λ x. x ∷ (text ++ 34 ∷ [])) at, h.formed)
    (split ∙ sym (append_assoc text (34 ∷ []) (drop (n + 1) rest)))
    (λ other back k e.
    let only = quoted_only b other at k in
    omega (arith, h.longest only.0 (34 ∷ back) only.2 (closes rest other back only.0 e only.1), ap length only.1, length-append only.0 (34 ∷ []), length-append text (34 ∷ [])))

pub string_first : (text : List ℕ) (n : ℕ) → get_or text 0 0 ≡ 34 → IsLongestFront (AllByRecursion IsStringByte) (drop 1 text) n → 1 + n < length text
    → get_or text (1 + n) 0 ≡ 34 → IsFirstOf text (string (take n (drop 1 text))) (n + 2)
string_first [] n at h some closed = absurd (omega arith)
string_first (b ∷ rest) n at h some closed =
    let e : suc (n + 1) ≡ n + 2 = omega arith in
    subst (λ k. IsFirstOf (b ∷ rest) (string (take n rest)) k) e record {
      first = string_at b rest n at h (omega arith) (rw one-add at closed);
      some = omega arith;
      within = omega arith;
    }

pub string_none : (text : List ℕ) (n : ℕ) → get_or text 0 0 ≡ 34 → IsLongestFront (AllByRecursion IsStringByte) (drop 1 text) n
    → (1 + n < length text → get_or text (1 + n) 0 ≢ 34) → (token : Token) (rest : List ℕ) → ¬ FirstToken text token rest
string_none [] n at h unclosed = absurd (omega arith)
string_none (b ∷ rest) n at h unclosed =
    none_from b rest (λ other back k e.
    let only = quoted_only b other at k in
    let whole : rest ≡ only.0 ++ (34 ∷ back) = closes rest other back only.0 e only.1 in
    let closed : get_or rest (length only.0) 0 ≡ 34 = rw whole (get_or_at only.0 34 back 0 (length only.0) refl) in
    let long : length rest ≡ length only.0 + suc (length back) = ap length whole ∙ length-append only.0 (34 ∷ back) in
    go (length only.0) closed (omega arith) (h.longest only.0 (34 ∷ back) only.2 whole) (cases_lt (length only.0) n))
  where
    go : (l : ℕ) → get_or rest l 0 ≡ 34 → l < length rest → l ≤ n → (l < n) ⊎ (n ≤ l) → ⊥
    go l closed inside most (inl less) =
        let long : length (take n rest) ≡ n = length_front n rest h.within in
        let each = all_at IsStringByte (take n rest) l h.formed (omega arith) in
        each.2 (get_or-take n rest l 0 less ∙ closed)
    go l closed inside most (inr more) =
        let same : l ≡ n = omega arith in
        let behind : get_or (b ∷ rest) (1 + n) 0 ≡ 34 = rw one-add (subst (λ k. get_or rest k 0 ≡ 34) same closed) in
        unclosed (omega arith) behind

-- names and strings are ASCII
goes_on_ascii : (bytes : List ℕ) → GoesOnAsName bytes → AllByRecursion (λ byte. byte < 128) bytes
goes_on_ascii [] goes = tt
goes_on_ascii (b ∷ bytes) goes = (small goes.0, goes_on_ascii bytes goes.1)
  where
    small : IsNameByte b ⊎ ((b ≡ 46) × BeginsWithNameByte bytes) → b < 128
    small (inl h) = omega arith
    small (inr h) = omega (arith, h.0)

pub word_ascii : (text : List ℕ) (m : ℕ) → BeginsNames (get_or text 0 0) → GoesOnAsName (take m (drop 1 text)) → AllByRecursion (λ byte. byte < 128) (take (1 + m) text)
word_ascii [] m at goes = absurd (omega arith)
word_ascii (b ∷ rest) m at goes = rw one-add (omega arith, goes_on_ascii (take m rest) goes)

pub string_ascii : (bytes : List ℕ) → AllByRecursion IsStringByte bytes → AllByRecursion (λ byte. byte < 128) bytes
string_ascii [] each = tt
string_ascii (b ∷ bytes) each = (omega (arith, each.0.1), string_ascii bytes each.1)

pub opposite_is : (n : ℕ) → neg_ℤ (pos n) ≡ opposite n
opposite_is zero = refl
opposite_is (suc n) = refl

pub string_within : (text : List ℕ) (n : ℕ) → get_or text 0 0 ≡ 34 → IsLongestFront (AllByRecursion IsStringByte) (drop 1 text) n → 1 + n ≤ length text
string_within [] n at h = absurd (omega arith)
string_within (b ∷ rest) n at h = omega (arith, h.within)
