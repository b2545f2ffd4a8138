-- Longest fronts that begin a token that is expected.
use Rattle.std.proofs.Common.{◌≡◌, ◌≢◌, ℕ, suc, ◌+◌, ◌-◌, ◌<◌, ◌≤◌, max, ◌⊎◌, inl, inr, Bool, true, false, List, [], ◌∷◌, ◌++◌, length, take, drop, get_or, refl, sym, ap, ◌∙◌, subst, arith, length-append, append_assoc, one-add, add-one, eqb-true, eq-eqb, true≢false}
use Rattle.std.specs.Prelude.{codes, ◌==◌, take_while, zip}
use Rattle.std.specs.List.{prefix_len}
use Rattle.std.proofs.lemmas.List.Folds.{length-prefix_len}
use Rattle.std.proofs.lemmas.Bool.{cases_lt}
use Rattle.std.proofs.lemmas.List.{take-append-drop, length-take-le, drop_at}
use Rattle.kb_lexing.specs.Token.{Token, name, assign, dots, rec_word}
use Rattle.kb_lexing.specs.Spelling.{IsNameByte, BeginsNames, BeginsWithNameByte, GoesOnAsName, IsName, Spells}
use Rattle.kb_lexing.specs.Lexemes.{BeginsWith, IsFrontOf, IsLongestFront}
use Rattle.kb_lexing.specs.Possible.{IsExpected, BeginsToken, BeginsExpected}
use Rattle.kb_lexing.specs.declared.place.Expected.{Expected}
use Rattle.kb_lexing.specs.declared.place.Expected.TheVariants as variant
use Rattle.kb_lexing.proofs.FirstTokens.{same_head, same_tail}
use Rattle.kb_lexing.proofs.LongestFronts.{take_past}
use Rattle.kb_lexing.proofs.Longer.{goes_append}
use Rattle.kb_lexing.proofs.LastTokens.{no_dot_in_rec}

-- ---- of any form

-- a front of another form that begins with the same bytes
pub longest_as : (P Q : List ℕ → Type 0) (bytes : List ℕ) (n : ℕ) → ((front : List ℕ) → P front → Q front) → ((front : List ℕ) → Q front → P front)
    → IsLongestFront P bytes n → IsLongestFront Q bytes n
longest_as P Q bytes n there back h = record {
  within = h.within;
  formed = there (take n bytes) h.formed;
  longest = λ front tail k e. h.longest front tail (back front k) e;
}

pub longest_either : (P Q : List ℕ → Type 0) (bytes : List ℕ) (m n : ℕ) → IsLongestFront P bytes m → IsLongestFront Q bytes n → IsLongestFront (λ front. P front ⊎ Q front) bytes (max m n)
longest_either P Q bytes m n h k = go (cases_lt m n)
  where
    most : (k : ℕ) → (front tail : List ℕ) → P front ⊎ Q front → bytes ≡ front ++ tail → m ≤ k → n ≤ k → length front ≤ k
    most j front tail (inl p) e first second = omega (arith, h.longest front tail p e)
    most j front tail (inr q) e first second = omega (arith, k.longest front tail q e)

    go : (m < n) ⊎ (n ≤ m) → IsLongestFront (λ front. P front ⊎ Q front) bytes (max m n)
    go (inl less) =
        let same : n ≡ max m n = omega arith in
        subst (λ x. IsLongestFront (λ front. P front ⊎ Q front) bytes x) same (record {
          within = k.within;
          formed = inr k.formed;
          longest = λ front tail f e. most n front tail f e (omega arith) (omega arith);
        })
    go (inr more) =
        let same : m ≡ max m n = omega arith in
        subst (λ x. IsLongestFront (λ front. P front ⊎ Q front) bytes x) same (record {
          within = h.within;
          formed = inl h.formed;
          longest = λ front tail f e. most m front tail f e (omega arith) (omega arith);
        })

-- no token of the kind begins as the bytes do
pub none_begins : (IsSuch : Token → Type 0) (bytes : List ℕ)
    → ((token : Token) (b : ℕ) (front tail more : List ℕ) → IsSuch token → Spells token (b ∷ (front ++ more)) → bytes ≡ b ∷ (front ++ tail) → ⊥)
    → IsLongestFront (BeginsToken IsSuch) bytes 0
none_begins IsSuch bytes none = record {
  within = omega arith;
  formed = inl refl;
  longest = longest;
}
  where
    longest : (front tail : List ℕ) → BeginsToken IsSuch front → bytes ≡ front ++ tail → length front ≤ 0
    longest [] tail h e = omega arith
    longest (b ∷ front) tail (inl h) e = absurd (let k = h in cc)
    longest (b ∷ front) tail (inr (token, more, is, spelled)) e = absurd (none token b front tail more is spelled e)

-- ---- a spelling

spelling_front : (spelling bytes : List ℕ) → IsLongestFront (IsFrontOf spelling) bytes (prefix_len (λ (pair : ℕ × ℕ). pair.0 == pair.1) (zip spelling bytes))
spelling_front [] bytes = record {
  within = omega arith;
  formed = ([], refl);
  longest = λ front tail h e. omega (arith, ap length h.1, length-append front h.0);
}
spelling_front (s ∷ spelling) [] = record {
  within = omega arith;
  formed = (s ∷ spelling, refl);
  longest = λ front tail h e. omega (arith, ap length e, length-append front tail);
}
spelling_front (s ∷ spelling) (b ∷ bytes) = go (s == b) refl (spelling_front spelling bytes)
  where
    more : (n : ℕ) → s ≡ b → IsLongestFront (IsFrontOf spelling) bytes n → IsLongestFront (IsFrontOf (s ∷ spelling)) (b ∷ bytes) (suc n)
    more n same h = record {
      within = omega (arith, h.within);
      formed = (h.formed.0, (let k = h.formed.1 in cc));
      longest = longest;
    }
      where
        longest : (front tail : List ℕ) → IsFrontOf (s ∷ spelling) front → b ∷ bytes ≡ front ++ tail → length front ≤ suc n
        longest [] tail k e = omega arith
        longest (c ∷ front) tail k e = omega (arith, h.longest front tail (k.0, same_tail k.1) (same_tail e))

    none : s ≢ b → IsLongestFront (IsFrontOf (s ∷ spelling)) (b ∷ bytes) 0
    none differs = record {
      within = omega arith;
      formed = (s ∷ spelling, refl);
      longest = longest;
    }
      where
        longest : (front tail : List ℕ) → IsFrontOf (s ∷ spelling) front → b ∷ bytes ≡ front ++ tail → length front ≤ 0
        longest [] tail k e = omega arith
        longest (c ∷ front) tail k e = absurd (differs (same_head k.1 ∙ sym (same_head e)))

    go : (t : Bool) → (s == b) ≡ t → IsLongestFront (IsFrontOf spelling) bytes (prefix_len (λ (pair : ℕ × ℕ). pair.0 == pair.1) (zip spelling bytes))
        → IsLongestFront (IsFrontOf (s ∷ spelling)) (b ∷ bytes) (prefix_len (λ (pair : ℕ × ℕ). pair.0 == pair.1) (zip (s ∷ spelling) (b ∷ bytes)))
    go true e h = rw (e, one-add) (more (prefix_len (λ (pair : ℕ × ℕ). pair.0 == pair.1) (zip spelling bytes)) (eqb-true s b e) h)
    go false e h = rw e (none (λ same. true≢false (sym (eq-eqb s b same) ∙ e)))

-- the one spelling of a token that is expected alone
pub one_spelling : (expected : Expected) (token : Token) (spelling bytes : List ℕ) (n : ℕ) → IsExpected expected token
    → Spells token spelling → ((other : Token) (front : List ℕ) → IsExpected expected other → Spells other front → front ≡ spelling)
    → n ≡ length (take_while (λ (pair : ℕ × ℕ). pair.0 == pair.1) (zip spelling bytes)) → IsLongestFront (BeginsExpected expected) bytes n
one_spelling expected token spelling bytes n is spelled alone e =
    let same = e ∙ length-prefix_len (λ (pair : ℕ × ℕ). pair.0 == pair.1) (zip spelling bytes) in
    longest_as (IsFrontOf spelling) (BeginsExpected expected) bytes n there back (subst (λ x. IsLongestFront (IsFrontOf spelling) bytes x) (sym same) (spelling_front spelling bytes))
  where
    there : (front : List ℕ) → IsFrontOf spelling front → BeginsExpected expected front
    there front h = inr (token, h.0, is, subst (λ x. Spells token x) h.1 spelled)

    back : (front : List ℕ) → BeginsExpected expected front → IsFrontOf spelling front
    back front (inl none) = (spelling, ap (λ x. x ++ spelling) (sym none))
    back front (inr (other, more, h, k)) = (more, sym (alone other (front ++ more) h k))

pub assign_alone : (token : Token) (front : List ℕ) → IsExpected variant.Assign token → Spells token front → front ≡ codes ":="
assign_alone assign front h k = k
assign_alone _ front h k = absurd h

pub dots_alone : (token : Token) (front : List ℕ) → IsExpected variant.Dots token → Spells token front → front ≡ codes ".."
dots_alone dots front h k = k
dots_alone _ front h k = absurd h

pub rec_alone : (token : Token) (front : List ℕ) → IsExpected variant.Rec token → Spells token front → front ≡ codes "rec"
rec_alone rec_word front h k = k
rec_alone _ front h k = absurd h

-- ---- a first byte, bytes that go on, and a byte that ends them

pub record Ended (IsSuch : Token → Type 0) (b e : ℕ) (rest : List ℕ) (n : ℕ) : Type 0 where
  pub within : n ≤ length rest
  pub opened : BeginsToken IsSuch (b ∷ take n rest)
  pub closed : BeginsToken IsSuch (b ∷ (take n rest ++ e ∷ []))
  pub most : (front tail : List ℕ) → BeginsToken IsSuch front → b ∷ rest ≡ front ++ tail
      → (length front ≤ suc n) ⊎ (BeginsWith e (drop n rest) × (length front ≤ suc (suc n)))

begins_with : (e : ℕ) (bytes : List ℕ) → BeginsWith e bytes → (more : List ℕ) × (bytes ≡ e ∷ more)
begins_with e [] h = absurd h
begins_with e (b ∷ bytes) h = (bytes, ap (λ x. x ∷ bytes) h)

pub opened_front : (IsSuch : Token → Type 0) (b e : ℕ) (rest : List ℕ) (n : ℕ) → Ended IsSuch b e rest n → ¬ BeginsWith e (drop n rest) → IsLongestFront (BeginsToken IsSuch) (b ∷ rest) (n + 1)
opened_front IsSuch b e rest n h open_ended = rw add-one record {
  within = omega (arith, h.within);
  formed = h.opened;
  longest = λ front tail k w. go front (h.most front tail k w);
}
  where
    go : (front : List ℕ) → (length front ≤ suc n) ⊎ (BeginsWith e (drop n rest) × (length front ≤ suc (suc n))) → length front ≤ suc n
    go front (inl few) = few
    go front (inr ends) = absurd (open_ended ends.0)

pub closed_front : (IsSuch : Token → Type 0) (b e : ℕ) (rest : List ℕ) (n : ℕ) → Ended IsSuch b e rest n → BeginsWith e (drop n rest) → IsLongestFront (BeginsToken IsSuch) (b ∷ rest) (n + 2)
closed_front IsSuch b e rest n h ends =
    let two : suc (suc n) ≡ n + 2 = omega arith in
    subst (λ x. IsLongestFront (BeginsToken IsSuch) (b ∷ rest) x) two (record {
      within = omega (arith, ap length whole, length-append (take n rest) (e ∷ more.0), length-take-le n rest h.within);
      formed = subst (λ x. BeginsToken IsSuch (b ∷ x)) (sym cut) h.closed;
      longest = λ front tail k w. go front (h.most front tail k w);
    })
  where
    more : (more : List ℕ) × (drop n rest ≡ e ∷ more)
    more = begins_with e (drop n rest) ends

    whole : rest ≡ take n rest ++ e ∷ more.0
    whole = sym (take-append-drop n rest) ∙ ap (λ x. take n rest ++ x) more.1

    cut : take (suc n) rest ≡ take n rest ++ e ∷ []
    cut =
        let long : length (take n rest) ≡ n = length-take-le n rest h.within in
        let less : suc n - length (take n rest) ≡ 1 = omega arith in
        ap (λ x. take (suc n) x) whole ∙ take_past (suc n) (take n rest) (e ∷ more.0) (omega arith) ∙ ap (λ k. take n rest ++ take k (e ∷ more.0)) less

    go : (front : List ℕ) → (length front ≤ suc n) ⊎ (BeginsWith e (drop n rest) × (length front ≤ suc (suc n))) → length front ≤ suc (suc n)
    go front (inl few) = omega arith
    go front (inr few) = few.1

-- what is shorter than all that goes on, or ends it
pub ends_at : (e : ℕ) (rest begins tail : List ℕ) (n : ℕ) → length begins ≤ n → rest ≡ begins ++ e ∷ tail
    → (suc (length (begins ++ e ∷ [])) ≤ suc n) ⊎ (BeginsWith e (drop n rest) × (suc (length (begins ++ e ∷ [])) ≤ suc (suc n)))
ends_at e rest begins tail n few whole = go (cases_lt (length begins) n)
  where
    go : (length begins < n) ⊎ (n ≤ length begins) → (suc (length (begins ++ e ∷ [])) ≤ suc n) ⊎ (BeginsWith e (drop n rest) × (suc (length (begins ++ e ∷ [])) ≤ suc (suc n)))
    go (inl less) = inl (omega (arith, length-append begins (e ∷ [])))
    go (inr more) =
        let at : drop n rest ≡ e ∷ tail = ap (drop n) whole ∙ drop_at begins (e ∷ tail) n (omega arith) in
        inr (subst (λ x. BeginsWith e x) (sym at) refl, omega (arith, length-append begins (e ∷ [])))

-- ---- names

-- a front of what goes on goes on itself, or is cut behind a dot
data Cut (front : List ℕ) : Type 0 where
  goes : GoesOnAsName front → Cut front
  behind_dot : (begins : List ℕ) → front ≡ begins ++ 46 ∷ [] → GoesOnAsName begins → Cut front

cut_name : (front more : List ℕ) → GoesOnAsName (front ++ more) → Cut front
cut_name [] more h = goes tt
cut_name (b ∷ front) more h = go front h.0 (cut_name front more h.1)
  where
    byte : (front begins : List ℕ) → front ≡ begins ++ 46 ∷ [] → BeginsWithNameByte (front ++ more) → BeginsWithNameByte begins
    byte [] [] e h = absurd (let k = e in cc)
    byte [] (c ∷ begins) e h = absurd (let k = e in cc)
    byte (d ∷ front) [] e h = let at = same_head e in absurd (omega arith)
    byte (d ∷ front) (c ∷ begins) e h = subst (λ x. IsNameByte x) (same_head e) h

    go : (front : List ℕ) → IsNameByte b ⊎ ((b ≡ 46) × BeginsWithNameByte (front ++ more)) → Cut front → Cut (b ∷ front)
    go front (inl at) (goes k) = goes (inl at, k)
    go front (inl at) (behind_dot begins e k) = behind_dot (b ∷ begins) (ap (λ x. b ∷ x) e) (inl at, k)
    go [] (inr at) _ = behind_dot [] (ap (λ x. x ∷ []) at.0) tt
    go (d ∷ front) (inr at) (goes k) = goes (inr (at.0, at.1), k)
    go (d ∷ front) (inr at) (behind_dot begins e k) = behind_dot (b ∷ begins) (ap (λ x. b ∷ x) e) (inr (at.0, byte (d ∷ front) begins e at.1), k)

name_text : (token : Token) (spelling : List ℕ) → IsExpected variant.Name token → Spells token spelling → IsName spelling
name_text (name text) spelling h k = subst (λ x. IsName x) (sym k.0) k.1
name_text _ spelling h k = absurd h

name_ended : (b : ℕ) (rest : List ℕ) (n : ℕ) → BeginsNames b → IsLongestFront GoesOnAsName rest n → Ended (IsExpected variant.Name) b 46 rest n
name_ended b rest n at h = record {
  within = h.within;
  opened = inr (name (b ∷ (take n rest ++ 46 ∷ 97 ∷ [])), 46 ∷ 97 ∷ [], tt, (refl, named));
  closed = inr (name (b ∷ (take n rest ++ 46 ∷ 97 ∷ [])), 97 ∷ [], tt, (ap (λ x. b ∷ x) (append_assoc (take n rest) (46 ∷ []) (97 ∷ [])), named));
  most = most;
}
  where
    byte : IsNameByte 97
    byte = inl (inr (inl (omega arith, omega arith)))

    named : IsName (b ∷ (take n rest ++ 46 ∷ 97 ∷ []))
    named = (at, goes_append (take n rest) (46 ∷ 97 ∷ []) h.formed (inr (refl, byte), (inl byte, tt)), no_dot_in_rec b (take n rest) (97 ∷ []))

    parts : (front tail : List ℕ) → Cut front → rest ≡ front ++ tail → (suc (length front) ≤ suc n) ⊎ (BeginsWith 46 (drop n rest) × (suc (length front) ≤ suc (suc n)))
    parts front tail (goes k) e = inl (omega (arith, h.longest front tail k e))
    parts front tail (behind_dot begins w k) e =
        let whole : rest ≡ begins ++ 46 ∷ tail = e ∙ ap (λ x. x ++ tail) w ∙ append_assoc begins (46 ∷ []) tail in
        subst (λ x. (suc (length x) ≤ suc n) ⊎ (BeginsWith 46 (drop n rest) × (suc (length x) ≤ suc (suc n)))) (sym w)
        (ends_at 46 rest begins tail n (h.longest begins (46 ∷ tail) k whole) whole)

    most : (front tail : List ℕ) → BeginsToken (IsExpected variant.Name) front → b ∷ rest ≡ front ++ tail
        → (length front ≤ suc n) ⊎ (BeginsWith 46 (drop n rest) × (length front ≤ suc (suc n)))
    most [] tail k e = inl (omega arith)
    most (c ∷ front) tail (inl k) e = absurd (let j = k in cc)
    most (c ∷ front) tail (inr (token, more, is, spelled)) e =
        let is_name : IsName (c ∷ (front ++ more)) = name_text token (c ∷ (front ++ more)) is spelled in
        parts front tail (cut_name front more is_name.1) (same_tail e)

pub name_opened : (b : ℕ) (rest : List ℕ) (n : ℕ) → BeginsNames b → IsLongestFront GoesOnAsName rest n → ¬ BeginsWith 46 (drop n rest) → IsLongestFront (BeginsExpected variant.Name) (b ∷ rest) (n + 1)
name_opened b rest n at h ends = opened_front (IsExpected variant.Name) b 46 rest n (name_ended b rest n at h) ends

pub name_closed : (b : ℕ) (rest : List ℕ) (n : ℕ) → BeginsNames b → IsLongestFront GoesOnAsName rest n → BeginsWith 46 (drop n rest) → IsLongestFront (BeginsExpected variant.Name) (b ∷ rest) (n + 2)
name_closed b rest n at h ends = closed_front (IsExpected variant.Name) b 46 rest n (name_ended b rest n at h) ends

pub no_name_begins : (bytes : List ℕ) → ((b : ℕ) (rest : List ℕ) → bytes ≡ b ∷ rest → ¬ BeginsNames b) → IsLongestFront (BeginsExpected variant.Name) bytes 0
no_name_begins bytes none =
    none_begins (IsExpected variant.Name) bytes
    (λ token b front tail more is spelled e. none b (front ++ tail) e (name_text token (b ∷ (front ++ more)) is spelled).0)

-- the same of a text with its first byte
pub name_dotted : (text : List ℕ) (n : ℕ) → BeginsNames (get_or text 0 0) → IsLongestFront GoesOnAsName (drop 1 text) n → BeginsWith 46 (drop n (drop 1 text)) → IsLongestFront (BeginsExpected variant.Name) text (n + 2)
name_dotted [] n at h ends = absurd (omega arith)
name_dotted (b ∷ rest) n at h ends = name_closed b rest n at h ends

pub name_undotted : (text : List ℕ) (n : ℕ) → BeginsNames (get_or text 0 0) → IsLongestFront GoesOnAsName (drop 1 text) n → ¬ BeginsWith 46 (drop n (drop 1 text)) → IsLongestFront (BeginsExpected variant.Name) text (n + 1)
name_undotted [] n at h ends = absurd (omega arith)
name_undotted (b ∷ rest) n at h ends = name_opened b rest n at h ends
