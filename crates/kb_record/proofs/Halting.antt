-- Where the reading of a form can't go on: what begins some list of the form there, and what doesn't.
use Rattle.std.proofs.Common.{◌≡◌, ◌⊎◌, inl, inr, ⊎_elim, ℕ, ℤ, List, [], ◌∷◌, ◌++◌, length, refl, sym, ap, ◌∙◌, subst, arith, length-append, append_assoc, append-nil}
use Rattle.kb_lexing.specs.Token.{Token, name, number, string, assign, comma, dots, rec_word}
use Rattle.kb_lexing.specs.Possible.{IsExpected, IsMark, MayBeName}
use Rattle.kb_lexing.specs.declared.place.Expected.{Expected}
use Rattle.kb_lexing.specs.declared.place.Expected.TheVariants as wanted
use Rattle.kb_record.specs.Nesting.{deepest}
use Rattle.kb_record.specs.Reading.{Reading, read, unexpected, too_deep, Parse}
use Rattle.kb_record.proofs.PlainTokens.{ArePlain}
use Rattle.kb_record.proofs.LastPassed.{same_split}
use Rattle.kb_record.proofs.OpenBrackets.{Within}
use Rattle.kb_record.proofs.ReadingForms.{last_of, MayStand}
use Rattle.kb_record.proofs.Elsewhere.{Ground, Elsewhere, Heads, SameKinds, Along, Same, Any, Kept}

-- some list of the form begins with the tokens, and what completes them is plain
pub record Opens (HasForm : List Token → Type 0) (tokens : List Token) : Type 0 where
  pub more : List Token
  pub plain : ArePlain more
  pub formed : HasForm (tokens ++ more)

pub opens_as : (HasForm : List Token → Type 0) (tokens others : List Token) → tokens ≡ others → Opens HasForm others → Opens HasForm tokens
opens_as HasForm tokens others e h = let P : List Token → Type 0 = λ ts. Opens HasForm ts in subst P (sym e) h

-- the reading can't go on, or has read what may come up to there
abbrev pub Goes : {A : Type 0} → Expected → Reading A → List Token → Type 0
Goes expected reading rest = (reading ≡ unexpected expected rest) ⊎ ((a : _) × (reading ≡ read a rest) × (expected ≡ wanted.Mark))

-- a list of the form is read to its end, or nests too deep
abbrev pub Completes : {A : Type 0} → Reading A → Type 0
Completes (read a rest) = rest ≡ []
Completes (unexpected expected rest) = ⊥
Completes (too_deep rest) = Unit {0}

-- what the reading tells of the tokens where it can't go on
pub record Raw (HasForm : List Token → Type 0) (tokens : List Token) (expected : Expected) (rest : List Token) : Type 0 where
  pub kept : List Token
  pub whole : tokens ≡ kept ++ (last_of expected ++ rest)
  pub begun : Opens HasForm (kept ++ last_of expected)
  pub others : (token : Token) → MayStand expected token → Opens HasForm (kept ++ token ∷ [])
  pub low : Within deepest 0 (kept ++ (last_of expected ++ comma ∷ []))
  pub numbered : expected ≡ wanted.Dots → (before : List Token) × (z : ℤ) × (kept ≡ before ++ number z ∷ [])
  pub not_renamed : (before : List Token) → kept ++ last_of expected ≡ before ++ rec_word ∷ [] → (MayBeName rec_word expected → ⊥) → (text : List ℕ) (more : List Token) → HasForm (before ++ name text ∷ more) → ⊥
  pub no_dots : expected ≡ wanted.Rec → (more : List Token) → HasForm ((kept ++ last_of expected) ++ rec_word ∷ dots ∷ more) → ⊥

-- and what other readings tell
pub record Halts (HasForm : List Token → Type 0) (tokens : List Token) (expected : Expected) (rest : List Token) : Type 0 where
  pub passed : List Token
  pub whole : tokens ≡ passed ++ rest
  pub begun : Opens HasForm passed
  pub expects : (token : Token) → IsExpected expected token → Opens HasForm (passed ++ token ∷ [])
  pub alone : (token : Token) (more : List Token) → HasForm (passed ++ token ∷ more) → IsExpected expected token ⊎ IsMark token
  pub no_next : (token : Token) (behind more : List Token) → rest ≡ token ∷ behind → HasForm (passed ++ token ∷ more) → ⊥
  pub renamed : (before : List Token) (last : Token) → passed ≡ before ++ last ∷ [] → MayBeName last expected → (text : List ℕ) → Opens HasForm (before ++ name text ∷ [])
  pub not_renamed : (before : List Token) → passed ≡ before ++ rec_word ∷ [] → (MayBeName rec_word expected → ⊥) → (text : List ℕ) (more : List Token) → HasForm (before ++ name text ∷ more) → ⊥
  pub numbered : expected ≡ wanted.Dots → (before : List Token) × (z : ℤ) × (passed ≡ before ++ number z ∷ [])
  pub no_dots : expected ≡ wanted.Rec → (more : List Token) → HasForm (passed ++ rec_word ∷ dots ∷ more) → ⊥
  pub low : Within deepest 0 (passed ++ comma ∷ [])

-- ---- a token is expected, or a mark, or neither

abbrev Either : Expected → Token → Type 0
Either expected token = (IsExpected expected token ⊎ IsMark token) ⊎ ((IsExpected expected token → ⊥) × (IsMark token → ⊥))

either_name : (expected : Expected) (a : List ℕ) → Either expected (name a)
either_name wanted.Name a = inl (inl tt)
either_name wanted.Value a = inl (inl tt)
either_name _ a = inr (λ h. h, λ h. h)

either_number : (expected : Expected) (z : ℤ) → Either expected (number z)
either_number wanted.Number z = inl (inl tt)
either_number wanted.Value z = inl (inl tt)
either_number _ z = inr (λ h. h, λ h. h)

either_string : (expected : Expected) (a : List ℕ) → Either expected (string a)
either_string wanted.Value a = inl (inl tt)
either_string _ a = inr (λ h. h, λ h. h)

either_assign : (expected : Expected) → Either expected assign
either_assign wanted.Assign = inl (inl tt)
either_assign _ = inr (λ h. h, λ h. h)

either_dots : (expected : Expected) → Either expected dots
either_dots wanted.Dots = inl (inl tt)
either_dots _ = inr (λ h. h, λ h. h)

either_rec : (expected : Expected) → Either expected rec_word
either_rec wanted.Value = inl (inl tt)
either_rec wanted.Rec = inl (inl tt)
either_rec _ = inr (λ h. h, λ h. h)

either : (expected : Expected) (token : Token) → Either expected token
either expected (name a) = either_name expected a
either expected (number z) = either_number expected z
either expected (string a) = either_string expected a
either expected assign = either_assign expected
either expected dots = either_dots expected
either expected rec_word = either_rec expected
either expected _ = inl (inr tt)

-- ---- the others of a ground

end_of : (g : Ground) (rest s passed others : List Token) → rest ≡ g.rest → SameKinds passed others → rest ≡ passed ++ g.rest → s ≡ others ++ g.others → s ≡ g.others
end_of g rest s [] [] e kinds w w' = w'
end_of g rest s (t ∷ passed) others e kinds w w' = let never : ⊥ = omega (arith, ap length e, ap length w, length-append passed g.rest) in absurd never
end_of g rest s [] (t ∷ others) e kinds w w' = absurd kinds

along_end : (g : Ground) (s : List Token) → Along g g.rest s → s ≡ g.others
along_end g s h = end_of g g.rest s h.passed h.others refl h.kinds h.whole h.whole'

same_kinds : (passed : List Token) → SameKinds passed passed
same_kinds [] = tt
same_kinds (t ∷ passed) = (inl refl, same_kinds passed)

named_kinds : (before : List Token) (a b : List ℕ) → SameKinds (before ++ name a ∷ []) (before ++ name b ∷ [])
named_kinds [] a b = (inr (tt, tt), tt)
named_kinds (t ∷ before) a b = (inl refl, named_kinds before a b)

-- with the last token apart
last_alone : (kept before : List Token) (last : Token) → kept ++ rec_word ∷ [] ≡ before ++ last ∷ [] → kept ≡ before
last_alone kept before last e = (same_split kept before (rec_word ∷ []) (last ∷ []) (omega (arith, ap length e, length-append kept (rec_word ∷ []), length-append before (last ∷ []))) e).fronts

no_last : (expected : Expected) (kept before : List Token) (a : List ℕ) → kept ++ last_of expected ≡ before ++ name a ∷ [] → (tail : List Token) → kept ++ (last_of expected ++ tail) ≡ kept ++ tail
no_last wanted.Fields kept before a e tail =
    let split = same_split kept before (rec_word ∷ []) (name a ∷ []) (omega (arith, ap length e, length-append kept (rec_word ∷ []), length-append before (name a ∷ []))) e in
    let never = split.backs in
    cc
no_last _ kept before a e tail = refl

stands_also : (expected : Expected) (token : Token) → IsExpected expected token → MayStand expected token
stands_also wanted.Fields token h = absurd h
stands_also wanted.Name token h = h
stands_also wanted.Number token h = h
stands_also wanted.Value token h = h
stands_also wanted.Assign token h = h
stands_also wanted.Dots token h = h
stands_also wanted.Rec token h = h
stands_also wanted.Mark token h = h

none_last : (expected : Expected) (token : Token) → IsExpected expected token → last_of expected ≡ []
none_last wanted.Fields token h = absurd h
none_last _ token h = refl

-- ---- a form and its reading

module _ {A : Type 0} (HasForm : List Token → Type 0) (P : Parse A) (kept : (g : Ground) → Kept g (Any g) P) (complete : (tokens : List Token) → HasForm tokens → Completes (P tokens))
    (raw : (tokens rest : List Token) (expected : Expected) → Goes expected (P tokens) rest → Raw HasForm tokens expected rest) where
  same_goes : (g : Ground) (x y : Reading A) → Same g (Any g) x y → Goes g.expected x g.rest → Goes g.expected y g.others
  same_goes g x y h (inl e) =
      let S : Reading A → Type 0 = λ r. Same g (Any g) r y in
      let found : Same g (Any g) (unexpected g.expected g.rest) y = subst S e h in
      ⊎_elim (λ beyond. let never : ⊥ = omega arith in absurd never) (λ f. (let at = f refl in inl (at.1 ∙ ap (unexpected g.expected) (along_end g at.0 at.2)))) found
  same_goes g x y h (inr (a, e, mark)) =
      let S : Reading A → Type 0 = λ r. Same g (Any g) r y in
      let found : Same g (Any g) (read a g.rest) y = subst S e h in
      ⊎_elim (λ beyond. let never : ⊥ = omega arith in absurd never) (λ at. inr (at.0, at.2 ∙ ap (read at.0) (along_end g at.1 at.4), mark)) found

  goes_elsewhere : (expected : Expected) (rest others passed passed' : List Token) → Elsewhere expected rest others → SameKinds passed passed' → Goes expected (P (passed ++ rest)) rest → Goes expected (P (passed' ++ others)) others
  goes_elsewhere expected rest others passed passed' elsewhere kinds h =
      let g : Ground = record { expected = expected; rest = rest; others = others; elsewhere = elsewhere } in
      let along : Along g (passed ++ rest) (passed' ++ others) = record { passed = passed; others = passed'; kinds = kinds; whole = refl; whole' = refl } in
      same_goes g (P (passed ++ rest)) (P (passed' ++ others)) ((kept g).same (passed ++ rest) (passed' ++ others) along) h

  not_formed : (expected : Expected) (tokens more : List Token) (t : Token) → Goes expected (P tokens) (t ∷ more) → HasForm tokens → ⊥
  not_formed expected tokens more t (inl e) h = let C : Reading A → Type 0 = Completes in subst C e (complete tokens h)
  not_formed expected tokens more t (inr (a, e, mark)) h = let C : Reading A → Type 0 = Completes in let never : t ∷ more ≡ [] = subst C e (complete tokens h) in cc

  module _ (tokens rest : List Token) (expected : Expected) (goes : Goes expected (P tokens) rest) where
    at : Raw HasForm tokens expected rest
    at = raw tokens rest expected goes

    abbrev here : List Token
    here = at.kept ++ last_of expected

    here_whole : tokens ≡ here ++ rest
    here_whole = at.whole ∙ sym (append_assoc at.kept (last_of expected) rest)

    here_goes : Goes expected (P (here ++ rest)) rest
    here_goes = let Q : List Token → Type 0 = λ ts. Goes expected (P ts) rest in subst Q here_whole goes

    none_begins : (t : Token) (more : List Token) → Elsewhere expected rest (t ∷ more) → HasForm (here ++ t ∷ more) → ⊥
    none_begins t more elsewhere h = not_formed expected (here ++ t ∷ more) more t (goes_elsewhere expected rest (t ∷ more) here here elsewhere (same_kinds here) here_goes) h

    no_next : (t : Token) (behind more : List Token) → rest ≡ t ∷ behind → HasForm (here ++ t ∷ more) → ⊥
    no_next t behind more e h =
        let heads : Heads t (t ∷ behind) = refl in
        let Q : List Token → Type 0 = λ ts. Heads t ts in
        none_begins t more (inr (t, more, refl, inl (subst Q (sym e) heads))) h

    alone : (t : Token) (more : List Token) → HasForm (here ++ t ∷ more) → IsExpected expected t ⊎ IsMark t
    alone t more h = ⊎_elim (λ found. found) (λ apart. absurd (none_begins t more (inr (t, more, refl, inr apart)) h)) (either expected t)

    expects : (t : Token) → IsExpected expected t → Opens HasForm (here ++ t ∷ [])
    expects t h =
        let none : here ≡ at.kept = ap (λ ts. at.kept ++ ts) (none_last expected t h) ∙ append-nil at.kept in
        opens_as HasForm _ _ (ap (λ ts. ts ++ t ∷ []) none) (at.others t (stands_also expected t h))

    -- another name stands last
    other_name : (before : List Token) (a b : List ℕ) → here ≡ before ++ name a ∷ [] → Opens HasForm (before ++ name b ∷ [])
    other_name before a b e =
        let Q : List Token → Type 0 = λ ts. Goes expected (P (ts ++ rest)) rest in
        let other : Goes expected (P ((before ++ name b ∷ []) ++ rest)) rest = goes_elsewhere expected rest rest (before ++ name a ∷ []) (before ++ name b ∷ []) (inl refl) (named_kinds before a b) (subst Q e here_goes) in
        let there : Raw HasForm ((before ++ name b ∷ []) ++ rest) expected rest = raw _ rest expected other in
        let whole : (before ++ name b ∷ []) ++ rest ≡ (there.kept ++ last_of expected) ++ rest = there.whole ∙ sym (append_assoc there.kept (last_of expected) rest) in
        let lengths : length (before ++ name b ∷ []) ≡ length (there.kept ++ last_of expected) = omega (arith, ap length whole, length-append (before ++ name b ∷ []) rest, length-append (there.kept ++ last_of expected) rest) in
        opens_as HasForm _ _ (same_split _ _ rest rest lengths whole).fronts there.begun

    renamed : (before : List Token) (last : Token) → here ≡ before ++ last ∷ [] → MayBeName last expected → (text : List ℕ) → Opens HasForm (before ++ name text ∷ [])
    renamed before (name a) e may text = other_name before a text e
    renamed before rec_word e may text = renamed_rec expected refl may
      where
        renamed_rec : (x : Expected) → expected ≡ x → MayBeName rec_word x → Opens HasForm (before ++ name text ∷ [])
        renamed_rec wanted.Fields same may' =
            let kept_is : at.kept ≡ before = last_alone at.kept before rec_word (ap (λ x. at.kept ++ last_of x) (sym same) ∙ e) in
            let M : Expected → Type 0 = λ x. MayStand x (name text) in
            let stands : MayStand wanted.Fields (name text) = tt in
            opens_as HasForm _ _ (ap (λ ts. ts ++ name text ∷ []) (sym kept_is)) (at.others (name text) (subst M (sym same) stands))
        renamed_rec _ same may' = absurd may'
    renamed before _ e may text = absurd may

    numbered : expected ≡ wanted.Dots → (before : List Token) × (z : ℤ) × (here ≡ before ++ number z ∷ [])
    numbered e = let found = at.numbered e in (found.0, found.1, ap (λ x. at.kept ++ last_of x) e ∙ append-nil at.kept ∙ found.2)

    pub halts : Halts HasForm tokens expected rest
    halts = record {
      passed = here;
      whole = here_whole;
      begun = at.begun;
      expects = expects;
      alone = alone;
      no_next = no_next;
      renamed = renamed;
      not_renamed = at.not_renamed;
      numbered = numbered;
      no_dots = at.no_dots;
      low = (let Q : List Token → Type 0 = λ ts. Within deepest 0 ts in subst Q (sym (append_assoc at.kept (last_of expected) (comma ∷ []))) at.low);
    }
