-- Reading the same tokens, or others in which names stand for names, before other tokens that it can't take either.
use Rattle.std.proofs.Common.{◌≡◌, ◌⊎◌, inl, inr, ℕ, ◌<◌, List, [], ◌∷◌, ◌++◌, length, Bool, true, false, if◌then◌else◌, Option, Some, None, refl, sym, ap, ◌∙◌, subst, arith, length-append}
use Rattle.kb_lexing.specs.Token.{Token, name}
use Rattle.kb_lexing.specs.Possible.{IsExpected, IsMark}
use Rattle.kb_lexing.specs.declared.place.Expected.{Expected}
use Rattle.kb_record.specs.Reading.{Reading, read, unexpected, too_deep, Parse, and_then, behind, is_mark}
use Rattle.kb_record.specs.declared.cursor.Mark.{Mark}
use Rattle.kb_record.specs.declared.cursor.Mark.TheVariants.{Assign, OpenRound, CloseRound, OpenSquare, CloseSquare, Comma, Semicolon, Star, Caret, Dots, Rec}
use Rattle.kb_record.proofs.PassedMarks.{mark_token, is_mark-true, behind-is}

-- the token stands first
abbrev pub Heads : Token → List Token → Type 0
Heads t [] = ⊥
Heads t (u ∷ us) = u ≡ t

-- the same tokens; or some of which the first is that of the rest, or is neither expected nor a mark
abbrev pub Elsewhere : Expected → List Token → List Token → Type 0
Elsewhere expected rest others =
    (others ≡ rest) ⊎ ((t : Token) × (more : List Token) × (others ≡ t ∷ more) × (Heads t rest ⊎ ((IsExpected expected t → ⊥) × (IsMark t → ⊥))))

-- what is expected where the reading can't go on, the tokens there, and the other ones
pub record Ground : Type 0 where
  pub expected : Expected
  pub rest : List Token
  pub others : List Token
  pub elsewhere : Elsewhere expected rest others

abbrev pub IsNamed : Token → Type 0
IsNamed (name text) = Unit {0}
IsNamed _ = ⊥

-- one token, or two names
abbrev pub SameKind : Token → Token → Type 0
SameKind t u = (t ≡ u) ⊎ (IsNamed t × IsNamed u)

abbrev pub SameKinds : List Token → List Token → Type 0
SameKinds [] [] = Unit {0}
SameKinds (t ∷ ts) (u ∷ us) = SameKind t u × SameKinds ts us
SameKinds _ _ = ⊥

two_names : (t u : Token) (P : Token → Token → Type 0) → ((a b : List ℕ) → P (name a) (name b)) → IsNamed t → IsNamed u → P t u
two_names (name a) (name b) P names h k = names a b
two_names (name a) _ P names h k = absurd k
two_names _ u P names h k = absurd h

pub kinds : (t u : Token) (P : Token → Token → Type 0) → SameKind t u → ((t : Token) → P t t) → ((a b : List ℕ) → P (name a) (name b)) → P t u
kinds t u P (inl e) same names = let Q : Token → Type 0 = λ x. P t x in subst Q e (same t)
kinds t u P (inr h) same names = two_names t u P names h.0 h.1

same_length : (ts us : List Token) → SameKinds ts us → length ts ≡ length us
same_length [] [] h = refl
same_length (t ∷ ts) (u ∷ us) h = let e = same_length ts us h.1 in omega arith
same_length [] (u ∷ us) h = absurd h
same_length (t ∷ ts) [] h = absurd h

module _ (g : Ground) where
  -- the rest was gone beyond
  abbrev pub Beyond : List Token → Type 0
  Beyond ts = length ts < length g.rest

  pub record Along (ts us : List Token) : Type 0 where
    pub passed : List Token
    pub others : List Token
    pub kinds : SameKinds passed others
    pub whole : ts ≡ passed ++ g.rest
    pub whole' : us ≡ others ++ g.others

  pub along_here : Along g.rest g.others
  along_here = record { passed = []; others = []; kinds = tt; whole = refl; whole' = refl }

  pub along_on : (t u : Token) (ts us : List Token) → SameKind t u → Along ts us → Along (t ∷ ts) (u ∷ us)
  along_on t u ts us kind h = record { passed = t ∷ h.passed; others = u ∷ h.others; kinds = (kind, h.kinds); whole = ap (λ x. t ∷ x) h.whole; whole' = ap (λ x. u ∷ x) h.whole' }

  pub data Next (ts us : List Token) : Type 0 where
    here : ts ≡ g.rest → us ≡ g.others → Next ts us
    on : (t u : Token) (ts' us' : List Token) → SameKind t u → Along ts' us' → ts ≡ t ∷ ts' → us ≡ u ∷ us' → Next ts us

  next_of : (ts us passed others : List Token) → SameKinds passed others → ts ≡ passed ++ g.rest → us ≡ others ++ g.others → Next ts us
  next_of ts us [] [] h e f = here e f
  next_of ts us (t ∷ passed) (u ∷ others) h e f = on t u (passed ++ g.rest) (others ++ g.others) h.0 (record { passed = passed; others = others; kinds = h.1; whole = refl; whole' = refl }) e f
  next_of ts us [] (u ∷ others) h e f = absurd h
  next_of ts us (t ∷ passed) [] h e f = absurd h

  pub next : (ts us : List Token) → Along ts us → Next ts us
  next ts us h = next_of ts us h.passed h.others h.kinds h.whole h.whole'

  pub along_shorter : (ts us ts' us' : List Token) → Along ts us → Along ts' us' → length ts' < length ts → length us' < length us
  along_shorter ts us ts' us' h k less =
      omega (
        arith,
        less,
        ap length h.whole,
        ap length h.whole',
        ap length k.whole,
        ap length k.whole',
        length-append h.passed g.rest,
        length-append h.others g.others,
        length-append k.passed g.rest,
        length-append k.others g.others,
        same_length h.passed h.others h.kinds,
        same_length k.passed k.others k.kinds,
      )

  -- all that is left is beyond
  abbrev pub Past : {A : Type 0} → Reading A → Type 0
  Past (read a r) = Beyond r
  Past (unexpected e r) = Beyond r
  Past (too_deep r) = Unit {0}

  -- as far as the rest, the one reading goes as the other
  abbrev pub Same : {A : Type 0} → (A → A → Type 0) → Reading A → Reading A → Type 0
  Same R (read a r) x = Beyond r ⊎ ((b : _) × (s : List Token) × (x ≡ read b s) × R a b × Along r s)
  Same R (unexpected e r) x = Beyond r ⊎ (e ≡ g.expected → (s : List Token) × (x ≡ unexpected e s) × Along r s)
  Same R (too_deep r) x = Unit {0}

  -- whatever is read
  abbrev pub Any : {A : Type 0} → A → A → Type 0
  Any a b = Unit {0}

  pub past_same : {A : Type 0} (R : A → A → Type 0) (x y : Reading A) → Past x → Same R x y
  past_same R (read a r) y h = inl h
  past_same R (unexpected e r) y h = inl h
  past_same R (too_deep r) y h = tt

  pub past_as : {A : Type 0} (x y : Reading A) → x ≡ y → Past y → Past x
  past_as x y e h = let P : Reading _ → Type 0 = λ r. Past r in subst P (sym e) h

  pub same_as : {A : Type 0} (R : A → A → Type 0) (x x' y y' : Reading A) → x ≡ x' → y ≡ y' → Same R x' y' → Same R x y
  same_as R x x' y y' e f h =
      let P : Reading _ → Type 0 = λ r. Same R r y' in
      let Q : Reading _ → Type 0 = λ r. Same R x r in
      subst Q (sym f) (subst P (sym e) h)

  pub past_then : {A B : Type 0} (x : Reading A) (next : A → Parse B) → Past x → ((a : A) (r : List Token) → Beyond r → Past (next a r)) → Past (and_then x next)
  past_then (read a r) next h k = k a r h
  past_then (unexpected e r) next h k = h
  past_then (too_deep r) next h k = tt

  same_read : {A B : Type 0} (R : A → A → Type 0) (S : B → B → Type 0) (a : A) (r : List Token) (x' : Reading A) (next next' : A → Parse B) → (Beyond r ⊎ ((b : A) × (s : List Token) × (x' ≡ read b s) × R a b × Along r s)) → (Beyond r → Past (next a r))
      → ((b : A) (s : List Token) → R a b → Along r s → Same S (next a r) (next' b s)) → Same S (next a r) (and_then x' next')
  same_read R S a r x' next next' (inl beyond) past same = past_same S (next a r) (and_then x' next') (past beyond)
  same_read R S a r x' next next' (inr h) past same = same_as S (next a r) (next a r) _ _ refl (ap (λ y. and_then y next') h.2) (same h.0 h.1 h.3 h.4)

  same_stuck : {A B : Type 0} (e : Expected) (r : List Token) (x' : Reading A) (next' : A → Parse B) → (Beyond r ⊎ (e ≡ g.expected → (s : List Token) × (x' ≡ unexpected e s) × Along r s))
      → Beyond r ⊎ (e ≡ g.expected → (s : List Token) × (and_then x' next' ≡ unexpected e s) × Along r s)
  same_stuck e r x' next' (inl beyond) = inl beyond
  same_stuck e r x' next' (inr h) = inr (λ same. (let found = h same in (found.0, ap (λ y. and_then y next') found.1, found.2)))

  pub same_then : {A B : Type 0} (R : A → A → Type 0) (S : B → B → Type 0) (x x' : Reading A) (next next' : A → Parse B) → Same R x x' → ((a : A) (r : List Token) → Beyond r → Past (next a r))
      → ((a b : A) (r s : List Token) → x ≡ read a r → R a b → Along r s → Same S (next a r) (next' b s)) → Same S (and_then x next) (and_then x' next')
  same_then R S (read a r) x' next next' h past same = same_read R S a r x' next next' h (past a r) (λ b s. same a b r s refl)
  same_then R S (unexpected e r) x' next next' h past same = same_stuck e r x' next' h
  same_then R S (too_deep r) x' next next' h past same = tt

  -- reading before tokens that are along
  pub record Kept {A : Type 0} (R : A → A → Type 0) (parse : Parse A) : Type 0 where
    pub past : (ts : List Token) → Beyond ts → Past (parse ts)
    pub same : (ts us : List Token) → Along ts us → Same R (parse ts) (parse us)

  -- ---- marks

  -- the mark has one byte, or is expected where the reading can't go on
  abbrev pub Covered : Mark → Type 0
  Covered mark = IsMark (mark_token mark) ⊎ IsExpected g.expected (mark_token mark)

  pub data Marks (mark : Mark) (ts us : List Token) : Type 0 where
    both : (r s : List Token) → behind mark ts ≡ Some r → behind mark us ≡ Some s → Along r s → Marks mark ts us
    gone : (r : List Token) → behind mark ts ≡ Some r → Beyond r → Marks mark ts us
    none : behind mark ts ≡ None → (Covered mark → behind mark us ≡ None) → Marks mark ts us

  behind_token : (mark : Mark) (t : Token) (ts : List Token) (b : Bool) → is_mark mark t ≡ b → behind mark (t ∷ ts) ≡ (if b then Some ts else None)
  behind_token mark t ts b e = ap (λ x. if x then Some ts else None) e

  not_mark : (mark : Mark) (t : Token) (b : Bool) → is_mark mark t ≡ b → (t ≡ mark_token mark → ⊥) → is_mark mark t ≡ false
  not_mark mark t true e h = absurd (h (is_mark-true mark t e))
  not_mark mark t false e h = e

  head_stays : (mark : Mark) (t : Token) (more rest : List Token) → Heads t rest → behind mark rest ≡ None → (b : Bool) → is_mark mark t ≡ b → behind mark (t ∷ more) ≡ None
  head_stays mark t more [] h e b f = absurd h
  head_stays mark t more (u ∷ us) h e true f =
      let never : ◌≡◌ {A = Option (List Token)} (Some us) None = sym (behind_token mark t us true f) ∙ ap (λ x. behind mark (x ∷ us)) (sym h) ∙ e in
      cc
  head_stays mark t more (u ∷ us) h e false f = behind_token mark t more false f

  uncovered : (mark : Mark) (t : Token) → Covered mark → (IsExpected g.expected t → ⊥) → (IsMark t → ⊥) → t ≡ mark_token mark → ⊥
  uncovered mark t (inl one) expected marked e = let P : Token → Type 0 = IsMark in marked (subst P (sym e) one)
  uncovered mark t (inr wanted) expected marked e = let P : Token → Type 0 = λ x. IsExpected g.expected x in expected (subst P (sym e) wanted)

  mark_elsewhere : (mark : Mark) → Elsewhere g.expected g.rest g.others → behind mark g.rest ≡ None → Covered mark → behind mark g.others ≡ None
  mark_elsewhere mark (inl e) f covered = ap (behind mark) e ∙ f
  mark_elsewhere mark (inr (t, more, e, inl heads)) f covered = ap (behind mark) e ∙ head_stays mark t more g.rest heads f (is_mark mark t) refl
  mark_elsewhere mark (inr (t, more, e, inr apart)) f covered = ap (behind mark) e ∙ behind_token mark t more false (not_mark mark t (is_mark mark t) refl (uncovered mark t covered apart.0 apart.1))

  marks_here : (mark : Mark) (o : Option (List Token)) → behind mark g.rest ≡ o → Marks mark g.rest g.others
  marks_here mark None e = none e (mark_elsewhere mark g.elsewhere e)
  marks_here mark (Some r) e = gone r e (let whole = ap length (behind-is mark g.rest r e) in omega arith)

  no_mark_name : (mark : Mark) (a : List ℕ) → is_mark mark (name a) ≡ false
  no_mark_name Assign a = refl
  no_mark_name OpenRound a = refl
  no_mark_name CloseRound a = refl
  no_mark_name OpenSquare a = refl
  no_mark_name CloseSquare a = refl
  no_mark_name Comma a = refl
  no_mark_name Semicolon a = refl
  no_mark_name Star a = refl
  no_mark_name Caret a = refl
  no_mark_name Dots a = refl
  no_mark_name Rec a = refl

  marks_token : (mark : Mark) (t u : Token) (ts us : List Token) (b : Bool) → is_mark mark t ≡ b → is_mark mark u ≡ b → Along ts us → Marks mark (t ∷ ts) (u ∷ us)
  marks_token mark t u ts us true e f h = both ts us (behind_token mark t ts true e) (behind_token mark u us true f) h
  marks_token mark t u ts us false e f h = none (behind_token mark t ts false e) (λ covered. behind_token mark u us false f)

  marks_on : (mark : Mark) (t u : Token) (ts us : List Token) → SameKind t u → Along ts us → Marks mark (t ∷ ts) (u ∷ us)
  marks_on mark t u ts us kind h =
      kinds t u (λ x y. Marks mark (x ∷ ts) (y ∷ us)) kind (λ x. marks_token mark x x ts us (is_mark mark x) refl refl h) (λ a b. marks_token mark (name a) (name b) ts us false (no_mark_name mark a) (no_mark_name mark b) h)

  marks_next : (mark : Mark) (ts us : List Token) → Next ts us → Marks mark ts us
  marks_next mark ts us (here e f) =
      let P : List Token → Type 0 = λ x. Marks mark x us in
      let Q : List Token → Type 0 = λ x. Marks mark g.rest x in
      subst P (sym e) (subst Q (sym f) (marks_here mark (behind mark g.rest) refl))
  marks_next mark ts us (on t u ts' us' kind h e f) =
      let P : List Token → Type 0 = λ x. Marks mark x us in
      let Q : List Token → Type 0 = λ x. Marks mark (t ∷ ts') x in
      subst P (sym e) (subst Q (sym f) (marks_on mark t u ts' us' kind h))

  pub marks : (mark : Mark) (ts us : List Token) → Along ts us → Marks mark ts us
  marks mark ts us h = marks_next mark ts us (next ts us h)

  pub mark_beyond : (mark : Mark) (ts r : List Token) → behind mark ts ≡ Some r → Beyond ts → Beyond r
  mark_beyond mark ts r e h = let whole = ap length (behind-is mark ts r e) in omega arith
