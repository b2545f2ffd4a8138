-- Single tokens, marks and rows, read elsewhere.
use Rattle.std.proofs.Common.{◌≡◌, ◌⊎◌, inl, inr, ℕ, zero, suc, ◌<◌, ℤ, List, [], ◌∷◌, length, Bool, true, false, if◌then◌else◌, Option, Some, None, refl, sym, ap, ◌∙◌, subst, arith}
use Rattle.kb_lexing.specs.Token.{Token, name, number}
use Rattle.kb_lexing.specs.Possible.{IsExpected, IsMark}
use Rattle.kb_lexing.specs.declared.place.Expected.{Expected}
use Rattle.kb_lexing.specs.declared.place.Expected.TheVariants as wanted
use Rattle.kb_record.specs.Reading.{Reading, read, unexpected, too_deep, Parse, and_then, reading_map, behind, past, passes, passes_to, passes_comma, comma_unless, read_name, read_number, joined, row}
use Rattle.kb_record.specs.declared.cursor.Mark.{Mark}
use Rattle.kb_record.specs.declared.cursor.Mark.TheVariants.{Comma}
use Rattle.kb_record.proofs.PassedMarks.{mark_token}
use Rattle.kb_record.proofs.Elsewhere.{Ground, Heads, Elsewhere, SameKind, kinds, Beyond, Along, along_here, along_on, Next, here, on, next, along_shorter, Past, Same, Any, past_same, past_as, same_as, past_then, same_then, Kept, Covered, Marks, both, gone, none, marks, mark_beyond}

module _ (g : Ground) where
  -- what is expected there is expected where the reading can't go on
  pub covers : (mark : Mark) (e : Expected) → (IsMark (mark_token mark) ⊎ IsExpected e (mark_token mark)) → e ≡ g.expected → Covered g mark
  covers mark e (inl one) same = inl one
  covers mark e (inr h) same = inr (let P : Expected → Type 0 = λ x. IsExpected x (mark_token mark) in subst P same h)

  -- ---- behind a mark

  past_to : {A : Type 0} (mark : Mark) (e : Expected) (ts : List Token) (o : Option (List Token)) (next : Parse A) → behind mark ts ≡ o → Beyond g ts → ((r : List Token) → Beyond g r → Past g (next r)) → Past g (past e ts o next)
  past_to mark e ts None next f h k = h
  past_to mark e ts (Some r) next f h k = k r (mark_beyond g mark ts r f h)

  pub past_mark : {A : Type 0} (mark : Mark) (e : Expected) (ts : List Token) (next : Parse A) → Beyond g ts → ((r : List Token) → Beyond g r → Past g (next r)) → Past g (past e ts (behind mark ts) next)
  past_mark mark e ts next h k = past_to mark e ts (behind mark ts) next refl h k

  same_marks : {A : Type 0} (R : A → A → Type 0) (mark : Mark) (e : Expected) (ts us : List Token) (next next' : Parse A) → (e ≡ g.expected → Covered g mark) → Along g ts us → Marks g mark ts us → ((r : List Token) → Beyond g r → Past g (next r))
      → ((r s : List Token) → Along g r s → Same g R (next r) (next' s)) → Same g R (past e ts (behind mark ts) next) (past e us (behind mark us) next')
  same_marks R mark e ts us next next' covered h (both r s f f' k) gone_on same =
      same_as g R _ _ _ _ (ap (λ o. past e ts o next) f) (ap (λ o. past e us o next') f') (same r s k)
  same_marks R mark e ts us next next' covered h (gone r f beyond) gone_on same =
      same_as g R _ _ _ _ (ap (λ o. past e ts o next) f) refl (past_same g R (next r) _ (gone_on r beyond))
  same_marks R mark e ts us next next' covered h (none f f') gone_on same =
      let found : Same g R (unexpected e ts) (past e us (behind mark us) next') = inr (λ here. (us, ap (λ o. past e us o next') (f' (covered here)), h)) in
      same_as g R _ _ _ _ (ap (λ o. past e ts o next) f) refl found

  pub same_mark : {A : Type 0} (R : A → A → Type 0) (mark : Mark) (e : Expected) (ts us : List Token) (next next' : Parse A) → (IsMark (mark_token mark) ⊎ IsExpected e (mark_token mark)) → Along g ts us → ((r : List Token) → Beyond g r → Past g (next r))
      → ((r s : List Token) → Along g r s → Same g R (next r) (next' s)) → Same g R (past e ts (behind mark ts) next) (past e us (behind mark us) next')
  same_mark R mark e ts us next next' c h gone_on same = same_marks R mark e ts us next next' (covers mark e c) h (marks g mark ts us h) gone_on same

  -- ---- single tokens

  -- a token of a kind has to stand first
  abbrev one_to : {A : Type 0} → Expected → Option A → Token → List Token → Reading A
  one_to e None t ts = unexpected e (t ∷ ts)
  one_to e (Some a) t ts = read a ts

  abbrev pub one : {A : Type 0} → Expected → (Token → Option A) → Parse A
  one e f [] = unexpected e []
  one e f (t ∷ ts) = one_to e (f t) t ts

  module _ {A : Type 0} (e : Expected) (f : Token → Option A) (some : (t : Token) (a : A) → f t ≡ Some a → IsExpected e t) (names : (a b : List ℕ) → f (name a) ≡ None → f (name b) ≡ None) where
    token_past : (t : Token) (ts : List Token) (o : Option A) → f t ≡ o → Beyond g (t ∷ ts) → Past g (one_to e o t ts)
    token_past t ts None h k = k
    token_past t ts (Some a) h k = omega arith

    one_past : (ts : List Token) → Beyond g ts → Past g (one e f ts)
    one_past [] h = h
    one_past (t ∷ ts) h = token_past t ts (f t) refl h

    abbrev Fails : List Token → Type 0
    Fails ts = one e f ts ≡ unexpected e ts

    token_fails : (t : Token) (ts : List Token) → f t ≡ None → Fails (t ∷ ts)
    token_fails t ts h = ap (λ o. one_to e o t ts) h

    none_of : (t : Token) (ts : List Token) (o : Option A) → f t ≡ o → Fails (t ∷ ts) → f t ≡ None
    none_of t ts None h k = h
    none_of t ts (Some a) h k = let never : ◌≡◌ {A = Reading A} (read a ts) (unexpected e (t ∷ ts)) = sym (ap (λ o. one_to e o t ts) h) ∙ k in cc

    head_fails : (t : Token) (more rest : List Token) → Heads t rest → Fails rest → Fails (t ∷ more)
    head_fails t more [] heads h = absurd heads
    head_fails t more (u ∷ us) heads h = let P : Token → Type 0 = λ x. Fails (x ∷ more) in subst P heads (token_fails u more (none_of u us (f u) refl h))

    apart_fails : (t : Token) (more : List Token) (o : Option A) → f t ≡ o → (IsExpected e t → ⊥) → Fails (t ∷ more)
    apart_fails t more None h k = token_fails t more h
    apart_fails t more (Some a) h k = absurd (k (some t a h))

    one_elsewhere : Elsewhere g.expected g.rest g.others → e ≡ g.expected → Fails g.rest → Fails g.others
    one_elsewhere (inl w) same h = let P : List Token → Type 0 = Fails in subst P (sym w) h
    one_elsewhere (inr (t, more, w, inl heads)) same h = let P : List Token → Type 0 = Fails in subst P (sym w) (head_fails t more g.rest heads h)
    one_elsewhere (inr (t, more, w, inr apart)) same h =
        let P : List Token → Type 0 = Fails in
        let Q : Expected → Type 0 = λ x. IsExpected x t → ⊥ in
        subst P (sym w) (apart_fails t more (f t) refl (subst Q (sym same) apart.0))

    stays_here : (ts : List Token) → ts ≡ g.rest → Fails ts → Same g (Any g) (one e f ts) (one e f g.others)
    stays_here ts w h =
        let P : List Token → Type 0 = Fails in
        let Q : List Token → Type 0 = λ x. Along g x g.others in
        let found : Same g (Any g) (unexpected e ts) (one e f g.others) = inr (λ same. (g.others, one_elsewhere g.elsewhere same (subst P w h), subst Q (sym w) (along_here g))) in
        same_as g (Any g) _ _ _ _ h refl found

    token_here : (t : Token) (ts : List Token) (o : Option A) → f t ≡ o → t ∷ ts ≡ g.rest → Same g (Any g) (one e f (t ∷ ts)) (one e f g.others)
    token_here t ts None h w = stays_here (t ∷ ts) w (token_fails t ts h)
    token_here t ts (Some a) h w = past_same g (Any g) _ _ (past_as g _ _ (ap (λ o. one_to e o t ts) h) (let whole = ap length w in omega arith))

    one_here : (ts : List Token) → ts ≡ g.rest → Same g (Any g) (one e f ts) (one e f g.others)
    one_here [] w = stays_here [] w refl
    one_here (t ∷ ts) w = token_here t ts (f t) refl w

    one_on : (t u : Token) (ts us : List Token) (o o' : Option A) → SameKind t u → Along g ts us → f t ≡ o → f u ≡ o' → (f t ≡ None → f u ≡ None) → (f u ≡ None → f t ≡ None) → Same g (Any g) (one e f (t ∷ ts)) (one e f (u ∷ us))
    one_on t u ts us None o' kind h k k' to back =
        let found : Same g (Any g) (unexpected e (t ∷ ts)) (one e f (u ∷ us)) = inr (λ same. (u ∷ us, token_fails u us (to k), along_on g t u ts us kind h)) in
        same_as g (Any g) _ _ _ _ (ap (λ o. one_to e o t ts) k) refl found
    one_on t u ts us (Some a) None kind h k k' to back = let never = sym k ∙ back k' in cc
    one_on t u ts us (Some a) (Some b) kind h k k' to back =
        let found : Same g (Any g) (read a ts) (read b us) = inr (b, us, refl, tt, h) in
        same_as g (Any g) _ _ _ _ (ap (λ o. one_to e o t ts) k) (ap (λ o. one_to e o u us) k') found

    kind_none : (t u : Token) → SameKind t u → f t ≡ None → f u ≡ None
    kind_none t u kind = kinds t u (λ x y. f x ≡ None → f y ≡ None) kind (λ x h. h) (λ a b. names a b)

    kind_back : (t u : Token) → SameKind t u → f u ≡ None → f t ≡ None
    kind_back t u kind = kinds t u (λ x y. f y ≡ None → f x ≡ None) kind (λ x h. h) (λ a b. names b a)

    one_next : (ts us : List Token) → Next g ts us → Same g (Any g) (one e f ts) (one e f us)
    one_next ts us (here w w') = let P : List Token → Type 0 = λ x. Same g (Any g) (one e f ts) (one e f x) in subst P (sym w') (one_here ts w)
    one_next ts us (on t u ts' us' kind h w w') = same_as g (Any g) _ _ _ _ (ap (one e f) w) (ap (one e f) w') (one_on t u ts' us' (f t) (f u) kind h refl refl (kind_none t u kind) (kind_back t u kind))

    pub one_kept : Kept g (Any g) (one e f)
    one_kept = record { past = one_past; same = λ ts us h. one_next ts us (next g ts us h) }

  -- what reads the same is kept too
  pub kept_as : {A : Type 0} (R : A → A → Type 0) (parse other : Parse A) → ((ts : List Token) → parse ts ≡ other ts) → Kept g R other → Kept g R parse
  kept_as R parse other e h = record { past = λ ts k. past_as g _ _ (e ts) (h.past ts k); same = λ ts us k. same_as g R _ _ _ _ (e ts) (e us) (h.same ts us k) }

  abbrev name_of : Token → Option (List ℕ)
  name_of (name a) = Some a
  name_of _ = None

  name_some : (t : Token) (a : List ℕ) → name_of t ≡ Some a → IsExpected wanted.Name t
  name_some (name b) a e = tt
  name_some _ a e = cc

  name_is : (ts : List Token) → read_name ts ≡ one wanted.Name name_of ts
  name_is [] = refl
  name_is (name a ∷ ts) = refl
  name_is (t ∷ ts) = refl

  pub kept_name : Kept g (Any g) read_name
  kept_name = kept_as (Any g) read_name (one wanted.Name name_of) name_is (one_kept wanted.Name name_of name_some (λ a b e. cc))

  abbrev number_of : Token → Option ℤ
  number_of (number z) = Some z
  number_of _ = None

  number_some : (t : Token) (z : ℤ) → number_of t ≡ Some z → IsExpected wanted.Number t
  number_some (number y) z e = tt
  number_some _ z e = cc

  number_is : (ts : List Token) → read_number ts ≡ one wanted.Number number_of ts
  number_is [] = refl
  number_is (number z ∷ ts) = refl
  number_is (t ∷ ts) = refl

  pub kept_number : Kept g (Any g) read_number
  kept_number = kept_as (Any g) read_number (one wanted.Number number_of) number_is (one_kept wanted.Number number_of number_some (λ a b e. refl))

  -- ---- what comes between items

  -- one answer
  abbrev pub Equal : {A : Type 0} → A → A → Type 0
  Equal a b = a ≡ b

  passes_past : (mark : Mark) (ts : List Token) (o : Option (List Token)) → behind mark ts ≡ o → Beyond g ts → Past g (passes_to ts o)
  passes_past mark ts None e h = h
  passes_past mark ts (Some r) e h = mark_beyond g mark ts r e h

  passes_marks : (mark : Mark) (ts us : List Token) → IsMark (mark_token mark) → Along g ts us → Marks g mark ts us → Same g Equal (passes mark ts) (passes mark us)
  passes_marks mark ts us c h (both r s f f' k) = let found : Same g Equal (read true r) (read true s) = inr (true, s, refl, refl, k) in same_as g Equal _ _ _ _ (ap (passes_to ts) f) (ap (passes_to us) f') found
  passes_marks mark ts us c h (gone r f beyond) = past_same g Equal _ _ (past_as g _ _ (ap (passes_to ts) f) beyond)
  passes_marks mark ts us c h (none f f') = let found : Same g Equal (read false ts) (read false us) = inr (false, us, refl, refl, h) in same_as g Equal _ _ _ _ (ap (passes_to ts) f) (ap (passes_to us) (f' (inl c))) found

  pub kept_passes : (mark : Mark) → IsMark (mark_token mark) → Kept g Equal (passes mark)
  kept_passes mark c = record { past = λ ts h. passes_past mark ts (behind mark ts) refl h; same = λ ts us h. passes_marks mark ts us c h (marks g mark ts us h) }

  comma_past : (mark : Mark) (e : Expected) (ts : List Token) (o : Option (List Token)) → behind mark ts ≡ o → Beyond g ts → Past g (comma_unless e ts o)
  comma_past mark e ts None f h = past_mark Comma e ts (λ r. read true r) h (λ r k. k)
  comma_past mark e ts (Some r) f h = mark_beyond g mark ts r f h

  comma_marks : (mark : Mark) (e : Expected) (ts us : List Token) → IsMark (mark_token mark) → Along g ts us → Marks g mark ts us → Same g Equal (passes_comma mark e ts) (passes_comma mark e us)
  comma_marks mark e ts us c h (both r s f f' k) =
      let found : Same g Equal (read false r) (read false s) = inr (false, s, refl, refl, k) in
      same_as g Equal _ _ _ _ (ap (comma_unless e ts) f) (ap (comma_unless e us) f') found
  comma_marks mark e ts us c h (gone r f beyond) = past_same g Equal _ _ (past_as g _ _ (ap (comma_unless e ts) f) beyond)
  comma_marks mark e ts us c h (none f f') =
      same_as g Equal _ _ _ _ (ap (comma_unless e ts) f) (ap (comma_unless e us) (f' (inl c))) (same_mark Equal Comma e ts us (λ r. read true r) (λ r. read true r) (inl tt) h (λ r k. k) (λ r s k. inr (true, s, refl, refl, k)))

  pub kept_comma : (mark : Mark) (e : Expected) → IsMark (mark_token mark) → Kept g Equal (passes_comma mark e)
  kept_comma mark e c = record { past = λ ts h. comma_past mark e ts (behind mark ts) refl h; same = λ ts us h. comma_marks mark e ts us c h (marks g mark ts us h) }

  -- ---- rows

  -- an item and whether another comes
  abbrev pub step : {A : Type 0} → Parse A → Parse Bool → Parse (A × Bool)
  step item goes_on ts = and_then (item ts) (λ x r. and_then (goes_on r) (λ more s. read (x, more) s))

  -- whether another comes
  abbrev pub SameTurn : {A : Type 0} → A × Bool → A × Bool → Type 0
  SameTurn p q = p.1 ≡ q.1

  pub kept_step : {A : Type 0} (item : Parse A) (goes_on : Parse Bool) → Kept g (Any g) item → Kept g Equal goes_on → Kept g SameTurn (step item goes_on)
  kept_step item goes_on h k = record {
    past = λ ts b. past_then g (item ts) _ (h.past ts b) (λ x r c. past_then g (goes_on r) _ (k.past r c) (λ more s d. d));
    same = λ ts us al. same_then g (Any g) SameTurn (item ts) (item us) _ _ (h.same ts us al) (λ x r c. past_then g (goes_on r) _ (k.past r c) (λ more s d. d))
        (λ x y r s e w al'. same_then g Equal SameTurn (goes_on r) (goes_on s) _ _ (k.same r s al') (λ more r' d. d) (λ more more' r' s' e' w' al''. inr ((y, more'), s', refl, w', al'')));
  }

  module _ {A : Type 0} (item : Parse A) (goes_on : Parse Bool) where
    abbrev turn : ℕ → A × Bool → Parse (List A)
    turn n p others = if p.1 then reading_map (λ items. p.0 ∷ items) (joined item goes_on n others) else read (p.0 ∷ []) others

    turned : (n : ℕ) (x : A) (comes : Reading Bool) → and_then comes (λ more others. if more then reading_map (λ items. x ∷ items) (joined item goes_on n others) else read (x ∷ []) others) ≡ and_then (and_then comes (λ more s. read (x, more) s)) (turn n)
    turned n x (read true r) = refl
    turned n x (read false r) = refl
    turned n x (unexpected e r) = refl
    turned n x (too_deep r) = refl

    stepped : (n : ℕ) (reading : Reading A) → and_then reading (λ first rest. and_then (goes_on rest) (λ more others. if more then reading_map (λ items. first ∷ items) (joined item goes_on n others) else read (first ∷ []) others)) ≡ and_then (and_then reading (λ x r. and_then (goes_on r) (λ more s. read (x, more) s))) (turn n)
    stepped n (read x r) = turned n x (goes_on r)
    stepped n (unexpected e r) = refl
    stepped n (too_deep r) = refl

    pub joined_is : (n : ℕ) (ts : List Token) → joined item goes_on (suc n) ts ≡ and_then (step item goes_on ts) (turn n)
    unfolding joined
    joined_is n ts = stepped n (item ts)

    module _ (steps : Kept g SameTurn (step item goes_on)) where
      turn_past : (n : ℕ) → ((others : List Token) → Beyond g others → Past g (joined item goes_on n others)) → (x : A) (more : Bool) (others : List Token) → Beyond g others → Past g (turn n (x, more) others)
      turn_past n again x true others h = past_then g (joined item goes_on n others) _ (again others h) (λ items r c. c)
      turn_past n again x false others h = h

      pub joined_past : (n : ℕ) (ts : List Token) → Beyond g ts → Past g (joined item goes_on n ts)
      unfolding joined
      joined_past zero ts h = h
      joined_past (suc n) ts h = past_as g _ _ (joined_is n ts) (past_then g (step item goes_on ts) _ (steps.past ts h) (λ p others k. turn_past n (joined_past n) p.0 p.1 others k))

      turn_same : (n n' : ℕ) (x y : A) (more more' : Bool) (r s : List Token) → more ≡ more' → Along g r s → (more ≡ true → Same g (Any g) (joined item goes_on n r) (joined item goes_on n' s)) → Same g (Any g) (turn n (x, more) r) (turn n' (y, more') s)
      turn_same n n' x y true true r s e al again = same_then g (Any g) (Any g) (joined item goes_on n r) (joined item goes_on n' s) _ _ (again refl) (λ items r' c. c) (λ items items' r' s' e' w al'. inr (_, s', refl, tt, al'))
      turn_same n n' x y false false r s e al again = inr (_, s, refl, tt, al)
      turn_same n n' x y true false r s e al again = cc
      turn_same n n' x y false true r s e al again = cc

      joined_same : ((ts r : List Token) (x : A) → step item goes_on ts ≡ read (x, true) r → length r < length ts) → (n n' : ℕ) (ts us : List Token) → length ts < n → length us < n' → Along g ts us
          → Same g (Any g) (joined item goes_on n ts) (joined item goes_on n' us)
      joined_same shorter zero n' ts us few few' al = let never : ⊥ = omega arith in absurd never
      joined_same shorter (suc n) zero ts us few few' al = let never : ⊥ = omega arith in absurd never
      joined_same shorter (suc n) (suc n') ts us few few' al =
          same_as g (Any g) _ _ _ _ (joined_is n ts) (joined_is n' us)
          (same_then g SameTurn (Any g) (step item goes_on ts) (step item goes_on us) _ _ (steps.same ts us al) (λ p others k. turn_past n (joined_past n) p.0 p.1 others k)
          (λ p q r s e w al'. turn_same n n' p.0 q.0 p.1 q.1 r s w al'
          (λ more.
          let as_true : step item goes_on ts ≡ read (p.0, true) r = e ∙ ap (λ b. read (p.0, b) r) more in
          let less = shorter ts r p.0 as_true in
          let less' = along_shorter g ts us r s al al' less in
          joined_same shorter n n' r s (omega arith) (omega arith) al')))

      pub kept_row : ((ts r : List Token) (x : A) → step item goes_on ts ≡ read (x, true) r → length r < length ts) → Kept g (Any g) (row item goes_on)
      kept_row shorter = record {
        past = λ ts h. joined_past (suc (length ts)) ts h;
        same = λ ts us al. joined_same shorter (suc (length ts)) (suc (length us)) ts us (omega arith) (omega arith) al;
      }

    pub row_past : Kept g SameTurn (step item goes_on) → (ts : List Token) → Past g (step item goes_on ts) → Past g (row item goes_on ts)
    row_past steps ts h = past_as g _ _ (joined_is (length ts) ts) (past_then g (step item goes_on ts) _ h (λ p others k. turn_past steps (length ts) (joined_past steps (length ts)) p.0 p.1 others k))

    pub row_fails : (e : Expected) (ts : List Token) → step item goes_on ts ≡ unexpected e ts → row item goes_on ts ≡ unexpected e ts
    row_fails e ts h = joined_is (length ts) ts ∙ ap (λ r. and_then r (turn (length ts))) h

  -- ---- where the next token tells that the reading can't go on

  pub record Starts {A : Type 0} (e : Expected) (parse : Parse A) (starts : Token → Bool) : Type 0 where
    pub nil : parse [] ≡ unexpected e []
    pub fails : (t : Token) (more : List Token) → starts t ≡ false → parse (t ∷ more) ≡ unexpected e (t ∷ more)
    pub away : (t : Token) (more : List Token) → t ∷ more ≡ g.rest → starts t ≡ true → Past g (parse (t ∷ more))
    pub wanted : (t : Token) → starts t ≡ true → IsExpected e t ⊎ IsMark t

  module _ {A : Type 0} (R : A → A → Type 0) (e : Expected) (parse : Parse A) (starts : Token → Bool) (facts : Starts e parse starts) where
    abbrev Stays : List Token → Type 0
    Stays ts = parse ts ≡ unexpected e ts

    wanted_no : (t : Token) → (IsExpected e t → ⊥) → (IsMark t → ⊥) → (IsExpected e t ⊎ IsMark t) → ⊥
    wanted_no t h k (inl w) = h w
    wanted_no t h k (inr w) = k w

    apart_stays : (t : Token) (more : List Token) (b : Bool) → starts t ≡ b → (IsExpected e t → ⊥) → (IsMark t → ⊥) → Stays (t ∷ more)
    apart_stays t more true h k l = absurd (wanted_no t k l (facts.wanted t h))
    apart_stays t more false h k l = facts.fails t more h

    head_stays : (t : Token) (more us : List Token) (u : Token) → u ≡ t → starts u ≡ false → Stays (t ∷ more)
    head_stays t more us u same h = facts.fails t more (ap starts (sym same) ∙ h)

    nil_elsewhere : Elsewhere g.expected [] g.others → e ≡ g.expected → Stays g.others
    nil_elsewhere (inl w) same = let P : List Token → Type 0 = Stays in subst P (sym w) facts.nil
    nil_elsewhere (inr (t, more, w, inl heads)) same = absurd heads
    nil_elsewhere (inr (t, more, w, inr apart)) same =
        let P : List Token → Type 0 = Stays in
        let Q : Expected → Type 0 = λ x. IsExpected x t → ⊥ in
        subst P (sym w) (apart_stays t more (starts t) refl (subst Q (sym same) apart.0) apart.1)

    token_elsewhere : (u : Token) (us : List Token) → Elsewhere g.expected (u ∷ us) g.others → starts u ≡ false → e ≡ g.expected → Stays g.others
    token_elsewhere u us (inl w) h same = let P : List Token → Type 0 = Stays in subst P (sym w) (facts.fails u us h)
    token_elsewhere u us (inr (t, more, w, inl heads)) h same = let P : List Token → Type 0 = Stays in subst P (sym w) (head_stays t more us u heads h)
    token_elsewhere u us (inr (t, more, w, inr apart)) h same =
        let P : List Token → Type 0 = Stays in
        let Q : Expected → Type 0 = λ x. IsExpected x t → ⊥ in
        subst P (sym w) (apart_stays t more (starts t) refl (subst Q (sym same) apart.0) apart.1)

    stays_same : (ts : List Token) → ts ≡ g.rest → Stays ts → (e ≡ g.expected → Stays g.others) → Same g R (parse ts) (parse g.others)
    stays_same ts w h elsewhere =
        let Q : List Token → Type 0 = λ x. Along g x g.others in
        let found : Same g R (unexpected e ts) (parse g.others) = inr (λ same. (g.others, elsewhere same, subst Q (sym w) (along_here g))) in
        same_as g R _ _ _ _ h refl found

    start_here : (t : Token) (ts : List Token) (b : Bool) → starts t ≡ b → t ∷ ts ≡ g.rest → Same g R (parse (t ∷ ts)) (parse g.others)
    start_here t ts true h w = past_same g R _ _ (facts.away t ts w h)
    start_here t ts false h w =
        let P : List Token → Type 0 = λ x. Elsewhere g.expected x g.others in
        stays_same (t ∷ ts) w (facts.fails t ts h) (token_elsewhere t ts (subst P (sym w) g.elsewhere) h)

    pub here_same : (ts : List Token) → ts ≡ g.rest → Same g R (parse ts) (parse g.others)
    here_same [] w = let P : List Token → Type 0 = λ x. Elsewhere g.expected x g.others in stays_same [] w facts.nil (nil_elsewhere (subst P (sym w) g.elsewhere))
    here_same (t ∷ ts) w = start_here t ts (starts t) refl w

    -- and where it goes on with tokens of one kind
    pub next_same : ((t u : Token) (ts us : List Token) → SameKind t u → Along g ts us → Same g R (parse (t ∷ ts)) (parse (u ∷ us))) → (ts us : List Token) → Along g ts us → Same g R (parse ts) (parse us)
    next_same going ts us h = go (next g ts us h)
      where
        go : Next g ts us → Same g R (parse ts) (parse us)
        go (here w w') = let P : List Token → Type 0 = λ x. Same g R (parse ts) (parse x) in subst P (sym w') (here_same ts w)
        go (on t u ts' us' kind k w w') = same_as g R _ _ _ _ (ap parse w) (ap parse w') (going t u ts' us' kind k)
