-- The fault of bytes, from where the reading of their tokens can't go on.
use Rattle.std.proofs.Common.{◌≡◌, ⊎_elim, ℕ, suc, ◌+◌, ◌<◌, ◌≤◌, List, [], ◌∷◌, ◌++◌, length, take, drop, Option, Some, None, refl, sym, ap, ◌∙◌, subst, arith, length-append, append_assoc, append-nil}
use Rattle.std.proofs.lemmas.List.{length-take-le, take-append-drop}
use Rattle.kb_lexing.specs.Token.{Token, name, open_round, close_round, open_square, close_square, comma, dots, rec_word}
use Rattle.kb_lexing.specs.Spelling.{FirstToken, TokensOf, after_gap}
use Rattle.kb_lexing.specs.Lexemes.{AreFirstTokens, token_view}
use Rattle.kb_lexing.specs.Possible.{IsBegun, IsMark, PassedAre, Passes, Stops, rest_behind, last_place_of}
use Rattle.kb_lexing.specs.declared.place.Expected.{Expected}
use Rattle.kb_lexing.specs.declared.token.Lexeme.{Lexeme}
use Rattle.kb_lexing.proofs.FrontTokens.{tokens_of, tokens_of-first}
use Rattle.kb_lexing.proofs.OneToken.{one_token}
use Rattle.kb_lexing.specs.Lexemes.{IsBracket, EndsInBracket}
use Rattle.kb_lexing.proofs.MarkedFronts.{one_passes, marked_passes, marked_within, marked_place, marked_tokens}
use Rattle.kb_record.proofs.LastPassed.{passes_more, same_split}
use Rattle.kb_record.proofs.OpenBrackets.{Within, front_within, step, open_behind-step}
use Rattle.kb_record.proofs.Shallow.{opened}
use Rattle.kb_record.proofs.TextFronts.{before_comma}
use Rattle.kb_record.specs.Nesting.{deepest, open_behind, IsDeepFront, IsTooDeep}
use Rattle.kb_record.specs.Faults.{IsDepthFault}
use Rattle.kb_record.proofs.PlainTokens.{plain_spelled}
use Rattle.kb_record.proofs.Halting.{Opens, Halts}

begun_of : (HasForm : List Token → Type 0) (tokens : List Token) → Opens HasForm tokens → IsBegun HasForm tokens
begun_of HasForm tokens h = record { more = h.more; formed = h.formed; spelled = plain_spelled h.more h.plain }

-- the next token of the rest is the first of its tokens
head_token : (text : List ℕ) (tokens : List Token) (t : Token) (behind : List ℕ) → AreFirstTokens text tokens → FirstToken (after_gap text) t behind → (more : List Token) × (tokens ≡ t ∷ more)
head_token text [] t behind h first = absurd (h t behind first)
head_token text (u ∷ tokens) t behind h first = let same = (one_token (after_gap text) u t h.0 behind h.1 first).token_same in (tokens, ap (λ x. x ∷ tokens) same)

module _ (HasForm : List Token → Type 0) (tokens rest : List Token) (expected : Expected) (halts : Halts HasForm tokens expected rest) (text : List ℕ) (behind : tokens_of text ≡ rest) where
  joined : (t : Token) → IsBegun HasForm (halts.passed ++ t ∷ []) → (more : List Token) × HasForm (halts.passed ++ t ∷ more)
  joined t b = let P : List Token → Type 0 = HasForm in (b.more, subst P (append_assoc halts.passed (t ∷ []) b.more) b.formed)

  stops_next : (t : Token) (after : List ℕ) → FirstToken (after_gap text) t after → IsBegun HasForm (halts.passed ++ t ∷ []) → ⊥
  stops_next t after first b =
      let head = head_token text (tokens_of text) t after (tokens_of-first text) first in
      let found = joined t b in
      halts.no_next t head.0 found.0 (sym behind ∙ head.1) found.1

  pub stops_of : Stops HasForm halts.passed expected text
  stops_of = record {
    begun = begun_of HasForm halts.passed halts.begun;
    expects = λ t e s. begun_of HasForm (halts.passed ++ t ∷ []) (halts.expects t e);
    expected_alone = λ t b. (let found = joined t b in halts.alone t found.0 found.1);
    stops = stops_next;
    renamed = λ before last ends may a named. begun_of HasForm (before ++ name a ∷ []) (halts.renamed before last ends may a);
    not_renamed = λ before ends may a b. (let P : List Token → Type 0 = HasForm in halts.not_renamed before ends may a b.more (subst P (append_assoc before (name a ∷ []) b.more) b.formed));
    number_before_dots = halts.numbered;
    no_dots_behind_rec = λ e b. (let P : List Token → Type 0 = HasForm in halts.no_dots e b.more (subst P (append_assoc halts.passed (rec_word ∷ dots ∷ []) b.more) b.formed));
  }

-- ---- deep fronts

bracket_mark : (t : Token) → IsBracket t → IsMark t
bracket_mark open_round h = tt
bracket_mark close_round h = tt
bracket_mark open_square h = tt
bracket_mark close_square h = tt
bracket_mark _ h = absurd h

-- the tokens and the mark that stands last
record Marked (tokens : List Token) : Type 0 where
  pub before : List Token
  pub mark : Token
  pub marks : IsMark mark
  pub whole : tokens ≡ before ++ mark ∷ []

marked_on : (t : Token) (tokens : List Token) → Marked tokens → Marked (t ∷ tokens)
marked_on t tokens h = record { before = t ∷ h.before; mark = h.mark; marks = h.marks; whole = ap (λ ts. t ∷ ts) h.whole }

bracket_last : (tokens : List Token) → EndsInBracket tokens → Marked tokens
bracket_last [] h = absurd h
bracket_last (t ∷ []) h = record { before = []; mark = t; marks = bracket_mark t h; whole = refl }
bracket_last (t ∷ u ∷ tokens) h = marked_on t (u ∷ tokens) (bracket_last (u ∷ tokens) h)

-- the tokens of a front that is too deep, up to a bracket
record DeepTokens (HasForm : List Token → Type 0) (bytes : List ℕ) (n : ℕ) : Type 0 where
  pub front : List Token
  pub more : List Token
  pub spelled : TokensOf (take n bytes) (front ++ more)
  pub high : deepest < open_behind 0 front
  pub rest : List ℕ
  pub passes : Passes bytes front rest
  pub begun : IsBegun HasForm (front ++ more)

deep_tokens : (HasForm : List Token → Type 0) (bytes : List ℕ) (n : ℕ) → IsDeepFront HasForm bytes n → DeepTokens HasForm bytes n
deep_tokens HasForm bytes n h =
    let high : deepest < open_behind 0 h.tokens = let e = h.opened in omega arith in
    let split = opened deepest 0 h.tokens (omega arith) high in
    let last = bracket_last split.front split.ends in
    let P : List Token → Type 0 = λ ts. TokensOf (take n bytes) ts in
    let Q : List Token → Type 0 = λ ts. IsBegun HasForm ts in
    let R : List Token → Type 0 = λ ts. TokensOf (take n bytes) (ts ++ split.behind) in
    let spelled = subst P split.whole h.spelled in
    let found = marked_passes (take n bytes) (drop n bytes) last.before last.mark split.behind last.marks (subst R last.whole spelled) in
    let S : List ℕ → Type 0 = λ x. Passes x (last.before ++ last.mark ∷ []) (found.0 ++ drop n bytes) in
    let T : List Token → Type 0 = λ ts. Passes bytes ts (found.0 ++ drop n bytes) in
    record {
      front = split.front;
      more = split.behind;
      spelled = spelled;
      high = split.opens;
      rest = found.0 ++ drop n bytes;
      passes = subst T (sym last.whole) (subst S (take-append-drop n bytes) found.1);
      begun = subst Q split.whole h.begun;
    }

-- what was passed is passed
pub passes_of : (bytes : List ℕ) (passed : List Token) (last : Option Lexeme) → PassedAre bytes passed last → Passes bytes passed (rest_behind bytes last)
passes_of bytes passed None h = let P : List Token → Type 0 = λ ts. Passes bytes ts bytes in subst P (sym h) refl
passes_of bytes passed (Some lexeme) (before, behind, ends, passes, text, first) =
    let token = token_view lexeme.token in
    let P : List Token → Type 0 = λ ts. Passes bytes ts lexeme.rest.now in
    let Q : List ℕ → Type 0 = λ x. FirstToken x token lexeme.rest.now in
    subst P (sym ends) (passes_more bytes before behind token lexeme.rest.now passes (subst Q text first))

passes_next : (bytes : List ℕ) (passed : List Token) (rest : List ℕ) (t : Token) (more : List Token) (back : List ℕ) → Passes bytes passed rest → Passes bytes (passed ++ t ∷ more) back → (after : List ℕ) × FirstToken (after_gap rest) t after
passes_next bytes [] rest t more back h k = let P : List ℕ → Type 0 = λ x. FirstToken (after_gap x) t k.0 in (k.0, subst P (sym h) k.1)
passes_next bytes (u ∷ passed) rest t more back h k =
    let same = one_token (after_gap bytes) u u h.0 k.0 h.1 k.1 in
    let P : List ℕ → Type 0 = λ x. Passes x passed rest in
    passes_next k.0 passed rest t more back (subst P same.rest_same h.2) k.2

-- ---- no front is too deep where the reading can't go on

module _ (HasForm : List Token → Type 0) (tokens rest : List Token) (expected : Expected) (halts : Halts HasForm tokens expected rest) (bytes text : List ℕ) (behind : tokens_of text ≡ rest) (passes : Passes bytes halts.passed text) where
  low_front : (front more : List Token) → halts.passed ≡ front ++ more → deepest < open_behind 0 front → ⊥
  low_front front more e high =
      let P : List Token → Type 0 = λ ts. Within deepest 0 (ts ++ comma ∷ []) in
      let low = before_comma deepest front more (subst P e halts.low) in
      omega arith

  later : (n : ℕ) (d : DeepTokens HasForm bytes n) (more : List Token) → d.front ≡ halts.passed ++ more → ⊥
  later n d [] e = low_front d.front [] (sym (append-nil halts.passed) ∙ sym e ∙ sym (append-nil d.front)) d.high
  later n d (t ∷ more) e =
      let P : List Token → Type 0 = λ ts. Passes bytes ts d.rest in
      let Q : List Token → Type 0 = HasForm in
      let next = passes_next bytes halts.passed text t more d.rest passes (subst P e d.passes) in
      let head = head_token text (tokens_of text) t next.0 (tokens_of-first text) next.1 in
      let after = more ++ (d.more ++ d.begun.more) in
      let whole : (d.front ++ d.more) ++ d.begun.more ≡ halts.passed ++ t ∷ after =
      append_assoc d.front d.more d.begun.more ∙ ap (λ ts. ts ++ (d.more ++ d.begun.more)) e ∙ append_assoc halts.passed (t ∷ more) (d.more ++ d.begun.more) in
      halts.no_next t head.0 after (sym behind ∙ head.1) (subst Q whole d.begun.formed)

  pub none_deep : IsTooDeep HasForm bytes → ⊥
  none_deep (n, h) =
      let d = deep_tokens HasForm bytes n h in
      ⊎_elim (λ found. later n d found.0 found.1) (λ found. low_front d.front found.0 found.1 d.high) (one_passes bytes d.front halts.passed d.rest text d.passes passes)

-- ---- the shortest front that is too deep

-- what was passed opens one bracket too many with its last token, and begins some list of the form
pub record Deep (HasForm : List Token → Type 0) (tokens rest : List Token) : Type 0 where
  pub consumed : List Token
  pub whole : tokens ≡ consumed ++ rest
  pub opens : open_behind 0 consumed ≡ suc deepest
  pub begun : Opens HasForm consumed
  pub low : Within deepest 0 consumed

opening : (t : Token) (m o : ℕ) → o ≤ m → open_behind o (t ∷ []) ≡ suc m → IsMark t
opening open_round m o le e = tt
opening open_square m o le e = tt
opening close_round m o le e = let never : ⊥ = omega arith in absurd never
opening close_square m o le e = let never : ⊥ = omega arith in absurd never
opening _ m o le e = let never : ⊥ = omega arith in absurd never

last_opens : (m o : ℕ) (tokens : List Token) → o ≤ m → Within m o tokens → open_behind o tokens ≡ suc m → Marked tokens
last_opens m o [] le low e = let never : ⊥ = omega arith in absurd never
last_opens m o (t ∷ []) le low e = record { before = []; mark = t; marks = opening t m o le e; whole = refl }
last_opens m o (t ∷ u ∷ tokens) le low e = marked_on t (u ∷ tokens) (last_opens m (step o t) (u ∷ tokens) low.1.0 low.1 (sym (open_behind-step o t (u ∷ tokens)) ∙ e))

module _ (HasForm : List Token → Type 0) (tokens rest : List Token) (deep : Deep HasForm tokens rest) (bytes : List ℕ) (lexeme : Lexeme) (stand : PassedAre bytes deep.consumed (Some lexeme)) where
  marked : Marked deep.consumed
  marked = last_opens deepest 0 deep.consumed (omega arith) deep.low deep.opens

  is_marked : IsMark (token_view lexeme.token)
  is_marked =
      let ends = sym marked.whole ∙ stand.2 in
      let lengths : length marked.before ≡ length stand.0 = omega (arith, ap length ends, length-append marked.before (marked.mark ∷ []), length-append stand.0 (token_view lexeme.token ∷ [])) in
      let backs = (same_split marked.before stand.0 (marked.mark ∷ []) (token_view lexeme.token ∷ []) lengths ends).backs in
      let same : marked.mark ≡ token_view lexeme.token = cc in
      let P : Token → Type 0 = IsMark in
      subst P same marked.marks

  abbrev place : ℕ
  place = last_place_of bytes (Some lexeme)

  up_to : suc place + length lexeme.rest.now ≡ length bytes
  up_to = marked_place bytes deep.consumed lexeme stand is_marked

  consumed_passes : Passes bytes (stand.0 ++ token_view lexeme.token ∷ []) lexeme.rest.now
  consumed_passes = let P : List Token → Type 0 = λ ts. Passes bytes ts lexeme.rest.now in subst P stand.2 (passes_of bytes deep.consumed (Some lexeme) stand)

  longer : (n : ℕ) → n ≤ length bytes → (d : DeepTokens HasForm bytes n) (more : List Token) → d.front ≡ deep.consumed ++ more → suc place ≤ n
  longer n few d more e =
      let whole : d.front ++ d.more ≡ (stand.0 ++ token_view lexeme.token ∷ []) ++ (more ++ d.more) = ap (λ ts. ts ++ d.more) (e ∙ ap (λ ts. ts ++ more) stand.2) ∙ append_assoc (stand.0 ++ token_view lexeme.token ∷ []) more d.more in
      let P : List Token → Type 0 = λ ts. TokensOf (take n bytes) ts in
      let fits = marked_within bytes (take n bytes) (drop n bytes) stand.0 (token_view lexeme.token) (more ++ d.more) lexeme.rest.now (sym (take-append-drop n bytes)) is_marked (subst P whole d.spelled) consumed_passes in
      omega (arith, fits, length-take-le n bytes few, up_to)

  shorter : (n : ℕ) → n ≤ length bytes → (d : DeepTokens HasForm bytes n) (more : List Token) → deep.consumed ≡ d.front ++ more → suc place ≤ n
  shorter n few d [] e = longer n few d [] (sym (append-nil d.front) ∙ sym e ∙ sym (append-nil deep.consumed))
  shorter n few d (t ∷ more) e =
      let P : List Token → Type 0 = λ ts. Within deepest 0 ts in
      let low = front_within deepest 0 d.front t more (subst P e deep.low) in
      let high = d.high in
      let never : ⊥ = omega arith in
      absurd never

  shortest : (n : ℕ) → IsDeepFront HasForm bytes n → suc place ≤ n
  shortest n h =
      let d = deep_tokens HasForm bytes n h in
      ⊎_elim (λ found. longer n h.within d found.0 found.1) (λ found. shorter n h.within d found.0 found.1)
      (one_passes bytes d.front deep.consumed d.rest lexeme.rest.now d.passes (passes_of bytes deep.consumed (Some lexeme) stand))

  pub depth_fault : IsDepthFault HasForm bytes place
  depth_fault = record {
    deep = record {
      within = omega (arith, up_to);
      tokens = deep.consumed;
      spelled = marked_tokens bytes deep.consumed lexeme stand is_marked;
      opened = deep.opens;
      begun = begun_of HasForm deep.consumed deep.begun;
    };
    shortest = shortest;
  }
