-- Fronts of a text up to a mark of one byte, and their tokens.
use Rattle.std.proofs.Common.{◌≡◌, ℕ, suc, ◌+◌, ◌-◌, ◌≤◌, ◌⊎◌, inl, inr, List, [], ◌∷◌, ◌++◌, length, take, Some, refl, sym, ap, ◌∙◌, subst, arith, length-append, append_assoc}
use Rattle.std.proofs.lemmas.List.{append-nil}
use Rattle.kb_lexing.specs.Token.{Token}
use Rattle.kb_lexing.specs.Spelling.{TokensOf, after_gap}
use Rattle.kb_lexing.specs.Lexemes.{token_view}
use Rattle.kb_lexing.specs.Possible.{Passes, IsMark, PassedAre, last_place_of}
use Rattle.kb_lexing.specs.declared.token.Lexeme.{Lexeme}
use Rattle.kb_lexing.proofs.LongestFronts.{take_past}
use Rattle.kb_lexing.proofs.OneToken.{one_token}
use Rattle.kb_lexing.proofs.Longer.{alone_first}
use Rattle.kb_lexing.proofs.PassedTokens.{passes_then}
use Rattle.kb_lexing.proofs.LastTokens.{LastFront, last_front, lexeme_front}
use Rattle.kb_lexing.proofs.ExpectedTokens.{mark_plain, mark_byte}

-- ---- lists of tokens that are passed from one text

pub rests_same : (text : List ℕ) (passed : List Token) (rest other : List ℕ) → Passes text passed rest → Passes text passed other → rest ≡ other
rests_same text [] rest other h k = h ∙ sym k
rests_same text (token ∷ passed) rest other h k =
    let same = one_token (after_gap text) token token h.0 k.0 h.1 k.1 in
    rests_same k.0 passed rest other (subst (λ x. Passes x passed rest) same.rest_same h.2) k.2

-- one begins with the other
pub one_passes : (text : List ℕ) (some others : List Token) (rest back : List ℕ) → Passes text some rest → Passes text others back
    → ((more : List Token) × (some ≡ others ++ more)) ⊎ ((more : List Token) × (others ≡ some ++ more))
one_passes text some [] rest back h k = inl (some, refl)
one_passes text [] (other ∷ others) rest back h k = inr (other ∷ others, refl)
one_passes text (token ∷ some) (other ∷ others) rest back h k =
    let same = one_token (after_gap text) token other h.0 k.0 h.1 k.1 in
    go same.token_same (one_passes k.0 some others rest back (subst (λ x. Passes x some rest) same.rest_same h.2) k.2)
  where
    go : token ≡ other → ((more : List Token) × (some ≡ others ++ more)) ⊎ ((more : List Token) × (others ≡ some ++ more))
        → ((more : List Token) × (token ∷ some ≡ other ∷ (others ++ more))) ⊎ ((more : List Token) × (other ∷ others ≡ token ∷ (some ++ more)))
    go e (inl (more, w)) = inl (more, ap (λ x. x ∷ some) e ∙ ap (λ x. other ∷ x) w)
    go e (inr (more, w)) = inr (more, ap (λ x. x ∷ others) (sym e) ∙ ap (λ x. token ∷ x) w)

record Parted (text : List ℕ) (passed : List Token) (more : List Token) : Type 0 where
  rest : List ℕ
  passes : Passes text passed rest
  tokens : TokensOf rest more

parted : (text : List ℕ) (passed more : List Token) → TokensOf text (passed ++ more) → Parted text passed more
parted text [] more h = record { rest = text; passes = refl; tokens = h }
parted text (token ∷ passed) more h =
    let behind = parted h.0 passed more h.2 in
    record { rest = behind.rest; passes = (h.0, h.1, behind.passes); tokens = behind.tokens }

-- ---- up to a mark

-- the tokens of a front up to a mark, with more bytes behind the front
pub marked_passes : (front behind : List ℕ) (before : List Token) (mark : Token) (more : List Token) → IsMark mark → TokensOf front ((before ++ mark ∷ []) ++ more)
    → (rest : List ℕ) × Passes (front ++ behind) (before ++ mark ∷ []) (rest ++ behind)
marked_passes front behind before mark more is h =
    let all : Parted front before (mark ∷ more) = parted front before (mark ∷ more) (subst (λ x. TokensOf front x) (append_assoc before (mark ∷ []) more) h) in
    let rest : List ℕ = all.tokens.0 in
    let last : LastFront front before mark rest = last_front front before mark all.rest rest all.passes all.tokens.1 in
    let spelling : List ℕ = last.first.spelling in
    let plain = mark_plain mark is in
    let passes = last.keeps (rest ++ behind) mark (rest ++ behind) (alone_first mark spelling (rest ++ behind) last.first.spelled plain.0 plain.1) in
    let whole : front ++ behind ≡ last.front ++ (spelling ++ (rest ++ behind)) =
    ap (λ x. x ++ behind) (last.whole ∙ ap (λ x. last.front ++ x) last.first.whole) ∙ append_assoc last.front (spelling ++ rest) behind
    ∙ ap (λ x. last.front ++ x) (append_assoc spelling rest behind) in
    (rest, subst (λ x. Passes x (before ++ mark ∷ []) (rest ++ behind)) (sym whole) passes)

-- a front whose tokens begin with those that are passed up to a mark holds them
pub marked_within : (bytes front behind : List ℕ) (before : List Token) (mark : Token) (more : List Token) (rest : List ℕ) → bytes ≡ front ++ behind → IsMark mark
    → TokensOf front ((before ++ mark ∷ []) ++ more) → Passes bytes (before ++ mark ∷ []) rest → length bytes ≤ length front + length rest
marked_within bytes front behind before mark more rest e is h passes =
    let found = marked_passes front behind before mark more is h in
    let same : found.0 ++ behind ≡ rest =
    rests_same (front ++ behind) (before ++ mark ∷ []) (found.0 ++ behind) rest found.1 (subst (λ x. Passes x (before ++ mark ∷ []) rest) e passes) in
    omega (arith, ap length e, length-append front behind, ap length same, length-append found.0 behind)

module _ (bytes : List ℕ) (passed : List Token) (lexeme : Lexeme) (stand : PassedAre bytes passed (Some lexeme)) (is : IsMark (token_view lexeme.token)) where
  abbrev mark : Token
  mark = token_view lexeme.token

  abbrev place : ℕ
  place = last_place_of bytes (Some lexeme)

  text_length : length lexeme.text.now ≡ suc (length lexeme.rest.now)
  text_length =
      omega (arith, ap length stand.5.whole, length-append stand.5.spelling lexeme.rest.now, mark_byte mark stand.5.spelling is stand.5.spelled)

  -- the bytes up to the last token that was passed, a mark, and what stands behind it
  pub marked_place : suc place + length lexeme.rest.now ≡ length bytes
  marked_place =
      let last : LastFront bytes stand.0 mark lexeme.rest.now = lexeme_front bytes passed lexeme stand in
      let spelling : List ℕ = last.first.spelling in
      omega (
        arith,
        text_length,
        ap length last.whole,
        length-append last.front last.bytes,
        ap length last.first.whole,
        length-append spelling lexeme.rest.now,
        mark_byte mark spelling is last.first.spelled,
      )

  -- the tokens of the bytes up to there
  pub marked_tokens : TokensOf (take (suc place) bytes) passed
  marked_tokens =
      let last : LastFront bytes stand.0 mark lexeme.rest.now = lexeme_front bytes passed lexeme stand in
      let spelling : List ℕ = last.first.spelling in
      let front : List ℕ = last.front ++ spelling in
      let plain = mark_plain mark is in
      let passes = last.keeps [] mark [] (alone_first mark spelling [] last.first.spelled plain.0 plain.1) in
      let whole : bytes ≡ front ++ lexeme.rest.now = last.whole ∙ ap (λ x. last.front ++ x) last.first.whole ∙ sym (append_assoc last.front spelling lexeme.rest.now) in
      let long : length front ≡ suc place = omega (arith, marked_place, ap length whole, length-append front lexeme.rest.now) in
      let none : suc place - length front ≡ 0 = omega arith in
      let cut : take (suc place) bytes ≡ front ++ [] =
      ap (λ x. take (suc place) x) whole ∙ take_past (suc place) front lexeme.rest.now (omega arith) ∙ ap (λ k. front ++ take k lexeme.rest.now) none in
      let tokens = passes_then (last.front ++ (spelling ++ [])) (stand.0 ++ mark ∷ []) [] [] passes refl in
      subst (λ x. TokensOf x passed) (sym (cut ∙ append_assoc last.front spelling []))
      (subst (λ x. TokensOf (last.front ++ (spelling ++ [])) x) (append-nil (stand.0 ++ mark ∷ []) ∙ sym stand.2) tokens)
