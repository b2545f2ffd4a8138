-- The place up to which some text of a form begins with the bytes, and none with more of them.
use Rattle.std.proofs.Common.{◌≡◌, ◌≢◌, ℕ, suc, ◌+◌, ◌-◌, ◌<◌, ◌≤◌, ◌⊎◌, inl, inr, List, [], ◌∷◌, ◌++◌, length, take, drop, Some, None, Option, refl, sym, ap, ◌∙◌, subst, arith, length-append, append_assoc}
use Rattle.std.proofs.lemmas.Bool.{cases_eq, cases_lt}
use Rattle.std.proofs.lemmas.List.{length-take-le, take-append-drop, append_cancel_right}
use Rattle.kb_lexing.specs.Token.{Token, name, number, dots, rec_word}
use Rattle.kb_lexing.specs.Spelling.{BeginsWithNameByte, TokensOf, after_gap}
use Rattle.kb_lexing.specs.Lexemes.{IsLongestFront, token_view}
use Rattle.kb_lexing.specs.Possible.{IsBegun, IsPossible, IsLongestPossible, IsExpected, IsMark, MayBeName, EndsWith, Stops, PassedAre, rest_behind, BeginsExpected, IsDotted, IsExpectedPlace, IsPlace}
use Rattle.kb_lexing.specs.declared.token.Lexeme.{Lexeme}
use Rattle.kb_lexing.specs.declared.place.Expected.{Expected}
use Rattle.kb_lexing.proofs.FirstTokens.{same_head}
use Rattle.kb_lexing.proofs.LongestFronts.{take_past}
use Rattle.kb_lexing.proofs.Begun.{begins_decided}
use Rattle.kb_lexing.proofs.Lexings.{gap_front}
use Rattle.kb_lexing.proofs.Longer.{IsWord, NoMore, shared_byte, shared_two, wordless}
use Rattle.kb_lexing.proofs.PassedTokens.{tokens_behind, tokens_spelled}
use Rattle.kb_lexing.proofs.LastTokens.{LastFront, DottedFirst, lexeme_front, Standing, standing, dotted_first}
use Rattle.kb_lexing.proofs.ExpectedTokens.{DotsNext, dots_next, word_decided, dots_expected, rec_only_else, last_same}
use Rattle.kb_lexing.proofs.Reached.{reached, dot_reached}
use Rattle.kb_lexing.proofs.NoFurther.{dot_ends, next_begun, no_further}

-- a front that goes beyond the tokens that were passed
record Beyond (HasForm : List Token → Type 0) (bytes : List ℕ) (front rest : List ℕ) (m : ℕ) : Type 0 where
  more : List ℕ
  tail : List ℕ
  behind : List ℕ
  tokens : List Token
  split : rest ≡ more ++ tail
  long : length more ≡ m - length front
  spelled : TokensOf (front ++ (more ++ behind)) tokens
  formed : HasForm tokens

beyond : (HasForm : List Token → Type 0) (bytes front rest : List ℕ) (m : ℕ) → bytes ≡ front ++ rest → m ≤ length bytes → length front ≤ m → IsPossible HasForm (take m bytes)
    → Beyond HasForm bytes front rest m
beyond HasForm bytes front rest m whole few past h =
    let n : ℕ = m - length front in
    let cut : take m bytes ≡ front ++ take n rest = ap (λ x. take m x) whole ∙ take_past m front rest past in
    let room : n ≤ length rest = omega (arith, ap length whole, length-append front rest) in
    record {
      more = take n rest;
      tail = drop n rest;
      behind = h.behind;
      tokens = h.tokens;
      split = sym (take-append-drop n rest);
      long = length-take-le n rest room;
      spelled = subst (λ x. TokensOf x h.tokens) (ap (λ x. x ++ h.behind) cut ∙ append_assoc front (take n rest) h.behind) h.spelled;
      formed = h.formed;
    }

-- what goes beyond goes on with the last token no further than the rest
abbrev StaysApart : (HasForm : List Token → Type 0) (front rest : List ℕ) (passed : List Token) → Type 0
StaysApart HasForm front rest passed =
    (more tail behind : List ℕ) (tokens : List Token) → rest ≡ more ++ tail → 0 < length more → TokensOf (front ++ (more ++ behind)) tokens → HasForm tokens
    → (before : List Token) (last : Token) → EndsWith passed before last → NoMore last rest (more ++ behind)

module _ (HasForm : List Token → Type 0) (bytes : List ℕ) (passed : List Token) (rest : List ℕ) (expected : Expected)
    (stand : Standing bytes passed rest) (stops : Stops HasForm passed expected rest) where
  plain_within : (n at : ℕ) → IsLongestFront (BeginsExpected expected) (after_gap rest) n → at ≡ length bytes - length (after_gap rest) + n
      → StaysApart HasForm stand.front rest passed → (m : ℕ) → m ≤ length bytes → IsPossible HasForm (take m bytes) → m ≤ at
  plain_within n at longest place apart m few h = go (cases_lt (length stand.front) m)
    where
      gap : List ℕ
      gap = (gap_front rest).front

      long : length bytes ≡ length stand.front + (length gap + length (after_gap rest))
      long = ap length stand.whole ∙ length-append stand.front rest ∙ ap (λ x. length stand.front + x) (ap length (gap_front rest).whole ∙ length-append gap (after_gap rest))

      past_gap : (b : Beyond HasForm bytes stand.front rest m) → (more : List Token) × (b.tokens ≡ passed ++ more) × TokensOf (b.more ++ b.behind) more → length b.more ≤ length gap + n
      past_gap b (more, same, tokens) =
          no_further HasForm passed rest expected stops n longest b.more b.tail b.behind more b.split tokens (subst (λ x. HasForm x) same b.formed)

      go : (length stand.front < m) ⊎ (m ≤ length stand.front) → m ≤ at
      go (inr short) = omega (arith, long)
      go (inl past) =
          let b : Beyond HasForm bytes stand.front rest m = beyond HasForm bytes stand.front rest m stand.whole few (omega arith) h in
          let passes = stand.keeps (b.more ++ b.behind) (apart b.more b.tail b.behind b.tokens b.split (omega (arith, b.long)) b.spelled b.formed) in
          omega (arith, long, b.long, past_gap b (tokens_behind (stand.front ++ (b.more ++ b.behind)) passed b.tokens (b.more ++ b.behind) passes b.spelled))

  plain_longest : (at : ℕ) → IsExpectedPlace bytes rest expected at → StaysApart HasForm stand.front rest passed → IsLongestPossible HasForm bytes at
  plain_longest at place apart = record {
    within = within;
    possible = reached HasForm bytes passed rest expected stand stops place.0 at place.1 place.2;
    longest = plain_within place.0 at place.1 place.2 apart;
  }
    where
      within : at ≤ length bytes
      within =
          let long : length bytes ≡ length (stand.front ++ (gap_front rest).front) + length (after_gap rest) =
          ap length (stand.whole ∙ ap (λ x. stand.front ++ x) (gap_front rest).whole ∙ sym (append_assoc stand.front (gap_front rest).front (after_gap rest)))
          ∙ length-append (stand.front ++ (gap_front rest).front) (after_gap rest) in
          omega (arith, place.2, place.1.within)

-- ---- behind a last token

module _ (HasForm : List Token → Type 0) (bytes : List ℕ) (passed : List Token) (expected : Expected) (lexeme : Lexeme)
    (stand : PassedAre bytes passed (Some lexeme)) (stops : Stops HasForm passed expected lexeme.rest.now) where
  abbrev last : Token
  last = token_view lexeme.token

  -- a `rec` that goes on as a name where none may be
  no_name : (spelled : LastFront bytes stand.0 last lexeme.rest.now) (behind : List ℕ) (tokens : List Token) → IsWord last → ¬ MayBeName last expected → BeginsWithNameByte behind
      → TokensOf ((spelled.front ++ spelled.first.spelling) ++ 46 ∷ behind) tokens → HasForm tokens → ⊥
  no_name front behind tokens one other name_byte h formed =
      let spelling : List ℕ = front.first.spelling in
      let longer : DottedFirst (spelling ++ 46 ∷ behind) = dotted_first last spelling behind front.first.spelled one name_byte in
      let passes = front.keeps (46 ∷ behind) (name longer.spelling) longer.back longer.first in
      let all = subst (λ x. TokensOf x tokens) (append_assoc front.front spelling (46 ∷ behind)) h in
      let more = tokens_behind (front.front ++ (spelling ++ 46 ∷ behind)) (stand.0 ++ name longer.spelling ∷ []) tokens longer.back passes all in
      let is_rec : last ≡ rec_word = rec_only_else last expected one other in
      let ends : EndsWith passed stand.0 rec_word = stand.2 ∙ ap (λ x. stand.0 ++ x ∷ []) is_rec in
      stops.not_renamed stand.0 ends (λ may. other (subst (λ x. MayBeName x expected) (sym is_rec) may)) longer.spelling
      (record { more = more.0; formed = subst (λ x. HasForm x) more.1 formed; spelled = tokens_spelled longer.back more.0 more.2 })

  module _ (front : List ℕ) (whole : bytes ≡ front ++ lexeme.rest.now) where
    same_front : (spelled : LastFront bytes stand.0 last lexeme.rest.now) → front ≡ spelled.front ++ spelled.first.spelling
    same_front spelled =
        append_cancel_right front (spelled.front ++ spelled.first.spelling) lexeme.rest.now
        (sym whole ∙ spelled.whole ∙ ap (λ x. spelled.front ++ x) spelled.first.whole ∙ sym (append_assoc spelled.front spelled.first.spelling lexeme.rest.now))

    one_apart : ¬ IsDotted lexeme expected → (b : ℕ) (tail behind : List ℕ) (tokens : List Token) → lexeme.rest.now ≡ b ∷ tail
        → TokensOf (front ++ b ∷ behind) tokens → HasForm tokens → NoMore last lexeme.rest.now (b ∷ behind)
    one_apart undotted b tail behind tokens e h formed = go (cases_eq b 46) (word_decided last) (begins_decided behind)
      where
        spelled : LastFront bytes stand.0 last lexeme.rest.now
        spelled = lexeme_front bytes passed lexeme stand

        go : (b ≡ 46) ⊎ (b ≢ 46) → IsWord last ⊎ ¬ IsWord last → BeginsWithNameByte behind ⊎ ¬ BeginsWithNameByte behind → NoMore last lexeme.rest.now (b ∷ behind)
        go (inr other) _ _ = subst (λ x. NoMore last x (b ∷ behind)) (sym e) (shared_byte last b tail behind other)
        go (inl at) (inr no_word) _ = subst (λ x. NoMore last x (b ∷ behind)) (sym e) (wordless last b tail behind no_word)
        go (inl at) (inl one) (inr no_byte) = subst (λ x. NoMore last lexeme.rest.now (x ∷ behind)) (sym at) (dot_ends last lexeme.rest.now behind no_byte)
        go (inl at) (inl one) (inl name_byte) =
            let text : front ++ b ∷ behind ≡ (spelled.front ++ spelled.first.spelling) ++ 46 ∷ behind = ap (λ x. x ++ b ∷ behind) (same_front spelled) ∙ ap (λ x. (spelled.front ++ spelled.first.spelling) ++ x ∷ behind) at in
            let dot : lexeme.rest.now ≡ 46 ∷ tail = e ∙ ap (λ x. x ∷ tail) at in
            absurd (no_name spelled behind tokens one (λ may. undotted (may, (tail, dot))) name_byte (subst (λ x. TokensOf x tokens) text h) formed)

    apart : ¬ IsDotted lexeme expected → StaysApart HasForm front lexeme.rest.now passed
    apart undotted more tail behind tokens e some h formed before other ends =
        subst (λ x. NoMore x lexeme.rest.now (more ++ behind)) (last_same stand.0 before last other (sym stand.2 ∙ ends)) (go more e some h)
      where
        go : (more : List ℕ) → lexeme.rest.now ≡ more ++ tail → 0 < length more → TokensOf (front ++ (more ++ behind)) tokens → NoMore last lexeme.rest.now (more ++ behind)
        go [] e some h = absurd (omega arith)
        go (b ∷ []) e some h = one_apart undotted b tail behind tokens e h formed
        go (b ∷ c ∷ more) e some h = subst (λ x. NoMore last x (b ∷ c ∷ (more ++ behind))) (sym e) (shared_two last b c (more ++ tail) (more ++ behind))

  -- a dot and another byte go on with no token that is expected
  no_dots : MayBeName last expected → (text : List ℕ) (more : List Token) → TokensOf (46 ∷ text) more → HasForm (passed ++ more) → ⊥
  no_dots may text more h formed =
      let next : DotsNext more = dots_next text more h in
      let begun : IsBegun HasForm (passed ++ dots ∷ []) = next_begun HasForm passed dots next.more (subst (λ x. HasForm (passed ++ x)) next.whole formed) next.spelled in
      go (stops.expected_alone dots begun)
    where
      go : IsExpected expected dots ⊎ IsMark dots → ⊥
      go (inl is) =
          let number_last = stops.number_before_dots (dots_expected expected is) in
          let same : last ≡ number number_last.1 = last_same stand.0 number_last.0 last (number number_last.1) (sym stand.2 ∙ number_last.2) in
          subst (λ x. MayBeName x expected) same may
      go (inr mark) = mark

  dotted_within : (stood : Standing bytes passed lexeme.rest.now) → IsDotted lexeme expected → (m : ℕ) → m ≤ length bytes → IsPossible HasForm (take m bytes) → m ≤ suc (length stood.front)
  dotted_within stood dotted m few h = go (cases_lt (suc (length stood.front)) m)
    where
      two : (b : Beyond HasForm bytes stood.front lexeme.rest.now m) (more : List ℕ) → b.more ≡ more → 1 < length more → ⊥
      two b [] e some = omega arith
      two b (c ∷ []) e some = omega arith
      two b (c ∷ d ∷ more) e some =
          let split : lexeme.rest.now ≡ c ∷ d ∷ (more ++ b.tail) = b.split ∙ ap (λ x. x ++ b.tail) e in
          let follow : List ℕ = c ∷ d ∷ (more ++ b.behind) in
          let spelled : TokensOf (stood.front ++ follow) b.tokens = subst (λ x. TokensOf (stood.front ++ (x ++ b.behind)) b.tokens) e b.spelled in
          let passes = stood.keeps follow (λ before other ends. subst (λ x. NoMore other x follow) (sym split) (shared_two other c d (more ++ b.tail) (more ++ b.behind))) in
          let others = tokens_behind (stood.front ++ follow) passed b.tokens follow passes spelled in
          let at : c ≡ 46 = same_head (sym split ∙ dotted.1.1) in
          no_dots dotted.0 (d ∷ (more ++ b.behind)) others.0 (subst (λ x. TokensOf (x ∷ d ∷ (more ++ b.behind)) others.0) at others.2) (subst (λ x. HasForm x) others.1 b.formed)

      go : (suc (length stood.front) < m) ⊎ (m ≤ suc (length stood.front)) → m ≤ suc (length stood.front)
      go (inr short) = short
      go (inl past) =
          let b : Beyond HasForm bytes stood.front lexeme.rest.now m = beyond HasForm bytes stood.front lexeme.rest.now m stood.whole few (omega arith) h in
          absurd (two b b.more refl (omega (arith, b.long)))

  behind_last : (at : ℕ) → IsPlace bytes (Some lexeme) expected at → IsLongestPossible HasForm bytes at
  behind_last at (inr (undotted, place)) =
      let stood : Standing bytes passed lexeme.rest.now = standing bytes passed (Some lexeme) stand in
      plain_longest HasForm bytes passed lexeme.rest.now expected stood stops at place (apart stood.front stood.whole undotted)
  behind_last at (inl (dotted, place)) =
      let stood : Standing bytes passed lexeme.rest.now = standing bytes passed (Some lexeme) stand in
      let long : length bytes ≡ length stood.front + length lexeme.rest.now = ap length stood.whole ∙ length-append stood.front lexeme.rest.now in
      let same : at ≡ suc (length stood.front) = omega arith in
      record {
        within = omega (arith, ap length dotted.1.1);
        possible = dot_reached HasForm bytes passed expected lexeme at stand stops dotted place;
        longest = λ m few h. omega (arith, dotted_within stood dotted m few h);
      }

-- The place is the longest front with which some text of the form begins, where reading stops.
pub longest_possible : (HasForm : List Token → Type 0) (bytes : List ℕ) (passed : List Token) (last : Option Lexeme) (expected : Expected) (at : ℕ)
    → PassedAre bytes passed last → Stops HasForm passed expected (rest_behind bytes last) → IsPlace bytes last expected at → IsLongestPossible HasForm bytes at
longest_possible HasForm bytes passed None expected at stand stops place =
    plain_longest HasForm bytes passed bytes expected (standing bytes passed None stand) stops at place
    (λ more tail behind tokens e some h formed before other ends.
    absurd (omega (arith, ap length (sym stand ∙ ends), length-append before (other ∷ []))))
longest_possible HasForm bytes passed (Some lexeme) expected at stand stops place = behind_last HasForm bytes passed expected lexeme stand stops at place
