-- Up to the place some text of the form begins with the bytes.
use Rattle.std.proofs.Common.{◌≡◌, ◌≢◌, ℕ, suc, ◌+◌, ◌-◌, ◌⊎◌, inl, inr, List, [], ◌∷◌, ◌++◌, length, take, drop, Some, refl, sym, ap, ◌∙◌, subst, arith, length-append, append_assoc}
use Rattle.std.proofs.lemmas.Bool.{cases_eq}
use Rattle.std.proofs.lemmas.List.{append-nil, take-append-drop}
use Rattle.kb_lexing.specs.Token.{Token, name, number, dots}
use Rattle.kb_lexing.specs.Spelling.{IsName, Spells, FirstToken, TokensOf, after_gap}
use Rattle.kb_lexing.specs.Lexemes.{IsLongestFront, token_view}
use Rattle.kb_lexing.specs.Possible.{IsBegun, IsPossible, Passes, IsExpected, EndsWith, Stops, PassedAre, BeginsExpected, IsDotted}
use Rattle.kb_lexing.specs.declared.token.Lexeme.{Lexeme}
use Rattle.kb_lexing.specs.declared.place.Expected.{Expected}
use Rattle.kb_lexing.proofs.LongestFronts.{take_past}
use Rattle.kb_lexing.proofs.Lexings.{gap_front}
use Rattle.kb_lexing.proofs.Longer.{IsWord, NoMore, shared_byte, wordless}
use Rattle.kb_lexing.proofs.PassedTokens.{passes_append, passes_then, gap_byte, gap_apart, gap_then, dot_token}
use Rattle.kb_lexing.proofs.LastTokens.{LastFront, lexeme_front, Standing, dotted_name}
use Rattle.kb_lexing.proofs.SpelledTexts.{same_gap, spelling_first, text_of_spelled}
use Rattle.kb_lexing.proofs.ExpectedTokens.{dots_expected, may_be_word, last_same}

module _ (HasForm : List Token → Type 0) (bytes : List ℕ) (passed : List Token) (rest : List ℕ) (expected : Expected)
    (stand : Standing bytes passed rest) (stops : Stops HasForm passed expected rest) where
  -- behind the gap
  gap_reached : IsPossible HasForm (stand.front ++ (gap_front rest).front)
  gap_reached =
      let gap : List ℕ = (gap_front rest).front in
      let text = text_of_spelled stops.begun.more stops.begun.spelled in
      let follow : List ℕ = gap ++ 10 ∷ text.0 in
      let passes = stand.keeps follow (λ before last ends. gap_apart last rest rest text.0) in
      let more = same_gap follow text.0 stops.begun.more ((gap_front rest).ends text.0) text.1 in
      record {
        behind = 10 ∷ text.0;
        tokens = passed ++ stops.begun.more;
        spelled = subst (λ x. TokensOf x (passed ++ stops.begun.more)) (sym (append_assoc stand.front gap (10 ∷ text.0)))
            (passes_then (stand.front ++ follow) passed stops.begun.more follow passes more);
        formed = stops.begun.formed;
      }

  -- before `..` the last token is a number
  no_word_before : (token : Token) (more : List ℕ) → IsExpected expected token → Spells token (46 ∷ more)
      → (before : List Token) (last : Token) → EndsWith passed before last → ¬ IsWord last
  no_word_before token more h spelled before last ends =
      let is : IsExpected expected dots = subst (λ x. IsExpected expected x) (dot_token token more spelled) h in
      let number_last = stops.number_before_dots (dots_expected expected is) in
      let same : last ≡ number number_last.1 = last_same before number_last.0 last (number number_last.1) (sym ends ∙ number_last.2) in
      λ one. subst (λ x. IsWord x) same one

  module _ (b : ℕ) (front tail : List ℕ) (split : after_gap rest ≡ (b ∷ front) ++ tail)
      (token : Token) (more : List ℕ) (is : IsExpected expected token) (spelled : Spells token ((b ∷ front) ++ more)) where
    apart : (before : List Token) (last : Token) → EndsWith passed before last → (other : List ℕ)
        → NoMore last rest ((gap_front rest).front ++ b ∷ other)
    apart before last ends other = go (gap_front rest).front refl
      where
        whole : rest ≡ (gap_front rest).front ++ b ∷ (front ++ tail)
        whole = (gap_front rest).whole ∙ ap (λ x. (gap_front rest).front ++ x) split

        first : (b ≡ 46) ⊎ (b ≢ 46) → NoMore last (b ∷ (front ++ tail)) (b ∷ other)
        first (inl at) = wordless last b (front ++ tail) other
            (no_word_before token (front ++ more) is (subst (λ x. Spells token (x ∷ (front ++ more))) at spelled) before last ends)
        first (inr differs) = shared_byte last b (front ++ tail) other differs

        go : (gap : List ℕ) → (gap_front rest).front ≡ gap → NoMore last rest (gap ++ b ∷ other)
        go [] e = subst (λ x. NoMore last x (b ∷ other)) (sym (whole ∙ ap (λ x. x ++ b ∷ (front ++ tail)) e)) (first (cases_eq b 46))
        go (c ∷ gap) e = subst (λ x. NoMore last x (c ∷ (gap ++ b ∷ other))) (sym (whole ∙ ap (λ x. x ++ b ∷ (front ++ tail)) e))
            (shared_byte last c (gap ++ b ∷ (front ++ tail)) (gap ++ b ∷ other) (λ at. gap_byte rest c gap e (inr at)))

    -- behind a front of an expected token
    token_reached : IsPossible HasForm ((stand.front ++ (gap_front rest).front) ++ (b ∷ front))
    token_reached =
        let gap : List ℕ = (gap_front rest).front in
        let begun : IsBegun HasForm (passed ++ token ∷ []) = stops.expects token is ((b ∷ front) ++ more, spelled) in
        let text = text_of_spelled begun.more begun.spelled in
        let behind : List ℕ = more ++ 10 ∷ text.0 in
        let follow : List ℕ = gap ++ ((b ∷ front) ++ behind) in
        let passes = stand.keeps follow (λ before last ends. apart before last ends (front ++ behind)) in
        let first : FirstToken ((b ∷ front) ++ behind) token (10 ∷ text.0) =
        subst (λ x. FirstToken x token (10 ∷ text.0)) (append_assoc (b ∷ front) more (10 ∷ text.0)) (spelling_first token ((b ∷ front) ++ more) text.0 spelled) in
        let stays = gap_then rest (b ∷ front) tail behind (omega arith) split in
        let next : Passes follow (token ∷ []) (10 ∷ text.0) = (10 ∷ text.0, subst (λ x. FirstToken x token (10 ∷ text.0)) (sym stays) first, refl) in
        let all = passes_append (stand.front ++ follow) passed (token ∷ []) follow (10 ∷ text.0) passes next in
        let later = same_gap (10 ∷ text.0) text.0 begun.more refl text.1 in
        let same : ((stand.front ++ gap) ++ (b ∷ front)) ++ behind ≡ stand.front ++ follow =
        append_assoc (stand.front ++ gap) (b ∷ front) behind ∙ append_assoc stand.front gap ((b ∷ front) ++ behind) in
        record {
          behind = behind;
          tokens = (passed ++ token ∷ []) ++ begun.more;
          spelled = subst (λ x. TokensOf x ((passed ++ token ∷ []) ++ begun.more)) (sym same)
              (passes_then (stand.front ++ follow) (passed ++ token ∷ []) begun.more (10 ∷ text.0) all later);
          formed = begun.formed;
        }

  pub reached : (n at : ℕ) → IsLongestFront (BeginsExpected expected) (after_gap rest) n → at ≡ length bytes - length (after_gap rest) + n
      → IsPossible HasForm (take at bytes)
  reached n at longest place = subst (λ x. IsPossible HasForm x) (sym cut) (go (take n (after_gap rest)) refl longest.formed)
    where
      front : List ℕ
      front = stand.front ++ (gap_front rest).front

      whole : bytes ≡ front ++ after_gap rest
      whole = stand.whole ∙ ap (λ x. stand.front ++ x) (gap_front rest).whole ∙ sym (append_assoc stand.front (gap_front rest).front (after_gap rest))

      cut : take at bytes ≡ front ++ take n (after_gap rest)
      cut =
          let long : length bytes ≡ length front + length (after_gap rest) = ap length whole ∙ length-append front (after_gap rest) in
          let less : at - length front ≡ n = omega arith in
          ap (λ x. take at x) whole ∙ take_past at front (after_gap rest) (omega arith) ∙ ap (λ k. front ++ take k (after_gap rest)) less

      go : (begins : List ℕ) → take n (after_gap rest) ≡ begins → BeginsExpected expected (take n (after_gap rest)) → IsPossible HasForm (front ++ take n (after_gap rest))
      go [] e h = subst (λ x. IsPossible HasForm x) (sym (ap (λ x. front ++ x) e ∙ append-nil front)) gap_reached
      go (b ∷ begins) e (inl none) = absurd (let k = sym e ∙ none in cc)
      go (b ∷ begins) e (inr (token, more, is, spelled)) =
          subst (λ x. IsPossible HasForm (front ++ x)) (sym e)
          (token_reached b begins (drop n (after_gap rest)) (sym (take-append-drop n (after_gap rest)) ∙ ap (λ x. x ++ drop n (after_gap rest)) e)
          token more is (subst (λ x. Spells token (x ++ more)) e spelled))

-- behind the dot that stands behind what may be a name
pub dot_reached : (HasForm : List Token → Type 0) (bytes : List ℕ) (passed : List Token) (expected : Expected) (lexeme : Lexeme) (at : ℕ)
    → PassedAre bytes passed (Some lexeme) → Stops HasForm passed expected lexeme.rest.now → IsDotted lexeme expected
    → at ≡ suc (length bytes - length lexeme.rest.now) → IsPossible HasForm (take at bytes)
dot_reached HasForm bytes passed expected lexeme at stand stops dotted place =
    let token : Token = token_view lexeme.token in
    let last : LastFront bytes stand.0 token lexeme.rest.now = lexeme_front bytes passed lexeme stand in
    let spelling : List ℕ = last.first.spelling in
    let longer : List ℕ = spelling ++ 46 ∷ 97 ∷ [] in
    let is_name : IsName longer = dotted_name token spelling 97 last.first.spelled (may_be_word token expected dotted.0) (inl (inr (inl (omega arith, omega arith)))) in
    let begun : IsBegun HasForm (stand.0 ++ name longer ∷ []) = stops.renamed stand.0 token stand.2 dotted.0 longer is_name in
    let text = text_of_spelled begun.more begun.spelled in
    let behind : List ℕ = 97 ∷ 10 ∷ text.0 in
    let first : FirstToken (spelling ++ 46 ∷ behind) (name longer) (10 ∷ text.0) =
    subst (λ x. FirstToken x (name longer) (10 ∷ text.0)) (append_assoc spelling (46 ∷ 97 ∷ []) (10 ∷ text.0)) (spelling_first (name longer) longer text.0 (refl, is_name)) in
    let passes = last.keeps (46 ∷ behind) (name longer) (10 ∷ text.0) first in
    let later = same_gap (10 ∷ text.0) text.0 begun.more refl text.1 in
    let tokens : List Token = (stand.0 ++ name longer ∷ []) ++ begun.more in
    let all : TokensOf (last.front ++ (spelling ++ 46 ∷ behind)) tokens =
    passes_then (last.front ++ (spelling ++ 46 ∷ behind)) (stand.0 ++ name longer ∷ []) begun.more (10 ∷ text.0) passes later in
    let front : List ℕ = last.front ++ spelling in
    let same : (front ++ 46 ∷ []) ++ behind ≡ last.front ++ (spelling ++ 46 ∷ behind) =
    append_assoc front (46 ∷ []) behind ∙ append_assoc last.front spelling (46 ∷ behind) in
    let whole : bytes ≡ front ++ lexeme.rest.now =
    last.whole ∙ ap (λ x. last.front ++ x) last.first.whole ∙ sym (append_assoc last.front spelling lexeme.rest.now) in
    let long : length bytes ≡ length front + length lexeme.rest.now = ap length whole ∙ length-append front lexeme.rest.now in
    let less : at - length front ≡ 1 = omega arith in
    let cut : take at bytes ≡ front ++ 46 ∷ [] =
    ap (λ x. take at x) whole ∙ take_past at front lexeme.rest.now (omega arith) ∙ ap (λ k. front ++ take k lexeme.rest.now) less ∙ ap (λ x. front ++ take 1 x) dotted.1.1 in
    subst (λ x. IsPossible HasForm x) (sym cut) (record {
      behind = behind;
      tokens = tokens;
      spelled = subst (λ x. TokensOf x tokens) (sym same) all;
      formed = begun.formed;
    })
