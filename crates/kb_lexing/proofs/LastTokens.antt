-- The last of the tokens that were passed, and what may stand behind it or in its place.
use Rattle.std.proofs.Common.{◌≡◌, ◌≢◌, ℕ, suc, ◌+◌, ◌-◌, ◌<◌, inl, inr, List, [], ◌∷◌, ◌++◌, length, take, Option, Some, None, refl, sym, ap, ◌∙◌, subst, arith, length-append, append_assoc, one-add}
use Rattle.std.specs.Prelude.{codes}
use Rattle.kb_lexing.specs.Token.{Token, name}
use Rattle.kb_lexing.specs.Spelling.{BeginsWithNameByte, GoesOnAsName, IsName, Spells, FirstToken, after_gap}
use Rattle.kb_lexing.specs.Lexemes.{token_view}
use Rattle.kb_lexing.specs.Possible.{Passes, EndsWith, PassedAre, rest_behind}
use Rattle.kb_lexing.specs.declared.token.Lexeme.{Lexeme}
use Rattle.kb_lexing.proofs.FirstTokens.{kind_of, spells_some, same_head, same_tail}
use Rattle.kb_lexing.proofs.Begun.{dot_only, name_front}
use Rattle.kb_lexing.proofs.NameFronts.{name_first}
use Rattle.kb_lexing.proofs.LongestFronts.{take_past}
use Rattle.kb_lexing.proofs.Lexings.{gap_front}
use Rattle.kb_lexing.proofs.Longer.{IsWord, NoMore, word_begins, goes_append, kept_first, shared_byte, shared_two}
use Rattle.kb_lexing.proofs.PassedTokens.{PassedFront, passed_front, passes_append, gap_then, spelling_some}

-- ---- bytes in common

-- two bytes, or one that is no dot
abbrev pub IsFirm : List ℕ → Type 0
IsFirm [] = ⊥
IsFirm (b ∷ []) = b ≢ 46
IsFirm (b ∷ c ∷ bytes) = Unit {0}

pub shared : (token : Token) (front rest follow : List ℕ) → IsFirm front → NoMore token (front ++ rest) (front ++ follow)
shared token [] rest follow firm = absurd firm
shared token (b ∷ []) rest follow firm = shared_byte token b rest follow firm
shared token (b ∷ c ∷ front) rest follow firm = shared_two token b c (front ++ rest) (front ++ follow)

firm_spelling : (token : Token) (spelling : List ℕ) → Spells token spelling → IsFirm spelling
firm_spelling token [] h = spells_some token h
firm_spelling token (b ∷ []) h = λ at. let one = dot_only b [] at (kind_of token b [] h) in cc
firm_spelling token (b ∷ c ∷ more) h = tt

firm_behind : (gap : List ℕ) (token : Token) (spelling : List ℕ) → Spells token spelling → IsFirm (gap ++ spelling)
firm_behind [] token spelling h = firm_spelling token spelling h
firm_behind (b ∷ c ∷ gap) token spelling h = tt
firm_behind (b ∷ []) token [] h = absurd (spells_some token h)
firm_behind (b ∷ []) token (c ∷ more) h = tt

-- ---- the last token

-- the bytes before the spelling of the last token, and what may stand there with other bytes behind the spelling
pub record LastFront (text : List ℕ) (before : List Token) (last : Token) (rest : List ℕ) : Type 0 where
  pub front : List ℕ
  pub bytes : List ℕ
  pub first : FirstToken bytes last rest
  pub whole : text ≡ front ++ bytes
  pub keeps : (more : List ℕ) (token : Token) (back : List ℕ) → FirstToken (first.spelling ++ more) token back
      → Passes (front ++ (first.spelling ++ more)) (before ++ token ∷ []) back

pub last_front : (text : List ℕ) (before : List Token) (last : Token) (behind rest : List ℕ) → Passes text before behind → FirstToken (after_gap behind) last rest
    → LastFront text before last rest
last_front text before last behind rest passes first =
    let passed : PassedFront text before behind = passed_front text before behind passes in
    let gap : List ℕ = (gap_front behind).front in
    record {
      front = passed.front ++ gap;
      bytes = after_gap behind;
      first = first;
      whole = passed.whole ∙ ap (λ x. passed.front ++ x) (gap_front behind).whole ∙ sym (append_assoc passed.front gap (after_gap behind));
      keeps = λ more token back k.
          let follow : List ℕ = gap ++ (first.spelling ++ more) in
          let whole : behind ≡ (gap ++ first.spelling) ++ rest = (gap_front behind).whole ∙ ap (λ x. gap ++ x) first.whole ∙ sym (append_assoc gap first.spelling rest) in
          let apart : (one : Token) → NoMore one behind follow = λ one.
          subst (λ x. NoMore one x follow) (sym whole)
          (subst (λ x. NoMore one ((gap ++ first.spelling) ++ rest) x) (append_assoc gap first.spelling more)
          (shared one (gap ++ first.spelling) rest more (firm_behind gap last first.spelling first.spelled))) in
          let stays = gap_then behind first.spelling rest more (spelling_some last first.spelling first.spelled) first.whole in
          subst (λ x. Passes x (before ++ token ∷ []) back) (sym (append_assoc passed.front gap (first.spelling ++ more)))
          (passes_append (passed.front ++ follow) before (token ∷ []) follow back (passed.keeps follow apart) (back, subst (λ x. FirstToken x token back) (sym stays) k, refl));
    }

pub lexeme_front : (text : List ℕ) (passed : List Token) (lexeme : Lexeme) (h : PassedAre text passed (Some lexeme))
    → LastFront text h.0 (token_view lexeme.token) lexeme.rest.now
lexeme_front text passed lexeme h =
    last_front text h.0 (token_view lexeme.token) h.1 lexeme.rest.now h.3 (subst (λ x. FirstToken x (token_view lexeme.token) lexeme.rest.now) h.4 h.5)

-- what stands before the rest, and the tokens there with other bytes behind them
pub record Standing (text : List ℕ) (passed : List Token) (rest : List ℕ) : Type 0 where
  pub front : List ℕ
  pub whole : text ≡ front ++ rest
  pub keeps : (follow : List ℕ) → ((before : List Token) (last : Token) → EndsWith passed before last → NoMore last rest follow)
      → Passes (front ++ follow) passed follow

pub standing : (text : List ℕ) (passed : List Token) (last : Option Lexeme) → PassedAre text passed last → Standing text passed (rest_behind text last)
standing text passed None h = record {
  front = [];
  whole = refl;
  keeps = λ follow apart. subst (λ x. Passes follow x follow) (sym h) refl;
}
standing text passed (Some lexeme) h =
    let token : Token = token_view lexeme.token in
    let front : LastFront text h.0 token lexeme.rest.now = lexeme_front text passed lexeme h in
    let spelling : List ℕ = front.first.spelling in
    record {
      front = front.front ++ spelling;
      whole = front.whole ∙ ap (λ x. front.front ++ x) front.first.whole ∙ sym (append_assoc front.front spelling lexeme.rest.now);
      keeps = λ follow apart.
          let kept = kept_first front.bytes token lexeme.rest.now follow front.first (apart h.0 token h.2) in
          subst (λ x. Passes x passed follow) (sym (append_assoc front.front spelling follow))
          (subst (λ x. Passes (front.front ++ (spelling ++ follow)) x follow) (sym h.2) (front.keeps follow token follow kept));
    }

-- ---- names with a dot

pub no_dot_in_rec : (b : ℕ) (more bytes : List ℕ) → b ∷ (more ++ 46 ∷ bytes) ≢ codes "rec"
no_dot_in_rec b [] bytes e = let at : ◌≡◌ {A = ℕ} 46 101 = same_head (same_tail e) in omega arith
no_dot_in_rec b (c ∷ more) bytes e = behind more (same_tail (same_tail e))
  where
    behind : (more : List ℕ) → more ++ 46 ∷ bytes ≡ 99 ∷ [] → ⊥
    behind [] e = let at : ◌≡◌ {A = ℕ} 46 99 = same_head e in omega arith
    behind (d ∷ more) e = omega (arith, ap length e, length-append more (46 ∷ bytes))

dotted_goes : (bytes : List ℕ) (c : ℕ) → BeginsWithNameByte (c ∷ bytes) → GoesOnAsName (46 ∷ c ∷ [])
dotted_goes bytes c at = (inr (refl, at), (inl at, tt))

-- a name or `rec`, a dot and one byte
pub dotted_name : (token : Token) (spelling : List ℕ) (c : ℕ) → Spells token spelling → IsWord token → BeginsWithNameByte (c ∷ []) → IsName (spelling ++ 46 ∷ c ∷ [])
dotted_name token [] c h one at = absurd (spells_some token h)
dotted_name token (b ∷ more) c h one at =
    let begins = word_begins token b more one h in
    (begins.0, goes_append more (46 ∷ c ∷ []) begins.1 (dotted_goes [] c at), no_dot_in_rec b more (c ∷ []))

pub record DottedFirst (text : List ℕ) : Type 0 where
  pub spelling : List ℕ
  pub back : List ℕ
  pub first : FirstToken text (name spelling) back

-- a name or `rec`, a dot and a name byte begin a name
pub dotted_first : (token : Token) (spelling bytes : List ℕ) → Spells token spelling → IsWord token → BeginsWithNameByte bytes → DottedFirst (spelling ++ 46 ∷ bytes)
dotted_first token spelling [] h one at = absurd at
dotted_first token [] (c ∷ bytes) h one at = absurd (spells_some token h)
dotted_first token (b ∷ more) (c ∷ bytes) h one at =
    let begins = word_begins token b more one h in
    let rest : List ℕ = more ++ 46 ∷ c ∷ bytes in
    let longest = name_front rest in
    let goes : GoesOnAsName (more ++ 46 ∷ c ∷ []) = goes_append more (46 ∷ c ∷ []) begins.1 (dotted_goes bytes c at) in
    let most = longest.1.longest (more ++ 46 ∷ c ∷ []) bytes goes (sym (append_assoc more (46 ∷ c ∷ []) bytes)) in
    record {
      spelling = take (1 + longest.0) (b ∷ rest);
      back = _;
      first = name_first (b ∷ rest) longest.0 begins.0 longest.1 (other longest.0 (omega (arith, most, length-append more (46 ∷ c ∷ []))));
    }
  where
    cut : (n : ℕ) → length more < n → take n (more ++ 46 ∷ c ∷ bytes) ≡ more ++ 46 ∷ take (n - length more - 1) (c ∷ bytes)
    cut n long =
        let less : n - length more ≡ suc (n - length more - 1) = omega arith in
        take_past n more (46 ∷ c ∷ bytes) (omega arith) ∙ ap (λ k. more ++ take k (46 ∷ c ∷ bytes)) less

    other : (n : ℕ) → length more < n → take (1 + n) (b ∷ (more ++ 46 ∷ c ∷ bytes)) ≢ codes "rec"
    other n long = rw (one-add, cut n long) (no_dot_in_rec b more (take (n - length more - 1) (c ∷ bytes)))
