-- The tokens that stand first in a text.
use Rattle.std.proofs.Common.{◌≡◌, ℕ, zero, suc, ◌<◌, ◌≤◌, List, [], ◌∷◌, ◌++◌, length, take, Option, Some, None, refl, sym, ap, subst, arith, length-append}
use Rattle.kb_lexing.specs.Token.{Token}
use Rattle.kb_lexing.specs.Spelling.{FirstToken, TokensOf, Spells, after_gap}
use Rattle.kb_lexing.specs.Lexemes.{AreFirstTokens, IsFirstLexeme, token_view}
use Rattle.kb_lexing.specs.declared.token.Lexeme.{Lexeme}
use Rattle.kb_lexing.proofs.FirstTokens.{spells_some}
use Rattle.kb_lexing.proofs.OneToken.{one_token, first_some}
use Rattle.kb_lexing.proofs.Begun.{Begun, begun, not_begun, begun_with}
use Rattle.kb_lexing.proofs.Lexings.{UpTo, gap_front, token_before}

-- what is behind the first token is shorter than the text
pub first_shorter : (text : List ℕ) (token : Token) (rest : List ℕ) → FirstToken (after_gap text) token rest → length rest < length text
first_shorter text token rest first = go first.spelling first.spelled first.whole
  where
    go : (spelling : List ℕ) → Spells token spelling → after_gap text ≡ spelling ++ rest → length rest < length text
    go [] h whole = absurd (spells_some token h)
    go (b ∷ bytes) h whole =
        let gap = gap_front text in
        omega (arith, ap length gap.whole, length-append gap.front (after_gap text), ap length whole, length-append (b ∷ bytes) rest)

-- the first tokens of a text
record FirstTokens (text : List ℕ) : Type 0 where
  pub tokens : List Token
  pub first : AreFirstTokens text tokens

within : (n : ℕ) (text : List ℕ) → length text < n → FirstTokens text
within zero text few = absurd (omega arith)
within (suc n) text few = go (begun_with (after_gap text)) (λ rest shorter. within n rest (omega arith))
  where
    go : Begun (after_gap text) → ((rest : List ℕ) → length rest < length text → FirstTokens rest) → FirstTokens text
    go (not_begun none) more = record { tokens = []; first = none }
    go (begun token k h) more =
        let behind = more _ (first_shorter text token _ h.first) in
        record { tokens = token ∷ behind.tokens; first = (_, h.first, behind.first) }

abbrev first_tokens : (text : List ℕ) → FirstTokens text
first_tokens text = within (suc (length text)) text (omega arith)

-- the tokens that stand first in the text, up to its end or to where no token begins
pub tokens_of : List ℕ → List Token
tokens_of text = (first_tokens text).tokens

pub tokens_of-first : (text : List ℕ) → AreFirstTokens text (tokens_of text)
unfolding tokens_of
tokens_of-first text = (first_tokens text).first

one_front : (text : List ℕ) (tokens others : List Token) → AreFirstTokens text tokens → AreFirstTokens text others → tokens ≡ others
one_front text [] [] h k = refl
one_front text [] (other ∷ others) h k = absurd (h other k.0 k.1)
one_front text (token ∷ tokens) [] h k = absurd (k token h.0 h.1)
one_front text (token ∷ tokens) (other ∷ others) h k =
    let same = one_token (after_gap text) token other h.0 k.0 h.1 k.1 in
    let more : tokens ≡ others = one_front h.0 tokens others h.2 (subst (λ rest. AreFirstTokens rest others) (sym same.rest_same) k.2) in
    let one = same.token_same in
    cc

-- a text of tokens has these alone
all_first : (text : List ℕ) (tokens : List Token) → TokensOf text tokens → AreFirstTokens text tokens
all_first text [] h = λ token rest first. first_some (after_gap text) token rest first h
all_first text (token ∷ tokens) h = (h.0, h.1, all_first h.0 tokens h.2)

pub tokens_are : (text : List ℕ) (tokens : List Token) → TokensOf text tokens → tokens ≡ tokens_of text
tokens_are text tokens h = one_front text tokens (tokens_of text) (all_first text tokens h) (tokens_of-first text)

-- the first token that is read, and the tokens behind it
abbrev pub tokens_from : Option Lexeme → List Token
tokens_from None = []
tokens_from (Some lexeme) = token_view lexeme.token ∷ tokens_of lexeme.rest.now

pub tokens_next : (text : List ℕ) (next : Option Lexeme) → IsFirstLexeme text next → tokens_from next ≡ tokens_of text
tokens_next text None none = one_front text [] (tokens_of text) none (tokens_of-first text)
tokens_next text (Some lexeme) first =
    one_front text (tokens_from (Some lexeme)) (tokens_of text) (lexeme.rest.now, first, tokens_of-first lexeme.rest.now) (tokens_of-first text)

-- so many first tokens are those of a front
pub fronts : (text : List ℕ) (tokens : List Token) → AreFirstTokens text tokens → (k : ℕ) → k ≤ length tokens → (tail : List ℕ) × UpTo text tail (take k tokens)
fronts text tokens h zero few = (text, record { front = []; whole = refl; spelled = refl })
fronts text [] h (suc k) few = absurd (omega arith)
fronts text (token ∷ tokens) h (suc k) few =
    let more = fronts h.0 tokens h.2 k (omega arith) in
    (more.0, token_before text token h.0 more.1.front more.0 (take k tokens) h.1 more.1.whole more.1.spelled)

-- the text has tokens where the rest has
pub record Onward (text rest : List ℕ) : Type 0 where
  pub onward : (tokens : List Token) → TokensOf rest tokens → (all : List Token) × TokensOf text all
  pub back : (tokens : List Token) → TokensOf text tokens → (later : List Token) × TokensOf rest later

pub onward_starts : (text : List ℕ) → Onward text text
onward_starts text = record { onward = λ tokens h. (tokens, h); back = λ tokens h. (tokens, h) }

behind_first : (text rest : List ℕ) (token : Token) → FirstToken (after_gap text) token rest → (tokens : List Token) → TokensOf text tokens → (later : List Token) × TokensOf rest later
behind_first text rest token first [] h = absurd (first_some (after_gap text) token rest first h)
behind_first text rest token first (other ∷ tokens) h =
    let same = one_token (after_gap text) other token h.0 rest h.1 first in
    (tokens, subst (λ x. TokensOf x tokens) same.rest_same h.2)

pub onward_goes : (text rest : List ℕ) (lexeme : Lexeme) → Onward text rest → IsFirstLexeme rest (Some lexeme) → Onward text lexeme.rest.now
onward_goes text rest lexeme h first = record {
  onward = λ tokens k. h.onward (token_view lexeme.token ∷ tokens) (lexeme.rest.now, first, k);
  back = λ tokens k. let later = h.back tokens k in behind_first rest lexeme.rest.now (token_view lexeme.token) first later.0 later.1;
}

pub onward_stops : (text rest : List ℕ) → Onward text rest → IsFirstLexeme rest None → ¬ (after_gap rest ≡ []) → (tokens : List Token) → ¬ TokensOf text tokens
onward_stops text rest h none some tokens k = let later = h.back tokens k in go later.0 later.1
  where
    go : (later : List Token) → ¬ TokensOf rest later
    go [] e = some e
    go (token ∷ later) e = none token e.0 e.1
