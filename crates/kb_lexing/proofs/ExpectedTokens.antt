-- Which tokens are expected, and which are marks.
use Rattle.std.proofs.Common.{◌≡◌, ℕ, ◌⊎◌, inl, inr, List, [], ◌∷◌, ◌++◌, length, refl, sym, ap, subst, arith, length-append}
use Rattle.kb_lexing.specs.Token.{Token, name, number, assign, open_round, close_round, open_square, close_square, comma, semicolon, star, caret, dots, rec_word}
use Rattle.kb_lexing.specs.Spelling.{Spells, FirstToken, TokensOf}
use Rattle.kb_lexing.specs.Possible.{AreSpelled, IsExpected, IsMark, MayBeName}
use Rattle.kb_lexing.specs.declared.place.Expected.{Expected}
use Rattle.kb_lexing.specs.declared.place.Expected.TheVariants as variant
use Rattle.kb_lexing.proofs.FirstTokens.{spells_some, same_head}
use Rattle.kb_lexing.proofs.Longer.{IsWord, IsNumeral}
use Rattle.kb_lexing.proofs.PassedTokens.{dot_token, tokens_spelled}

pub word_decided : (token : Token) → IsWord token ⊎ ¬ IsWord token
word_decided (name text) = inl tt
word_decided rec_word = inl tt
word_decided _ = inr (λ h. h)

pub mark_plain : (token : Token) → IsMark token → ¬ IsWord token × ¬ IsNumeral token
mark_plain (name text) h = absurd h
mark_plain rec_word h = absurd h
mark_plain (number z) h = absurd h
mark_plain _ h = (λ h. h, λ h. h)

pub mark_byte : (token : Token) (spelling : List ℕ) → IsMark token → Spells token spelling → length spelling ≡ 1
mark_byte open_round spelling h k = ap length k
mark_byte close_round spelling h k = ap length k
mark_byte open_square spelling h k = ap length k
mark_byte close_square spelling h k = ap length k
mark_byte comma spelling h k = ap length k
mark_byte semicolon spelling h k = ap length k
mark_byte star spelling h k = ap length k
mark_byte caret spelling h k = ap length k
mark_byte _ spelling h k = absurd h

rec_only : (token : Token) → IsExpected variant.Rec token → token ≡ rec_word
rec_only rec_word h = refl
rec_only _ h = absurd h

no_word_number : (token : Token) → IsExpected variant.Number token → ¬ IsWord token
no_word_number (number z) h = λ one. one
no_word_number _ h = absurd h

no_word_assign : (token : Token) → IsExpected variant.Assign token → ¬ IsWord token
no_word_assign assign h = λ one. one
no_word_assign _ h = absurd h

no_word_dots : (token : Token) → IsExpected variant.Dots token → ¬ IsWord token
no_word_dots dots h = λ one. one
no_word_dots _ h = absurd h

-- where a word is expected, each name is, or `rec` alone
pub word_expected : (expected : Expected) (token : Token) → IsExpected expected token → IsWord token
    → ((text : List ℕ) → IsExpected expected (name text)) ⊎ ((expected ≡ variant.Rec) × (token ≡ rec_word))
word_expected variant.Name token h one = inl (λ text. tt)
word_expected variant.Value token h one = inl (λ text. tt)
word_expected variant.Rec token h one = inr (refl, rec_only token h)
word_expected variant.Number token h one = absurd (no_word_number token h one)
word_expected variant.Assign token h one = absurd (no_word_assign token h one)
word_expected variant.Dots token h one = absurd (no_word_dots token h one)
word_expected variant.Fields token h one = absurd h
word_expected variant.Mark token h one = absurd h

pub dots_expected : (expected : Expected) → IsExpected expected dots → expected ≡ variant.Dots
dots_expected variant.Dots h = refl
dots_expected _ h = absurd h

pub may_be_word : (token : Token) (expected : Expected) → MayBeName token expected → IsWord token
may_be_word (name text) expected h = tt
may_be_word rec_word expected h = tt
may_be_word _ expected h = absurd h

-- a word that may be no name is `rec`
pub rec_only_else : (token : Token) (expected : Expected) → IsWord token → ¬ MayBeName token expected → token ≡ rec_word
rec_only_else (name text) expected one other = absurd (other tt)
rec_only_else rec_word expected one other = refl
rec_only_else _ expected one other = absurd one

pub last_same : (before others : List Token) (last other : Token) → before ++ last ∷ [] ≡ others ++ other ∷ [] → last ≡ other
last_same [] [] last other e = cc
last_same [] (token ∷ others) last other e = absurd (omega (arith, ap length e, length-append others (other ∷ [])))
last_same (token ∷ before) [] last other e = absurd (omega (arith, ap length e, length-append before (last ∷ [])))
last_same (token ∷ before) (one ∷ others) last other e = last_same before others last other (let k = e in cc)

-- text that begins with a dot begins with `..`
pub dots_first : (text : List ℕ) (token : Token) (rest : List ℕ) → FirstToken (46 ∷ text) token rest → token ≡ dots
dots_first text token rest first = go first.spelling first.spelled first.whole
  where
    go : (spelling : List ℕ) → Spells token spelling → 46 ∷ text ≡ spelling ++ rest → token ≡ dots
    go [] h whole = absurd (spells_some token h)
    go (b ∷ more) h whole = dot_token token more (subst (λ x. Spells token (x ∷ more)) (sym (same_head whole)) h)

pub record DotsNext (tokens : List Token) : Type 0 where
  pub more : List Token
  pub whole : tokens ≡ dots ∷ more
  pub spelled : AreSpelled more

pub dots_next : (text : List ℕ) (tokens : List Token) → TokensOf (46 ∷ text) tokens → DotsNext tokens
dots_next text [] h = absurd (let k = h in cc)
dots_next text (token ∷ tokens) h = record {
  more = tokens;
  whole = ap (λ x. x ∷ tokens) (dots_first text token h.0 h.1);
  spelled = tokens_spelled h.0 tokens h.2;
}
