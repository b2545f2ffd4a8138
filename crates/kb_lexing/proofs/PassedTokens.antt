-- The tokens at the front of a text, also with another text behind them.
use Rattle.std.proofs.Common.{◌≡◌, ◌≢◌, ℕ, suc, ◌<◌, ◌≤◌, ◌⊎◌, inl, inr, false, List, [], ◌∷◌, ◌++◌, length, refl, sym, ap, ◌∙◌, subst, arith, length-append, append_assoc}
use Rattle.std.specs.Prelude.{◌==◌}
use Rattle.std.proofs.lemmas.Bool.{cases_eq}
use Rattle.std.proofs.lemmas.Bool.Decides.{nat_tests}
use Rattle.kb_lexing.specs.Token.{Token, dots}
use Rattle.kb_lexing.specs.Spelling.{IsNameByte, Spells, FirstToken, TokensOf, is_blank, after_gap}
use Rattle.kb_lexing.specs.Lexemes.{GoesOnAt}
use Rattle.kb_lexing.specs.Possible.{AreSpelled, Passes}
use Rattle.kb_lexing.proofs.FirstTokens.{kind_of, spells_some, same_head}
use Rattle.kb_lexing.proofs.Begun.{dot_only}
use Rattle.kb_lexing.proofs.OneToken.{one_token, first_some, read_spelling}
use Rattle.kb_lexing.proofs.Lexings.{gap_front}
use Rattle.kb_lexing.proofs.FrontTokens.{first_shorter}
use Rattle.kb_lexing.proofs.Longer.{NoMore, kept_first, shared_byte, shared_two, unshared}

-- ---- lists of tokens that are passed

pub passes_append : (text : List ℕ) (passed more : List Token) (rest back : List ℕ) → Passes text passed rest → Passes rest more back → Passes text (passed ++ more) back
passes_append text [] more rest back h k = subst (λ x. Passes x more back) h k
passes_append text (token ∷ passed) more rest back h k = (h.0, h.1, passes_append h.0 passed more rest back h.2 k)

pub passes_then : (text : List ℕ) (passed tokens : List Token) (rest : List ℕ) → Passes text passed rest → TokensOf rest tokens → TokensOf text (passed ++ tokens)
passes_then text [] tokens rest h k = subst (λ x. TokensOf x tokens) h k
passes_then text (token ∷ passed) tokens rest h k = (h.0, h.1, passes_then h.0 passed tokens rest h.2 k)

-- a text whose first tokens are these has others behind them
pub tokens_behind : (text : List ℕ) (passed tokens : List Token) (rest : List ℕ) → Passes text passed rest → TokensOf text tokens → (more : List Token) × (tokens ≡ passed ++ more) × TokensOf rest more
tokens_behind text [] tokens rest h k = (tokens, refl, subst (λ x. TokensOf x tokens) (sym h) k)
tokens_behind text (token ∷ passed) [] rest h k = absurd (first_some (after_gap text) token h.0 h.1 k)
tokens_behind text (token ∷ passed) (other ∷ tokens) rest h k =
    let same = one_token (after_gap text) token other h.0 k.0 h.1 k.1 in
    let more = tokens_behind h.0 passed tokens rest h.2 (subst (λ x. TokensOf x tokens) (sym same.rest_same) k.2) in
    (more.0, ap (λ x. x ∷ tokens) (sym same.token_same) ∙ ap (λ x. token ∷ x) more.1, more.2)

pub tokens_spelled : (text : List ℕ) (tokens : List Token) → TokensOf text tokens → AreSpelled tokens
tokens_spelled text [] h = tt
tokens_spelled text (token ∷ tokens) h = ((h.1.spelling, h.1.spelled), tokens_spelled h.0 tokens h.2)

passes_shorter : (text : List ℕ) (passed : List Token) (rest : List ℕ) → Passes text passed rest → length rest ≤ length text
passes_shorter text [] rest h = omega (arith, ap length h)
passes_shorter text (token ∷ passed) rest h = omega (arith, first_shorter text token h.0 h.1, passes_shorter h.0 passed rest h.2)

-- ---- bytes that begin no gap

pub no_gap_at : (b : ℕ) (bytes : List ℕ) → IsNameByte b ⊎ (b ≡ 46) → after_gap (b ∷ bytes) ≡ b ∷ bytes
no_gap_at b bytes at =
    let blank : is_blank b ≡ false = grind (arith, nat_tests) in
    let hash : (b == 35) ≡ false = grind (arith, nat_tests) in
    rw (blank, hash)

pub gap_byte : (text : List ℕ) (b : ℕ) (front : List ℕ) → (gap_front text).front ≡ b ∷ front → IsNameByte b ⊎ (b ≡ 46) → ⊥
gap_byte text b front e at =
    let whole : text ≡ b ∷ (front ++ after_gap text) = (gap_front text).whole ∙ ap (λ x. x ++ after_gap text) e in
    let stays : after_gap text ≡ b ∷ (front ++ after_gap text) = ap after_gap whole ∙ no_gap_at b (front ++ after_gap text) at in
    omega (arith, ap length stays, length-append front (after_gap text))

-- a gap and a newline go on with no token
pub gap_apart : (token : Token) (text rest other : List ℕ) → NoMore token rest ((gap_front text).front ++ 10 ∷ other)
gap_apart token text rest other = go (gap_front text).front refl
  where
    go : (front : List ℕ) → (gap_front text).front ≡ front → NoMore token rest (front ++ 10 ∷ other)
    go [] e = unshared token rest (10 ∷ other) (λ h. omega arith) (λ h. omega arith)
    go (b ∷ front) e =
        unshared token rest (b ∷ (front ++ 10 ∷ other)) (λ h. gap_byte text b front e (at h)) (λ h. gap_byte text b front e (inl (inr h)))
      where
        at : GoesOnAt (b ∷ (front ++ 10 ∷ other)) → IsNameByte b ⊎ (b ≡ 46)
        at (inl h) = inl h
        at (inr h) = inr h.0

-- ---- a token that begins with a dot

pub dot_token : (token : Token) (more : List ℕ) → Spells token (46 ∷ more) → token ≡ dots
dot_token token more h = sym (read_spelling token (46 ∷ more) h)

dot_longer : (token : Token) (text rest : List ℕ) → FirstToken (46 ∷ text) token rest → suc (length rest) ≤ length text
dot_longer token text rest first = go first.spelling first.spelled first.whole
  where
    go : (spelling : List ℕ) → Spells token spelling → 46 ∷ text ≡ spelling ++ rest → suc (length rest) ≤ length text
    go [] h whole = absurd (spells_some token h)
    go (b ∷ more) h whole =
        let one = dot_only b more (sym (same_head whole)) (kind_of token b more h) in
        omega (arith, ap length whole, length-append more rest, ap length one)

-- ---- the front of a text that holds the tokens

-- tokens keep where they stand, with other bytes behind the front
pub passes_apart : (text : List ℕ) (passed : List Token) (rest front follow : List ℕ) → Passes text passed rest → text ≡ front ++ rest
    → ((token : Token) → NoMore token rest follow) → (token : Token) → NoMore token text (front ++ follow)
passes_apart text [] rest [] follow h e apart token = subst (λ x. NoMore token x follow) h (apart token)
passes_apart text [] rest (b ∷ front) follow h e apart token = absurd (omega (arith, ap length e, ap length h, length-append front rest))
passes_apart text (first ∷ passed) rest [] follow h e apart token =
    absurd (omega (arith, ap length e, first_shorter text first h.0 h.1, passes_shorter h.0 passed rest h.2))
passes_apart text (first ∷ passed) rest (b ∷ front) follow h e apart token = go (cases_eq b 46)
  where
    more : (front : List ℕ) → text ≡ b ∷ (front ++ rest) → b ≡ 46 → NoMore token text (b ∷ (front ++ follow))
    more [] e at =
        let whole : text ≡ 46 ∷ rest = e ∙ ap (λ x. x ∷ rest) at in
        let dot : FirstToken (46 ∷ rest) first h.0 = subst (λ x. FirstToken (after_gap x) first h.0) whole h.1 in
        absurd (omega (arith, dot_longer first rest h.0 dot, passes_shorter h.0 passed rest h.2))
    more (c ∷ front) e at = subst (λ x. NoMore token x (b ∷ c ∷ (front ++ follow))) (sym e) (shared_two token b c (front ++ rest) (front ++ follow))

    go : (b ≡ 46) ⊎ (b ≢ 46) → NoMore token text (b ∷ (front ++ follow))
    go (inl at) = more front e at
    go (inr other) = subst (λ x. NoMore token x (b ∷ (front ++ follow))) (sym e) (shared_byte token b (front ++ rest) (front ++ follow) other)

pub record PassedFront (text : List ℕ) (passed : List Token) (rest : List ℕ) : Type 0 where
  pub front : List ℕ
  pub whole : text ≡ front ++ rest
  pub keeps : (follow : List ℕ) → ((token : Token) → NoMore token rest follow) → Passes (front ++ follow) passed follow

-- a gap, a spelling and what follows
pub gap_then : (text spelling rest follow : List ℕ) → 0 < length spelling → after_gap text ≡ spelling ++ rest
    → after_gap ((gap_front text).front ++ (spelling ++ follow)) ≡ spelling ++ follow
gap_then text [] rest follow some e = absurd (omega arith)
gap_then text (b ∷ more) rest follow some e = (gap_front text).stays b (more ++ rest) (more ++ follow) e

pub spelling_some : (token : Token) (spelling : List ℕ) → Spells token spelling → 0 < length spelling
spelling_some token [] h = absurd (spells_some token h)
spelling_some token (b ∷ more) h = omega arith

pub passed_front : (text : List ℕ) (passed : List Token) (rest : List ℕ) → Passes text passed rest → PassedFront text passed rest
passed_front text [] rest h = record { front = []; whole = sym h; keeps = λ follow apart. refl }
passed_front text (token ∷ passed) rest h =
    let behind : List ℕ = h.0 in
    let first : FirstToken (after_gap text) token behind = h.1 in
    let more : PassedFront behind passed rest = passed_front behind passed rest h.2 in
    let gap : List ℕ = (gap_front text).front in
    record {
      front = gap ++ (first.spelling ++ more.front);
      whole = (gap_front text).whole ∙ ap (λ x. gap ++ x) (first.whole ∙ ap (λ x. first.spelling ++ x) more.whole ∙ sym (append_assoc first.spelling more.front rest))
          ∙ sym (append_assoc gap (first.spelling ++ more.front) rest);
      keeps = λ follow apart.
          let split : (gap ++ (first.spelling ++ more.front)) ++ follow ≡ gap ++ (first.spelling ++ (more.front ++ follow)) =
          append_assoc gap (first.spelling ++ more.front) follow ∙ ap (λ x. gap ++ x) (append_assoc first.spelling more.front follow) in
          let stays = ap after_gap split ∙ gap_then text first.spelling behind (more.front ++ follow) (spelling_some token first.spelling first.spelled) first.whole in
          let kept = kept_first (after_gap text) token behind (more.front ++ follow) first (passes_apart behind passed rest more.front follow h.2 more.whole apart token) in
          (more.front ++ follow, subst (λ x. FirstToken x token (more.front ++ follow)) (sym stays) kept, more.keeps follow apart);
    }
