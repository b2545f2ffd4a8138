-- Tokens that can be spelled have a text.
use Rattle.std.proofs.Common.{◌≡◌, ℕ, false, List, [], ◌∷◌, ◌++◌, refl, sym, subst, arith}
use Rattle.std.specs.Prelude.{◌==◌}
use Rattle.std.proofs.lemmas.Bool.Decides.{nat_tests}
use Rattle.kb_lexing.specs.Token.{Token}
use Rattle.kb_lexing.specs.Spelling.{Spells, FirstToken, TokensOf, is_blank, after_gap}
use Rattle.kb_lexing.specs.Possible.{AreSpelled}
use Rattle.kb_lexing.proofs.FirstTokens.{Kind, word, digits, negative, quoted, assigns, ranges, single, kind_of, spells_some}
use Rattle.kb_lexing.proofs.Longer.{ended_first}

-- no spelling begins with a byte of a gap
no_blank : (b : ℕ) (more : List ℕ) → Kind b more → (is_blank b ≡ false) × ((b == 35) ≡ false)
no_blank b more (word at goes) = (grind (arith, nat_tests), grind (arith, nat_tests))
no_blank b more (digits at each few) = (grind (arith, nat_tests), grind (arith, nat_tests))
no_blank b more (negative at each some few) = (grind (arith, nat_tests), grind (arith, nat_tests))
no_blank b more (quoted text at whole each) = (grind (arith, nat_tests), grind (arith, nat_tests))
no_blank b more (assigns at whole) = (grind (arith, nat_tests), grind (arith, nat_tests))
no_blank b more (ranges at whole) = (grind (arith, nat_tests), grind (arith, nat_tests))
no_blank b more (single at whole) = (grind (arith, nat_tests), grind (arith, nat_tests))

pub no_gap_before : (token : Token) (spelling rest : List ℕ) → Spells token spelling → after_gap (spelling ++ rest) ≡ spelling ++ rest
no_gap_before token [] rest h = absurd (spells_some token h)
no_gap_before token (b ∷ more) rest h =
    let none = no_blank b more (kind_of token b more h) in
    let blank : is_blank b ≡ false = none.0 in
    let hash : (b == 35) ≡ false = none.1 in
    rw (blank, hash)

-- a text behind another gap
pub same_gap : (text other : List ℕ) (tokens : List Token) → after_gap text ≡ after_gap other → TokensOf other tokens → TokensOf text tokens
same_gap text other [] e h = subst (λ x. x ≡ []) (sym e) h
same_gap text other (token ∷ tokens) e h = (h.0, subst (λ x. FirstToken x token h.0) (sym e) h.1, h.2)

pub spelling_first : (token : Token) (spelling text : List ℕ) → Spells token spelling → FirstToken (spelling ++ 10 ∷ text) token (10 ∷ text)
spelling_first token spelling text h = ended_first token spelling (10 ∷ text) h (λ goes. omega arith) (λ digit. omega arith)

-- each token on a line
pub text_of_spelled : (tokens : List Token) → AreSpelled tokens → (text : List ℕ) × TokensOf text tokens
text_of_spelled [] h = ([], refl)
text_of_spelled (token ∷ tokens) h =
    let more = text_of_spelled tokens h.1 in
    let spelling : List ℕ = h.0.0 in
    let first = spelling_first token spelling more.0 h.0.1 in (
      spelling ++ 10 ∷ more.0,
      (
        10 ∷ more.0,
        subst (λ x. FirstToken x token (10 ∷ more.0)) (sym (no_gap_before token spelling (10 ∷ more.0) h.0.1)) first,
        same_gap (10 ∷ more.0) more.0 tokens refl more.1,
      ),
    )
