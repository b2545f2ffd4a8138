-- The last token of those that were passed, found by going over them again.
use Rattle.std.proofs.Common.{◌≡◌, ℕ, ◌+◌, ◌-◌, ◌<◌, List, [], ◌∷◌, ◌++◌, length, Option, Some, None, refl, sym, ap, ◌∙◌, subst, arith, append_assoc, length-append}
use Rattle.kb_lexing.specs.Token.{Token}
use Rattle.kb_lexing.specs.Spelling.{FirstToken, after_gap}
use Rattle.kb_lexing.specs.Lexemes.{IsFirstLexeme, token_view}
use Rattle.kb_lexing.specs.Possible.{Passes, PassedAre, rest_behind}
use Rattle.kb_lexing.specs.declared.token.Lexeme.{Lexeme}
use Rattle.kb_lexing.proofs.FrontTokens.{tokens_of, tokens_next}
use Rattle.kb_record.specs.Reading.{StandsBehind}

-- so many steps are left of those over so many tokens
pub record Walked (bytes : List ℕ) (count steps : ℕ) (last : Option Lexeme) (rest : List ℕ) : Type 0 where
  pub before : List Token
  pub passes : Passes bytes before rest
  pub are : PassedAre bytes before last
  pub behind : rest ≡ rest_behind bytes last
  pub split : tokens_of bytes ≡ before ++ tokens_of rest
  pub walked : length before + steps ≡ count

pub walk_starts : (bytes : List ℕ) (count : ℕ) → Walked bytes count count None bytes
walk_starts bytes count = record { before = []; passes = refl; are = refl; behind = refl; split = refl; walked = omega arith }

pub passes_more : (bytes : List ℕ) (before : List Token) (rest : List ℕ) (token : Token) (behind : List ℕ) → Passes bytes before rest → FirstToken (after_gap rest) token behind → Passes bytes (before ++ token ∷ []) behind
passes_more bytes [] rest token behind h first = let P : List ℕ → Type 0 = λ x. FirstToken (after_gap x) token behind in (behind, subst P h first, refl)
passes_more bytes (t ∷ before) rest token behind h first = (h.0, h.1, passes_more h.0 before rest token behind h.2 first)

pub walk_goes : (bytes : List ℕ) (count steps : ℕ) (last : Option Lexeme) (rest : List ℕ) (lexeme : Lexeme) → Walked bytes count steps last rest → 0 < steps → IsFirstLexeme rest (Some lexeme) → lexeme.text.now ≡ after_gap rest
    → Walked bytes count (steps - 1) (Some lexeme) lexeme.rest.now
walk_goes bytes count steps last rest lexeme h some first text =
    let token = token_view lexeme.token in
    let P : List ℕ → Type 0 = λ x. FirstToken x token lexeme.rest.now in
    record {
      before = h.before ++ token ∷ [];
      passes = passes_more bytes h.before rest token lexeme.rest.now h.passes first;
      are = (h.before, rest, refl, h.passes, text, subst P (sym text) first);
      behind = refl;
      split = h.split ∙ ap (λ ts. h.before ++ ts) (sym (tokens_next rest (Some lexeme) first)) ∙ sym (append_assoc h.before (token ∷ []) (tokens_of lexeme.rest.now));
      walked = (let e = h.walked in omega (arith, length-append h.before (token ∷ [])));
    }

pub record SameSplit (one other more others : List Token) : Type 0 where
  pub fronts : one ≡ other
  pub backs : more ≡ others

-- lists that are split at one place
pub same_split : (one other more others : List Token) → length one ≡ length other → one ++ more ≡ other ++ others → SameSplit one other more others
same_split [] [] more others e f = record { fronts = refl; backs = f }
same_split [] (u ∷ other) more others e f = let never : ⊥ = omega arith in absurd never
same_split (t ∷ one) [] more others e f = let never : ⊥ = omega arith in absurd never
same_split (t ∷ one) (u ∷ other) more others e f =
    let tail : one ++ more ≡ other ++ others = cc in
    let head : t ≡ u = cc in
    let h = same_split one other more others (omega arith) tail in
    record { fronts = let same = h.fronts in cc; backs = h.backs }

pub walk_ends : (bytes : List ℕ) (count steps : ℕ) (last : Option Lexeme) (rest : List ℕ) → Walked bytes count steps last rest → steps ≡ 0 → StandsBehind bytes count last
walk_ends bytes count steps last rest h none passed others e f =
    let walked = h.walked in
    let lengths : length h.before ≡ length passed = omega arith in
    let same = same_split h.before passed (tokens_of rest) others lengths (sym h.split ∙ e) in
    let P : List Token → Type 0 = λ ts. PassedAre bytes ts last in
    (subst P same.fronts h.are, ap tokens_of (sym h.behind) ∙ same.backs)

-- the tokens end only where no step is left
pub walk_stops : (bytes : List ℕ) (count steps : ℕ) (last : Option Lexeme) (rest : List ℕ) → Walked bytes count steps last rest → 0 < steps → IsFirstLexeme rest None → StandsBehind bytes count last
walk_stops bytes count steps last rest h some none passed others e f =
    let walked = h.walked in
    let empty : length (tokens_of rest) ≡ 0 = sym (ap length (tokens_next rest None none)) in
    let never : ⊥ = omega (arith, ap length h.split, length-append h.before (tokens_of rest), ap length e, length-append passed others) in
    absurd never
