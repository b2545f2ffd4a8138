-- Spellings of tokens in front of bytes that do not go on them, and texts with their tokens.
use Rattle.std.proofs.Common.{◌≡◌, ◌≢◌, ℕ, zero, suc, ◌*◌, ◌≤◌, ◌⊎◌, inl, inr, Bool, true, false, ◌||◌, ℤ, pos, List, [], ◌∷◌, ◌++◌, length, replicate, refl, sym, ap, ◌∙◌, subst, arith, length-append, append_assoc}
use Rattle.std.specs.Prelude.{codes, ◌==◌}
use Rattle.std.specs.Fmt.{signed_decimal}
use Rattle.std.specs.List.{AllByRecursion}
use Rattle.std.proofs.lemmas.Bool.Decides.{nat_tests}
use Rattle.kb_lexing.specs.Token.{Token, name, number, string, assign, open_round, close_round, open_square, close_square, comma, semicolon, star, caret, dots, rec_word}
use Rattle.kb_lexing.specs.Spelling.{is_blank, after_gap, IsDigit, IsNameByte, BeginsWithNameByte, GoesOnAsName, IsName, AreDigits, IsNumber, IsStringByte, Spells, TokensOf, FirstToken}
use Rattle.kb_layout.specs.Layout.{IsShortNumber, indent}
use Rattle.kb_lexing.proofs.FirstTokens.{IsSingle, Kind, word, digits, negative, quoted, assigns, ranges, single, same_head, same_tail, first_from, word_only, digits_only, negative_only, quoted_only}
use Rattle.kb_layout.proofs.Numerals.{number_spelled}

-- ---- what ends a token

-- newline, space, `)` `*` `,` `;` `]` `^`
abbrev pub is_end : ℕ → Bool
is_end b = b == 10 || b == 32 || b == 41 || b == 42 || b == 44 || b == 59 || b == 93 || b == 94

-- the first byte goes on no name and no number
abbrev pub EndsToken : List ℕ → Type 0
EndsToken [] = ⊥
EndsToken (b ∷ bytes) = is_end b ≡ true

abbrev EndsName : List ℕ → Type 0
EndsName [] = Unit {0}
EndsName (b ∷ bytes) = (IsNameByte b → ⊥) × (b ≢ 46)

abbrev EndsDigits : List ℕ → Type 0
EndsDigits [] = Unit {0}
EndsDigits (b ∷ bytes) = IsDigit b → ⊥

end_byte : (b : ℕ) → is_end b ≡ true → (b ≡ 10) ⊎ ((b ≡ 32) ⊎ ((b ≡ 41) ⊎ ((b ≡ 42) ⊎ ((b ≡ 44) ⊎ ((b ≡ 59) ⊎ ((b ≡ 93) ⊎ (b ≡ 94)))))))
end_byte b e = grind (arith, nat_tests)

ends_name : (bytes : List ℕ) → EndsToken bytes → EndsName bytes
ends_name [] e = tt
ends_name (b ∷ bytes) e = let at = end_byte b e in (λ h. omega arith, λ h. omega arith)

ends_digits : (bytes : List ℕ) → EndsToken bytes → EndsDigits bytes
ends_digits [] e = tt
ends_digits (b ∷ bytes) e = let at = end_byte b e in λ h. omega arith

-- ---- no other token goes on behind a spelling

name_stops : (more rest other back : List ℕ) → EndsName rest → GoesOnAsName other → more ++ rest ≡ other ++ back → length other ≤ length more
name_stops more rest [] back ends goes e = omega arith
name_stops (b ∷ more) rest (c ∷ other) back ends goes e = omega (arith, name_stops more rest other back ends goes.1 (same_tail e))
name_stops [] [] (c ∷ other) back ends goes e = absurd cc
name_stops [] (b ∷ rest) (c ∷ other) back ends goes e = absurd (at goes.0)
  where
    at : IsNameByte c ⊎ ((c ≡ 46) × BeginsWithNameByte other) → ⊥
    at (inl h) = ends.0 (subst (λ x. IsNameByte x) (sym (same_head e)) h)
    at (inr h) = ends.1 (same_head e ∙ h.0)

digits_stop : (more rest other back : List ℕ) → EndsDigits rest → AllByRecursion IsDigit other → more ++ rest ≡ other ++ back → length other ≤ length more
digits_stop more rest [] back ends each e = omega arith
digits_stop (b ∷ more) rest (c ∷ other) back ends each e = omega (arith, digits_stop more rest other back ends each.1 (same_tail e))
digits_stop [] [] (c ∷ other) back ends each e = absurd cc
digits_stop [] (b ∷ rest) (c ∷ other) back ends each e = absurd (ends (subst (λ x. IsDigit x) (sym (same_head e)) each.0))

string_stops : (text rest other back : List ℕ) → AllByRecursion IsStringByte text → AllByRecursion IsStringByte other → text ++ 34 ∷ rest ≡ other ++ 34 ∷ back → length other ≤ length text
string_stops text rest [] back each all e = omega arith
string_stops [] rest (d ∷ other) back each all e = absurd (all.0.2 (sym (same_head e)))
string_stops (c ∷ text) rest (d ∷ other) back each all e = omega (arith, string_stops text rest other back each.1 all.1 (same_tail e))

single_stops : (b : ℕ) (other : List ℕ) → IsSingle b → Kind b other → length other ≤ 0
single_stops b other h (word at goes) = absurd (omega arith)
single_stops b other h (digits at each few) = absurd (omega arith)
single_stops b other h (negative at each some few) = absurd (omega arith)
single_stops b other h (quoted text at whole each) = absurd (omega arith)
single_stops b other h (assigns at whole) = absurd (omega arith)
single_stops b other h (ranges at whole) = absurd (omega arith)
single_stops b other h (single at whole) = omega (arith, ap length whole)

double_stops : (b : ℕ) (other : List ℕ) → (b ≡ 58) ⊎ (b ≡ 46) → Kind b other → length other ≤ 1
double_stops b other h (word at goes) = absurd (omega arith)
double_stops b other h (digits at each few) = absurd (omega arith)
double_stops b other h (negative at each some few) = absurd (omega arith)
double_stops b other h (quoted text at whole each) = absurd (omega arith)
double_stops b other h (assigns at whole) = omega (arith, ap length whole)
double_stops b other h (ranges at whole) = omega (arith, ap length whole)
double_stops b other h (single at whole) = absurd (omega arith)

-- ---- one token before others

no_gap : (b : ℕ) (rest : List ℕ) → is_blank b ≡ false → (b == 35) ≡ false → after_gap (b ∷ rest) ≡ b ∷ rest
no_gap b rest blank hash = rw (blank, hash)

token_before : (token : Token) (b : ℕ) (more rest : List ℕ) (tokens : List Token) → Spells token (b ∷ more) → is_blank b ≡ false → (b == 35) ≡ false
    → ((other back : List ℕ) → Kind b other → more ++ rest ≡ other ++ back → length other ≤ length more) → TokensOf rest tokens → TokensOf ((b ∷ more) ++ rest) (token ∷ tokens)
token_before token b more rest tokens spelled blank hash most h = (
  rest,
  subst (λ x. FirstToken x token rest) (sym (no_gap b (more ++ rest) blank hash)) (first_from token b more (more ++ rest) rest spelled refl most),
  h,
)

name_before : (text rest : List ℕ) (tokens : List Token) → IsName text → EndsName rest → TokensOf rest tokens → TokensOf (text ++ rest) (name text ∷ tokens)
name_before [] rest tokens named ends h = absurd named
name_before (b ∷ more) rest tokens named ends h =
    let at = named.0 in
    token_before (name (b ∷ more)) b more rest tokens (refl, named) (grind (arith, nat_tests)) (grind (arith, nat_tests))
    (λ other back kind e. name_stops more rest other back ends (word_only b other at kind) e) h

digits_before : (ds : List ℕ) (n : ℕ) (rest : List ℕ) (tokens : List Token) → AreDigits ds n → EndsDigits rest → TokensOf rest tokens → TokensOf (ds ++ rest) (number (pos n) ∷ tokens)
digits_before [] n rest tokens are ends h = absurd (omega (arith, are.some))
digits_before (b ∷ more) n rest tokens are ends h =
    let at = are.each.0 in
    token_before (number (pos n)) b more rest tokens (inl (n, are, refl)) (grind (arith, nat_tests)) (grind (arith, nat_tests))
    (λ other back kind e. digits_stop more rest other back ends (digits_only b other at kind).0.1 e) h

number_before : (bytes : List ℕ) (z : ℤ) (rest : List ℕ) (tokens : List Token) → IsNumber bytes z → EndsDigits rest → TokensOf rest tokens → TokensOf (bytes ++ rest) (number z ∷ tokens)
number_before bytes z rest tokens (inl given) ends h =
    subst (λ k. TokensOf (bytes ++ rest) (number k ∷ tokens)) (sym given.2) (digits_before bytes given.0 rest tokens given.1 ends h)
number_before bytes z rest tokens (inr given) ends h =
    subst (λ bs. TokensOf (bs ++ rest) (number z ∷ tokens)) (sym given.3)
    (token_before (number z) 45 given.1 rest tokens (inr (given.0, given.1, given.2, refl, given.4)) refl refl
    (λ other back kind e. digits_stop given.1 rest other back ends (negative_only 45 other refl kind).0.0 e) h)

string_before : (text rest : List ℕ) (tokens : List Token) → AllByRecursion IsStringByte text → TokensOf rest tokens → TokensOf (34 ∷ ((text ++ 34 ∷ []) ++ rest)) (string text ∷ tokens)
string_before text rest tokens each h =
    token_before (string text) 34 (text ++ 34 ∷ []) rest tokens (refl, each) refl refl most h
  where
    most : (other back : List ℕ) → Kind 34 other → (text ++ 34 ∷ []) ++ rest ≡ other ++ back → length other ≤ length (text ++ 34 ∷ [])
    most other back kind e =
        let only = quoted_only 34 other refl kind in
        let split : text ++ 34 ∷ rest ≡ only.0 ++ 34 ∷ back = sym (append_assoc text (34 ∷ []) rest) ∙ e ∙ ap (λ t. t ++ back) only.1 ∙ append_assoc only.0 (34 ∷ []) back in
        omega (arith, string_stops text rest only.0 back each only.2 split, ap length only.1, length-append only.0 (34 ∷ []), length-append text (34 ∷ []))

single_before : (token : Token) (b : ℕ) (rest : List ℕ) (tokens : List Token) → Spells token (b ∷ []) → IsSingle b → TokensOf rest tokens → TokensOf (b ∷ rest) (token ∷ tokens)
single_before token b rest tokens spelled at h =
    token_before token b [] rest tokens spelled (grind (arith, nat_tests)) (grind (arith, nat_tests)) (λ other back kind e. single_stops b other at kind) h

blank_before : (b : ℕ) (rest : List ℕ) (tokens : List Token) → is_blank b ≡ true → TokensOf rest tokens → TokensOf (b ∷ rest) tokens
blank_before b rest [] blank h = rw blank h
blank_before b rest (token ∷ tokens) blank h = rw blank h

-- ---- texts with their tokens

-- Before what has tokens the text adds these, if no name or number goes on there.
pub record Lexes (text : List ℕ) (tokens : List Token) : Type 0 where
  pub reads : (rest : List ℕ) (others : List Token) → EndsToken rest → TokensOf rest others → TokensOf (text ++ rest) (tokens ++ others)

-- the same before anything
pub record Closes (text : List ℕ) (tokens : List Token) : Type 0 where
  pub reads : (rest : List ℕ) (others : List Token) → TokensOf rest others → TokensOf (text ++ rest) (tokens ++ others)

pub nothing : Closes [] []
nothing = record { reads = λ rest others h. h }

pub weaker : (text : List ℕ) (tokens : List Token) → Closes text tokens → Lexes text tokens
weaker text tokens h = record { reads = λ rest others ends k. h.reads rest others k }

regroup : (a b rest : List ℕ) (x y others : List Token) → TokensOf (a ++ (b ++ rest)) (x ++ (y ++ others)) → TokensOf ((a ++ b) ++ rest) ((x ++ y) ++ others)
regroup a b rest x y others h = rw (append_assoc a b rest, append_assoc x y others) h

pub closed_closed : (a b : List ℕ) (x y : List Token) → Closes a x → Closes b y → Closes (a ++ b) (x ++ y)
closed_closed a b x y h k = record { reads = λ rest others r. regroup a b rest x y others (h.reads (b ++ rest) (y ++ others) (k.reads rest others r)) }

pub closed_then : (a b : List ℕ) (x y : List Token) → Closes a x → Lexes b y → Lexes (a ++ b) (x ++ y)
closed_then a b x y h k = record { reads = λ rest others ends r. regroup a b rest x y others (h.reads (b ++ rest) (y ++ others) (k.reads rest others ends r)) }

pub then_closed : (a b : List ℕ) (x y : List Token) → Lexes a x → ((rest : List ℕ) → EndsToken (b ++ rest)) → Closes b y → Closes (a ++ b) (x ++ y)
then_closed a b x y h ends k = record { reads = λ rest others r. regroup a b rest x y others (h.reads (b ++ rest) (y ++ others) (ends rest) (k.reads rest others r)) }

pub then_more : (a b : List ℕ) (x y : List Token) → Lexes a x → ((rest : List ℕ) → EndsToken rest → EndsToken (b ++ rest)) → Lexes b y → Lexes (a ++ b) (x ++ y)
then_more a b x y h keeps k = record { reads = λ rest others ends r. regroup a b rest x y others (h.reads (b ++ rest) (y ++ others) (keeps rest ends) (k.reads rest others ends r)) }

pub name_text : (text : List ℕ) → IsName text → Lexes text (name text ∷ [])
name_text text named = record { reads = λ rest others ends h. name_before text rest others named (ends_name rest ends) h }

pub number_text : (z : ℤ) → IsShortNumber z → Lexes (signed_decimal z) (number z ∷ [])
number_text z short = record { reads = λ rest others ends h. number_before (signed_decimal z) z rest others (number_spelled z short) (ends_digits rest ends) h }

pub string_text : (text : List ℕ) → AllByRecursion IsStringByte text → Closes (codes "\"" ++ text ++ codes "\"") (string text ∷ [])
string_text text each = record { reads = λ rest others h. string_before text rest others each h }

pub open_round_text : Closes (codes "(") (open_round ∷ [])
open_round_text = record { reads = λ rest others h. single_before open_round 40 rest others refl (inl refl) h }

pub close_round_text : Closes (codes ")") (close_round ∷ [])
close_round_text = record { reads = λ rest others h. single_before close_round 41 rest others refl (inr (inl refl)) h }

pub open_square_text : Closes (codes "[") (open_square ∷ [])
open_square_text = record { reads = λ rest others h. single_before open_square 91 rest others refl (inr (inr (inl refl))) h }

pub close_square_text : Closes (codes "]") (close_square ∷ [])
close_square_text = record { reads = λ rest others h. single_before close_square 93 rest others refl (inr (inr (inr (inl refl)))) h }

pub comma_text : Closes (codes ",") (comma ∷ [])
comma_text = record { reads = λ rest others h. single_before comma 44 rest others refl (inr (inr (inr (inr (inl refl))))) h }

pub semicolon_text : Closes (codes ";") (semicolon ∷ [])
semicolon_text = record { reads = λ rest others h. single_before semicolon 59 rest others refl (inr (inr (inr (inr (inr (inl refl)))))) h }

pub star_text : Closes (codes "*") (star ∷ [])
star_text = record { reads = λ rest others h. single_before star 42 rest others refl (inr (inr (inr (inr (inr (inr (inl refl))))))) h }

pub caret_text : Closes (codes "^") (caret ∷ [])
caret_text = record { reads = λ rest others h. single_before caret 94 rest others refl (inr (inr (inr (inr (inr (inr (inr refl))))))) h }

pub space_text : Closes (codes " ") []
space_text = record { reads = λ rest others h. blank_before 32 rest others refl h }

pub newline_text : Closes (codes "\n") []
newline_text = record { reads = λ rest others h. blank_before 10 rest others refl h }

bare_assign_text : Closes (codes ":=") (assign ∷ [])
bare_assign_text = record { reads = λ rest others h. token_before assign 58 (61 ∷ []) rest others refl refl refl (λ other back kind e. double_stops 58 other (inl refl) kind) h }

-- `:=` between blanks
pub assign_text : Closes (codes " := ") (assign ∷ [])
assign_text = closed_closed (codes " ") (codes ":= ") [] (assign ∷ []) space_text (closed_closed (codes ":=") (codes " ") (assign ∷ []) [] bare_assign_text space_text)

-- `rec` and its bracket
pub rec_text : Closes (codes "rec(") (rec_word ∷ open_round ∷ [])
rec_text = record {
  reads = λ rest others h.
      token_before rec_word 114 (codes "ec") (40 ∷ rest) (open_round ∷ others) refl refl refl
      (λ other back kind e. name_stops (codes "ec") (40 ∷ rest) other back (λ h. omega arith, λ h. omega arith) (word_only 114 other (inr (inl (omega arith))) kind) e)
      (open_round_text.reads rest others h);
}

-- a number and the dots behind it
pub range_text : (z : ℤ) → IsShortNumber z → Closes (signed_decimal z ++ codes "..") (number z ∷ dots ∷ [])
range_text z short = record {
  reads = λ rest others h.
      rw (append_assoc (signed_decimal z) (codes "..") rest)
      (number_before (signed_decimal z) z (codes ".." ++ rest) (dots ∷ others) (number_spelled z short) (λ d. omega arith)
      (token_before dots 46 (46 ∷ []) rest others refl refl refl (λ other back kind e. double_stops 46 other (inr refl) kind) h));
}

blanks : (n : ℕ) → Closes (replicate n 32) []
blanks zero = nothing
blanks (suc n) = closed_closed (codes " ") (replicate n 32) [] [] space_text (blanks n)

pub indent_text : (level : ℕ) → Closes (indent level) []
indent_text level = blanks (2 * level)
