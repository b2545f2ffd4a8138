-- Tokens that complete what is begun: the name `a`, the number 0 and marks.
use Rattle.std.proofs.Common.{◌≡◌, ℕ, inl, inr, ℤ, pos, List, [], ◌∷◌, ◌++◌, length, codes, refl, sym, ap, subst, arith}
use Rattle.std.specs.List.{AllByRecursion}
use Rattle.kb_lexing.specs.Token.{Token, name, number, string, assign, open_round, close_round, open_square, close_square, comma, semicolon, star, caret, dots, rec_word}
use Rattle.kb_lexing.specs.Spelling.{IsName, AreDigits}
use Rattle.kb_lexing.specs.Possible.{IsSpelled, AreSpelled}

abbrev pub IsPlain : Token → Type 0
IsPlain (name text) = text ≡ 97 ∷ []
IsPlain (number z) = z ≡ pos 0
IsPlain (string text) = ⊥
IsPlain _ = Unit {0}

abbrev pub ArePlain : List Token → Type 0
ArePlain tokens = AllByRecursion IsPlain tokens

pub all_plain : (some others : List Token) → ArePlain some → ArePlain others → ArePlain (some ++ others)
all_plain [] others h k = k
all_plain (t ∷ some) others h k = (h.0, all_plain some others h.1 k)

-- each can be spelled
zero_spelled : AreDigits (48 ∷ []) 0
zero_spelled = record { some = omega arith; few = omega arith; each = ((omega arith, omega arith), tt); worth = refl }

a_spelled : IsName (97 ∷ [])
a_spelled = (inr (inl (omega arith, omega arith)), tt, λ e. let lengths = ap length e in cc)

is_spelled : (t : Token) → IsPlain t → IsSpelled t
is_spelled (name text) h = let P : List ℕ → Type 0 = λ x. IsSpelled (name x) in let here : IsSpelled (name (97 ∷ [])) = (97 ∷ [], (refl, a_spelled)) in subst P (sym h) here
is_spelled (number z) h = let P : ℤ → Type 0 = λ x. IsSpelled (number x) in let here : IsSpelled (number (pos 0)) = (48 ∷ [], inl (0, zero_spelled, refl)) in subst P (sym h) here
is_spelled (string text) h = absurd h
is_spelled assign h = (codes ":=", refl)
is_spelled open_round h = (codes "(", refl)
is_spelled close_round h = (codes ")", refl)
is_spelled open_square h = (codes "[", refl)
is_spelled close_square h = (codes "]", refl)
is_spelled comma h = (codes ",", refl)
is_spelled semicolon h = (codes ";", refl)
is_spelled star h = (codes "*", refl)
is_spelled caret h = (codes "^", refl)
is_spelled dots h = (codes "..", refl)
is_spelled rec_word h = (codes "rec", refl)

pub plain_spelled : (tokens : List Token) → ArePlain tokens → AreSpelled tokens
plain_spelled [] h = tt
plain_spelled (t ∷ tokens) h = (is_spelled t h.0, plain_spelled tokens h.1)
