-- What stands where a mark was passed.
use Rattle.std.proofs.Common.{◌≡◌, ◌<◌, List, [], ◌∷◌, length, Bool, true, false, if◌then◌else◌, Some, None, refl, ap, arith}
use Rattle.kb_lexing.specs.Token.{Token, assign, open_round, close_round, open_square, close_square, comma, semicolon, star, caret, dots, rec_word}
use Rattle.kb_record.specs.Reading.{is_mark, behind}
use Rattle.kb_record.specs.declared.cursor.Mark.{Mark}
use Rattle.kb_record.specs.declared.cursor.Mark.TheVariants.{Assign, OpenRound, CloseRound, OpenSquare, CloseSquare, Comma, Semicolon, Star, Caret, Dots, Rec}

abbrev pub mark_token : Mark → Token
mark_token Assign = assign
mark_token OpenRound = open_round
mark_token CloseRound = close_round
mark_token OpenSquare = open_square
mark_token CloseSquare = close_square
mark_token Comma = comma
mark_token Semicolon = semicolon
mark_token Star = star
mark_token Caret = caret
mark_token Dots = dots
mark_token Rec = rec_word

pub is_mark-true : (mark : Mark) (token : Token) → is_mark mark token ≡ true → token ≡ mark_token mark
is_mark-true Assign assign e = refl
is_mark-true OpenRound open_round e = refl
is_mark-true CloseRound close_round e = refl
is_mark-true OpenSquare open_square e = refl
is_mark-true CloseSquare close_square e = refl
is_mark-true Comma comma e = refl
is_mark-true Semicolon semicolon e = refl
is_mark-true Star star e = refl
is_mark-true Caret caret e = refl
is_mark-true Dots dots e = refl
is_mark-true Rec rec_word e = refl
is_mark-true _ _ e = cc

found : (mark : Mark) (token : Token) (tokens rest : List Token) (b : Bool) → is_mark mark token ≡ b → (if b then Some tokens else None) ≡ Some rest → token ∷ tokens ≡ mark_token mark ∷ rest
found mark token tokens rest true e f = let same = is_mark-true mark token e in cc
found mark token tokens rest false e f = cc

-- the mark stands before what is behind it
pub behind-is : (mark : Mark) (tokens rest : List Token) → behind mark tokens ≡ Some rest → tokens ≡ mark_token mark ∷ rest
behind-is mark [] rest e = cc
behind-is mark (token ∷ tokens) rest e = found mark token tokens rest (is_mark mark token) refl e

pub behind-shorter : (mark : Mark) (tokens rest : List Token) → behind mark tokens ≡ Some rest → length rest < length tokens
behind-shorter mark tokens rest e = let whole = ap length (behind-is mark tokens rest e) in omega arith
