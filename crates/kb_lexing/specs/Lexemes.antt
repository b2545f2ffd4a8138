-- The tokens of `specs/Token.antt` that the code's tokens stand for.
use Rattle.std.specs.Prelude.{◌≡◌, ℕ, ◌<◌, ◌≤◌, ◌⊎◌, Bool, ◌&&◌, not, nat_le, ◌==◌, List, [], ◌∷◌, ◌++◌, length, take, drop, Option, None, Some}
use Rattle.std.specs.List.{AllByRecursion}
use Rattle.kb_lexing.specs.Token as tree
use Rattle.kb_lexing.specs.Spelling.{IsDigit, IsNameByte, BeginsWithNameByte, FirstToken, after_gap}
use Rattle.kb_lexing.specs.declared.token.Token.{Token}
use Rattle.kb_lexing.specs.declared.token.Token.TheVariants.{Name, Number, String, Assign, OpenRound, CloseRound, OpenSquare, CloseSquare, Comma, Semicolon, Star, Caret, Dots, Rec}
use Rattle.kb_lexing.specs.declared.token.Lexeme.{Lexeme}

abbrev pub token_view : Token → tree.Token
token_view (Name text) = tree.name text.now
token_view (Number z) = tree.number z
token_view (String text) = tree.string text.now
token_view Assign = tree.assign
token_view OpenRound = tree.open_round
token_view CloseRound = tree.close_round
token_view OpenSquare = tree.open_square
token_view CloseSquare = tree.close_square
token_view Comma = tree.comma
token_view Semicolon = tree.semicolon
token_view Star = tree.star
token_view Caret = tree.caret
token_view Dots = tree.dots
token_view Rec = tree.rec_word

-- the first token of the text and the text behind it, or none where no token begins
abbrev pub IsFirstLexeme : List ℕ → Option Lexeme → Type 0
IsFirstLexeme text None =
    (token : tree.Token) (rest : List ℕ) → ¬ FirstToken (after_gap text) token rest
IsFirstLexeme text (Some lexeme) =
    FirstToken (after_gap text) (token_view lexeme.token) lexeme.rest.now

-- the tokens that stand first in the text, up to its end or to where no token begins
abbrev pub AreFirstTokens : List ℕ → List tree.Token → Type 0
AreFirstTokens text [] =
    (token : tree.Token) (rest : List ℕ) → ¬ FirstToken (after_gap text) token rest
AreFirstTokens text (token ∷ tokens) =
    (rest : List ℕ) × FirstToken (after_gap text) token rest × AreFirstTokens rest tokens

-- the token that begins the bytes and the length of its spelling, or none where no token begins them
abbrev pub IsFirst : List ℕ → Option (Token × ℕ) → Type 0
IsFirst bytes None = (token : tree.Token) (rest : List ℕ) → ¬ FirstToken bytes token rest
IsFirst bytes (Some found) =
    FirstToken bytes (token_view found.0) (drop found.1 bytes) × (0 < found.1)
    × (found.1 ≤ length bytes)

-- the first n bytes have the form, and no longer front has it
pub record IsLongestFront (HasForm : List ℕ → Type 0) (bytes : List ℕ) (n : ℕ) : Type 0 where
  pub within : n ≤ length bytes
  pub formed : HasForm (take n bytes)
  pub longest : (front tail : List ℕ) → HasForm front → bytes ≡ front ++ tail → length front ≤ n

-- this byte stands first
abbrev pub BeginsWith : ℕ → List ℕ → Type 0
BeginsWith byte [] = ⊥
BeginsWith byte (b ∷ bytes) = b ≡ byte

-- the spelling begins with these bytes
abbrev pub IsFrontOf : List ℕ → List ℕ → Type 0
IsFrontOf spelling front = (more : List ℕ) × (spelling ≡ front ++ more)

-- the first byte goes on a name: a name byte, or a dot before one
abbrev pub GoesOnAt : List ℕ → Type 0
GoesOnAt [] = ⊥
GoesOnAt (b ∷ bytes) = IsNameByte b ⊎ ((b ≡ 46) × BeginsWithNameByte bytes)

-- no more than 18 digits
abbrev pub AreFewDigits : List ℕ → Type 0
AreFewDigits digits = AllByRecursion IsDigit digits × (length digits ≤ 18)

-- a byte from space to `~`, but for `"`
abbrev pub is_string_byte : ℕ → Bool
is_string_byte byte = (nat_le 32 byte && nat_le byte 126) && not (byte == 34)

abbrev pub IsString : tree.Token → Type 0
IsString (tree.string text) = Unit {0}
IsString _ = ⊥

abbrev pub IsBracket : tree.Token → Type 0
IsBracket tree.open_round = Unit {0}
IsBracket tree.close_round = Unit {0}
IsBracket tree.open_square = Unit {0}
IsBracket tree.close_square = Unit {0}
IsBracket _ = ⊥

-- the last token is a bracket
abbrev pub EndsInBracket : List tree.Token → Type 0
EndsInBracket [] = ⊥
EndsInBracket (token ∷ []) = IsBracket token
EndsInBracket (token ∷ next ∷ tokens) = EndsInBracket (next ∷ tokens)
