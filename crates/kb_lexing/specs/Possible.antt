-- With which fronts of bytes some text of a form begins. A form is said of lists of tokens.
use Rattle.std.specs.Prelude.{◌≡◌, ◌⊎◌, ℕ, suc, ◌+◌, ◌-◌, ◌≤◌, ℤ, List, [], ◌∷◌, ◌++◌, length, take, Option, None, Some}
use Rattle.kb_lexing.specs.Token.{Token, name, number, string, assign, open_round, close_round, open_square, close_square, comma, semicolon, star, caret, dots, rec_word}
use Rattle.kb_lexing.specs.Spelling.{IsName, Spells, FirstToken, TokensOf, after_gap}
use Rattle.kb_lexing.specs.Lexemes.{IsLongestFront, token_view}
use Rattle.kb_lexing.specs.declared.token.Lexeme.{Lexeme}
use Rattle.kb_lexing.specs.declared.place.Expected.{Expected}
use Rattle.kb_lexing.specs.declared.place.Expected.TheVariants as variant

-- a number of more than 18 digits has no spelling, nor has a string with a quote
abbrev pub IsSpelled : Token → Type 0
IsSpelled token = (spelling : List ℕ) × Spells token spelling

abbrev pub AreSpelled : List Token → Type 0
AreSpelled [] = Unit {0}
AreSpelled (token ∷ tokens) = IsSpelled token × AreSpelled tokens

-- some list of the form begins with these tokens, and those that it has behind them can be spelled
pub record IsBegun (HasForm : List Token → Type 0) (tokens : List Token) : Type 0 where
  pub more : List Token
  pub formed : HasForm (tokens ++ more)
  pub spelled : AreSpelled more

-- some text of the form begins with these bytes
pub record IsPossible (HasForm : List Token → Type 0) (front : List ℕ) : Type 0 where
  pub behind : List ℕ
  pub tokens : List Token
  pub spelled : TokensOf (front ++ behind) tokens
  pub formed : HasForm tokens

-- some text of the form begins with the first n bytes, and none with more of them
pub record IsLongestPossible (HasForm : List Token → Type 0) (bytes : List ℕ) (n : ℕ) : Type 0 where
  pub within : n ≤ length bytes
  pub possible : IsPossible HasForm (take n bytes)
  pub longest : (m : ℕ) → m ≤ length bytes → IsPossible HasForm (take m bytes) → m ≤ n

-- the bytes begin with these tokens, and behind the last of them stands the rest
abbrev pub Passes : List ℕ → List Token → List ℕ → Type 0
Passes bytes [] rest = rest ≡ bytes
Passes bytes (token ∷ tokens) rest =
    (behind : List ℕ) × FirstToken (after_gap bytes) token behind × Passes behind tokens rest

-- a token of more than one byte that may come where this is expected
abbrev pub IsExpected : Expected → Token → Type 0
IsExpected variant.Name (name text) = Unit {0}
IsExpected variant.Number (number z) = Unit {0}
IsExpected variant.Value (name text) = Unit {0}
IsExpected variant.Value (number z) = Unit {0}
IsExpected variant.Value (string text) = Unit {0}
IsExpected variant.Value rec_word = Unit {0}
IsExpected variant.Assign assign = Unit {0}
IsExpected variant.Dots dots = Unit {0}
IsExpected variant.Rec rec_word = Unit {0}
IsExpected _ _ = ⊥

-- a token of one byte
abbrev pub IsMark : Token → Type 0
IsMark open_round = Unit {0}
IsMark close_round = Unit {0}
IsMark open_square = Unit {0}
IsMark close_square = Unit {0}
IsMark comma = Unit {0}
IsMark semicolon = Unit {0}
IsMark star = Unit {0}
IsMark caret = Unit {0}
IsMark _ = ⊥

-- in place of the token a name may stand: it is one, or it is the `rec` of a value
abbrev pub MayBeName : Token → Expected → Type 0
MayBeName (name text) _ = Unit {0}
MayBeName rec_word variant.Fields = Unit {0}
MayBeName _ _ = ⊥

-- the last token of the list, and those before it
abbrev pub EndsWith : List Token → List Token → Token → Type 0
EndsWith tokens before last = tokens ≡ before ++ last ∷ []

-- Reading tokens of the form from the left stops behind these: some list of the form begins with them, also
-- with each token of more than one byte that is expected behind them; with another one none does, nor with the next
-- token of the rest. A name may stand in place of the last token where that may be one, and not in place of another
-- `rec`. Dots are expected behind a number alone, and don't come behind a `rec` that is expected.
pub record Stops (HasForm : List Token → Type 0) (passed : List Token) (expected : Expected)
    (rest : List ℕ) : Type 0 where
  pub begun : IsBegun HasForm passed
  pub expects : (token : Token) → IsExpected expected token → IsSpelled token
      → IsBegun HasForm (passed ++ token ∷ [])
  pub expected_alone : (token : Token) → IsBegun HasForm (passed ++ token ∷ [])
      → IsExpected expected token ⊎ IsMark token
  pub stops : (token : Token) (behind : List ℕ) → FirstToken (after_gap rest) token behind
      → ¬ IsBegun HasForm (passed ++ token ∷ [])
  pub renamed : (before : List Token) (last : Token) → EndsWith passed before last
      → MayBeName last expected → (text : List ℕ) → IsName text → IsBegun HasForm (before ++ name text ∷ [])
  pub not_renamed : (before : List Token) → EndsWith passed before rec_word
      → ¬ MayBeName rec_word expected → (text : List ℕ) → ¬ IsBegun HasForm (before ++ name text ∷ [])
  pub number_before_dots : expected ≡ variant.Dots
      → (before : List Token) × (z : ℤ) × EndsWith passed before (number z)
  pub no_dots_behind_rec : expected ≡ variant.Rec
      → ¬ IsBegun HasForm (passed ++ rec_word ∷ dots ∷ [])

-- The tokens that were passed from the front of the bytes, of which the last one stands as the lexeme says.
abbrev pub PassedAre : List ℕ → List Token → Option Lexeme → Type 0
PassedAre bytes passed None = passed ≡ []
PassedAre bytes passed (Some lexeme) =
    (before : List Token) × (behind : List ℕ) × EndsWith passed before (token_view lexeme.token)
    × Passes bytes before behind × (lexeme.text.now ≡ after_gap behind)
    × FirstToken lexeme.text.now (token_view lexeme.token) lexeme.rest.now

-- what stands behind the tokens that were passed
abbrev pub rest_behind : List ℕ → Option Lexeme → List ℕ
rest_behind bytes None = bytes
rest_behind bytes (Some lexeme) = lexeme.rest.now

-- the place in the bytes of the last token that was passed
abbrev pub last_place_of : List ℕ → Option Lexeme → ℕ
last_place_of bytes None = 0
last_place_of bytes (Some lexeme) = length bytes - length lexeme.text.now

-- the spelling of such a token begins with the bytes, or they are none
abbrev pub BeginsToken : (Token → Type 0) → List ℕ → Type 0
BeginsToken IsSuch front = (front ≡ [])
    ⊎ ((token : Token) × (more : List ℕ) × IsSuch token × Spells token (front ++ more))

abbrev pub BeginsExpected : Expected → List ℕ → Type 0
BeginsExpected expected = BeginsToken (IsExpected expected)

-- the place behind the gap at the front of the rest, and behind the longest front there with which the spelling
-- of an expected token begins
abbrev pub IsExpectedPlace : List ℕ → List ℕ → Expected → ℕ → Type 0
IsExpectedPlace bytes rest expected at =
    (front : ℕ) × IsLongestFront (BeginsExpected expected) (after_gap rest) front
    × (at ≡ length bytes - length (after_gap rest) + front)

-- a dot stands directly behind what may be a name
abbrev pub IsDotted : Lexeme → Expected → Type 0
IsDotted lexeme expected =
    MayBeName (token_view lexeme.token) expected × ((more : List ℕ) × (lexeme.rest.now ≡ 46 ∷ more))

-- the length of the longest front of the bytes with which a text may begin that goes on behind the last token
-- as is expected
abbrev pub IsPlace : List ℕ → Option Lexeme → Expected → ℕ → Type 0
IsPlace bytes None expected at = IsExpectedPlace bytes bytes expected at
IsPlace bytes (Some lexeme) expected at =
    (IsDotted lexeme expected × (at ≡ suc (length bytes - length lexeme.rest.now)))
    ⊎ (¬ IsDotted lexeme expected × IsExpectedPlace bytes lexeme.rest.now expected at)
