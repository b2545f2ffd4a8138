-- How tokens are spelled, and which tokens a text has: a token is read as long as possible.
use Rattle.std.specs.Prelude.{◌≡◌, ◌≢◌, ℕ, zero, suc, ◌+◌, ◌-◌, ◌*◌, ◌<◌, ◌≤◌, ◌==◌, ◌||◌, ◌⊎◌, Bool, if◌then◌else◌, ℤ, pos, negsuc, List, [], ◌∷◌, ◌++◌, length, codes}
use Rattle.std.specs.List.{AllByRecursion}
use Rattle.kb_lexing.specs.Token.{Token, name, number, string, assign, open_round, close_round, open_square, close_square, comma, semicolon, star, caret, dots, rec_word}

-- space, tab, newline, carriage return
abbrev pub is_blank : ℕ → Bool
is_blank b = b == 32 || b == 9 || b == 10 || b == 13

-- what follows the blanks and comments at the front; a comment goes from `#` to the end of its line
abbrev mutual
  pub after_gap : List ℕ → List ℕ
  after_gap [] = []
  after_gap (b ∷ bytes) =
      if is_blank b then after_gap bytes else (if b == 35 then after_comment bytes else b ∷ bytes)

  pub after_comment : List ℕ → List ℕ
  after_comment [] = []
  after_comment (b ∷ bytes) = if b == 10 then after_gap bytes else after_comment bytes

abbrev pub IsDigit : ℕ → Type 0
IsDigit b = (48 ≤ b) × (b ≤ 57)

-- a letter or `_`
abbrev pub BeginsNames : ℕ → Type 0
BeginsNames b = ((65 ≤ b) × (b ≤ 90)) ⊎ (((97 ≤ b) × (b ≤ 122)) ⊎ (b ≡ 95))

-- a letter, a digit or `_`
abbrev pub IsNameByte : ℕ → Type 0
IsNameByte b = BeginsNames b ⊎ IsDigit b

abbrev pub BeginsWithNameByte : List ℕ → Type 0
BeginsWithNameByte [] = ⊥
BeginsWithNameByte (b ∷ bytes) = IsNameByte b

-- what a name has after its first byte: name bytes, and single dots between them
abbrev pub GoesOnAsName : List ℕ → Type 0
GoesOnAsName [] = Unit {0}
GoesOnAsName (b ∷ bytes) =
    (IsNameByte b ⊎ ((b ≡ 46) × BeginsWithNameByte bytes)) × GoesOnAsName bytes

-- parts joined by single dots, the first beginning with a letter or `_`; `rec` alone is no name
abbrev pub IsName : List ℕ → Type 0
IsName [] = ⊥
IsName (b ∷ bytes) = BeginsNames b × GoesOnAsName bytes × (b ∷ bytes ≢ codes "rec")

-- the number that digits stand for, behind one that others stand for
abbrev pub value_after : ℕ → List ℕ → ℕ
value_after n [] = n
value_after n (b ∷ digits) = value_after (n * 10 + (b - 48)) digits

abbrev pub opposite : ℕ → ℤ
opposite zero = pos 0
opposite (suc n) = negsuc n

-- 1 to 18 digits, of this value
pub record AreDigits (digits : List ℕ) (value : ℕ) : Type 0 where
  pub some : 0 < length digits
  pub few : length digits ≤ 18
  pub each : AllByRecursion IsDigit digits
  pub worth : value ≡ value_after 0 digits

-- digits, or `-` and digits
abbrev pub IsNumber : List ℕ → ℤ → Type 0
IsNumber bytes z = ((n : ℕ) × AreDigits bytes n × (z ≡ pos n))
    ⊎ ((n : ℕ) × (digits : List ℕ) × AreDigits digits n × (bytes ≡ 45 ∷ digits) × (z ≡ opposite n))

-- the bytes from space to `~`, but for `"`
abbrev pub IsStringByte : ℕ → Type 0
IsStringByte b = (32 ≤ b) × (b ≤ 126) × (b ≢ 34)

-- these bytes spell the token
abbrev pub Spells : Token → List ℕ → Type 0
Spells (name text) bytes = (bytes ≡ text) × IsName text
Spells (number z) bytes = IsNumber bytes z
Spells (string text) bytes = (bytes ≡ 34 ∷ text ++ 34 ∷ []) × AllByRecursion IsStringByte text
Spells assign bytes = bytes ≡ codes ":="
Spells open_round bytes = bytes ≡ codes "("
Spells close_round bytes = bytes ≡ codes ")"
Spells open_square bytes = bytes ≡ codes "["
Spells close_square bytes = bytes ≡ codes "]"
Spells comma bytes = bytes ≡ codes ","
Spells semicolon bytes = bytes ≡ codes ";"
Spells star bytes = bytes ≡ codes "*"
Spells caret bytes = bytes ≡ codes "^"
Spells dots bytes = bytes ≡ codes ".."
Spells rec_word bytes = bytes ≡ codes "rec"

-- the text begins with the token, read as long as possible
pub record FirstToken (bytes : List ℕ) (token : Token) (rest : List ℕ) : Type 0 where
  pub spelling : List ℕ
  pub spelled : Spells token spelling
  pub whole : bytes ≡ spelling ++ rest
  pub longest : (other : Token) (front tail : List ℕ) → Spells other front → bytes ≡ front ++ tail
      → length front ≤ length spelling

-- the text is these tokens, with blanks and comments before, between and behind them
abbrev pub TokensOf : List ℕ → List Token → Type 0
TokensOf bytes [] = after_gap bytes ≡ []
TokensOf bytes (token ∷ tokens) =
    (rest : List ℕ) × FirstToken (after_gap bytes) token rest × TokensOf rest tokens
