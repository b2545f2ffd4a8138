-- Reading tokens from the left: the tree that stands first, and the tokens behind it.
use Rattle.std.specs.Prelude.{◌≡◌, unwrap_or, ℕ, zero, suc, ℤ, List, [], ◌∷◌, ◌++◌, length, drop, Bool, true, false, if◌then◌else◌, Option, Some, None, Result, Ok, Err}
use Rattle.kb_lexing.specs.Token.{Token, name, number, string, assign, open_round, close_round, open_square, close_square, comma, semicolon, star, caret, dots, rec_word}
use Rattle.kb_record.specs.Tree.{Factor, named, grouped, Factors, Value, number_value, string_value, record_value, list_value, range_value, word_value, Fields, no_fields, field, no_places}
use Rattle.kb_record.specs.Lists.{factors_of, places_of, number_place}
use Rattle.kb_lexing.proofs.FrontTokens.{tokens_from, tokens_of}
use Rattle.kb_lexing.specs.Possible.{PassedAre, IsPlace, rest_behind, last_place_of}
use Rattle.kb_lexing.specs.declared.token.Lexeme.{Lexeme}
use Rattle.kb_lexing.specs.declared.place.Expected.{Expected}
use Rattle.kb_lexing.specs.declared.place.Expected.TheVariants as wanted
use Rattle.kb_record.specs.declared.error.RecordError.{RecordError}
use Rattle.kb_record.specs.declared.error.RecordError.TheVariants as errors
use Rattle.kb_record.specs.declared.cursor.Cursor.{Cursor}
use Rattle.kb_record.specs.declared.cursor.Mark.{Mark}
use Rattle.kb_record.specs.declared.cursor.Mark.TheVariants.{Assign, OpenRound, CloseRound, OpenSquare, CloseSquare, Comma, Semicolon, Star, Caret, Dots, Rec}
use Rattle.kb_record.specs.declared.cursor.Stop.{Stop}
use Rattle.kb_record.specs.declared.cursor.Stop.TheVariants.{Unexpected, TooDeep, Memory}

-- the tree and the tokens behind it; what is expected where the next token can't be read, and the tokens left there;
-- or the tokens behind a bracket that nests too deep
pub data Reading (A : Type 0) : Type 0 where
  read : A → List Token → Reading A
  unexpected : Expected → List Token → Reading A
  too_deep : List Token → Reading A

abbrev pub Parse : Type 0 → Type 0
Parse A = List Token → Reading A

abbrev pub and_then : {A B : Type 0} → Reading A → (A → Parse B) → Reading B
and_then (read tree rest) next = next tree rest
and_then (unexpected expected rest) next = unexpected expected rest
and_then (too_deep rest) next = too_deep rest

abbrev pub reading_map : {A B : Type 0} → (A → B) → Reading A → Reading B
reading_map f reading = and_then reading (λ tree rest. read (f tree) rest)

-- a tree is read
abbrev pub IsRead : {A : Type 0} → Reading A → Type 0
IsRead (read tree rest) = Unit {0}
IsRead (unexpected expected rest) = ⊥
IsRead (too_deep rest) = ⊥

-- what the code answers, and the tokens that it leaves
abbrev pub Reads : {A B : Type 0} → Reading A → (B → A) → Result B Stop → List Token → Type 0
Reads reading view (Ok found) rest = reading ≡ read (view found) rest
Reads reading view (Err (Unexpected expected)) rest = reading ≡ unexpected expected rest
Reads reading view (Err TooDeep) rest = reading ≡ too_deep rest
Reads reading view (Err Memory) rest = Unit {0}

-- the tokens that the cursor has left
abbrev pub remaining : Cursor → List Token
remaining cursor = tokens_from cursor.next.lexeme

-- the text that the cursor goes over, from its beginning on
abbrev pub whole_of : Cursor → List ℕ
whole_of cursor = cursor.next.whole.now

-- those behind the next one
abbrev pub behind_next : Cursor → List Token
behind_next cursor = drop 1 (remaining cursor)

abbrev pub is_mark : Mark → Token → Bool
is_mark Assign assign = true
is_mark OpenRound open_round = true
is_mark CloseRound close_round = true
is_mark OpenSquare open_square = true
is_mark CloseSquare close_square = true
is_mark Comma comma = true
is_mark Semicolon semicolon = true
is_mark Star star = true
is_mark Caret caret = true
is_mark Dots dots = true
is_mark Rec rec_word = true
is_mark _ _ = false

-- the tokens behind the mark, where it stands first
abbrev pub behind : Mark → List Token → Option (List Token)
behind mark [] = None
behind mark (token ∷ tokens) = if is_mark mark token then Some tokens else None

-- what is read behind a mark that has to stand there, of the tokens with what is behind the mark
abbrev pub past : {A : Type 0} → Expected → List Token → Option (List Token) → Parse A → Reading A
past expected tokens None next = unexpected expected tokens
past expected tokens (Some rest) next = next rest

abbrev pub read_name : Parse (List ℕ)
read_name (name text ∷ tokens) = read text tokens
read_name tokens = unexpected wanted.Name tokens

abbrev pub read_number : Parse ℤ
read_number (number z ∷ tokens) = read z tokens
read_number tokens = unexpected wanted.Number tokens

-- ---- items in a row

-- items, each behind the first one only where the reading goes on; the number bounds how many
unfoldable pub joined : {A : Type 0} → Parse A → Parse Bool → ℕ → Parse (List A)
joined item goes_on zero tokens = unexpected wanted.Mark tokens
joined item goes_on (suc n) tokens =
    and_then (item tokens) (λ first rest.
    and_then (goes_on rest) (λ more others.
    if more then reading_map (λ items. first ∷ items) (joined item goes_on n others) else read
    (first ∷ []) others))

-- more items than tokens there can't be
abbrev pub row : {A : Type 0} → Parse A → Parse Bool → Parse (List A)
row item goes_on tokens = joined item goes_on (suc (length tokens)) tokens

abbrev pub passes_to : List Token → Option (List Token) → Reading Bool
passes_to tokens None = read false tokens
passes_to tokens (Some rest) = read true rest

-- whether the mark comes, which is passed
abbrev pub passes : Mark → Parse Bool
passes mark tokens = passes_to tokens (behind mark tokens)

abbrev pub comma_unless : Expected → List Token → Option (List Token) → Reading Bool
comma_unless expected tokens None =
    past expected tokens (behind Comma tokens) (λ rest. read true rest)
comma_unless expected tokens (Some rest) = read false rest

-- whether a comma comes and not the mark that closes; either is passed
abbrev pub passes_comma : Mark → Expected → Parse Bool
passes_comma close expected tokens = comma_unless expected tokens (behind close tokens)

-- ---- words

abbrev pub power_behind : List Token → Option (List Token) → Reading (Option ℤ)
power_behind tokens None = read None tokens
power_behind tokens (Some rest) = reading_map Some (read_number rest)

abbrev pub read_power : Parse (Option ℤ)
read_power tokens = power_behind tokens (behind Caret tokens)

abbrev pub factor_behind : Parse Factors → List Token → Option (List Token) → Reading Factor
factor_behind group tokens None =
    and_then (read_name tokens) (λ text rest. reading_map (named text) (read_power rest))
factor_behind group tokens (Some inside) =
    and_then (group inside) (λ factors rest. reading_map (grouped factors) (read_power rest))

abbrev pub factor_with : Parse Factors → Parse Factor
factor_with group tokens = factor_behind group tokens (behind OpenRound tokens)

abbrev pub word_with : Parse Factors → Parse Factors
word_with group tokens = reading_map factors_of (row (factor_with group) (passes Star) tokens)

abbrev pub group_with : Parse Factors → Parse Factors
group_with word tokens =
    and_then (word tokens)
    (λ factors rest. past wanted.Mark rest (behind CloseRound rest) (read factors))

-- a word, with brackets in brackets no deeper than the number
unfoldable pub read_word : ℕ → Parse Factors
read_word zero = word_with too_deep
read_word (suc depth) = word_with (group_with (read_word depth))

-- what stands behind an open bracket and before its closing one, and that one
abbrev pub read_group : ℕ → Parse Factors
read_group zero = too_deep
read_group (suc depth) = group_with (read_word depth)

abbrev pub read_factor : ℕ → Parse Factor
read_factor depth = factor_with (read_group depth)

-- ---- values

-- a place of a list is empty where a comma or the closing bracket follows
abbrev pub ends_place : List Token → Bool
ends_place (comma ∷ tokens) = true
ends_place (close_square ∷ tokens) = true
ends_place _ = false

abbrev pub place_with : Parse Value → Parse (Option Value)
place_with value tokens =
    if ends_place tokens then read None tokens else reading_map Some (value tokens)

abbrev pub field_with : Parse Value → Parse (List ℕ × Value)
field_with value tokens =
    and_then (read_name tokens)
    (λ text rest.
    past wanted.Assign rest (behind Assign rest)
    (λ others. reading_map (λ tree. (text, tree)) (value others)))

-- the number that stands first, and the tokens behind it
abbrev pub first_number : List Token → Option (ℤ × List Token)
first_number (number z ∷ tokens) = Some (z, tokens)
first_number _ = None

-- the name that stands first, and the tokens behind it
abbrev pub first_name : List Token → Option (List ℕ × List Token)
first_name (name text ∷ tokens) = Some (text, tokens)
first_name _ = None

abbrev pub range_from : ℤ → Parse Value
range_from from tokens =
    and_then (read_number tokens)
    (λ to rest. past wanted.Mark rest (behind CloseSquare rest) (read (range_value from to)))

-- the places of a list up to its closing bracket, and that one
abbrev pub read_places : Parse Value → Parse (List (Option Value))
read_places value = row (place_with value) (passes_comma CloseSquare wanted.Mark)

-- those in front, and then those that are read
abbrev pub after_items : {A : Type 0} → List A → Reading (List A) → Reading (List A)
after_items before reading = reading_map (λ items. before ++ items) reading

-- the place of a number, if there is one
abbrev pub first_place : Option ℤ → List (Option Value)
first_place None = []
first_place (Some z) = number_place z ∷ []

abbrev pub list_from : Reading (List (Option Value)) → Reading Value
list_from reading = reading_map (λ places. list_value (places_of places)) reading

-- the list that a number begins, and more places where a comma comes
abbrev pub numbered_list : Parse Value → ℤ → Reading Bool → Reading Value
numbered_list value z comes =
    list_from (and_then comes (λ more rest. if more then after_items (first_place (Some z))
    (read_places value rest) else read (first_place (Some z)) rest))

-- behind the number that comes first in a list a range may go on
abbrev pub number_behind : Parse Value → ℤ → List Token → Option (List Token) → Reading Value
number_behind value z tokens (Some rest) = range_from z rest
number_behind value z tokens None =
    numbered_list value z (passes_comma CloseSquare wanted.Dots tokens)

abbrev pub number_with : Parse Value → ℤ → Parse Value
number_with value z tokens = number_behind value z tokens (behind Dots tokens)

abbrev pub list_behind : Parse Value → List Token → Option (List Token) → Option (ℤ × List Token)
    → Reading Value
list_behind value tokens (Some rest) first = read (list_value no_places) rest
list_behind value tokens None (Some (z, rest)) = number_with value z rest
list_behind value tokens None None = list_from (read_places value tokens)

abbrev pub list_with : Parse Value → Parse Value
list_with value tokens = list_behind value tokens (behind CloseSquare tokens) (first_number tokens)

abbrev pub fields_behind : Parse Value → List Token → Option (List Token)
    → Reading (List (List ℕ × Value))
fields_behind value tokens (Some rest) = read [] rest
fields_behind value tokens None =
    row (field_with value) (passes_comma CloseRound wanted.Mark) tokens

abbrev pub fields_with : Parse Value → Parse (List (List ℕ × Value))
fields_with value tokens = fields_behind value tokens (behind CloseRound tokens)

abbrev pub fields_from : List (List ℕ × Value) → Fields
fields_from [] = no_fields
fields_from (f ∷ fs) = field f.0 f.1 (fields_from fs)

abbrev pub record_with : Parse (List (List ℕ × Value)) → Parse Value
record_with fields tokens =
    past wanted.Fields tokens (behind OpenRound tokens)
    (λ rest. reading_map (λ found. record_value (fields_from found)) (fields rest))

abbrev pub begins_word : List Token → Bool
begins_word (name text ∷ tokens) = true
begins_word (open_round ∷ tokens) = true
begins_word _ = false

-- a number or a string
abbrev pub read_scalar : Parse Value
read_scalar (number z ∷ tokens) = read (number_value z) tokens
read_scalar (string text ∷ tokens) = read (string_value text) tokens
read_scalar tokens = unexpected wanted.Value tokens

abbrev pub value_behind : Parse Value → Parse (List (List ℕ × Value)) → List Token
    → Option (List Token) → Option (List Token) → Reading Value
value_behind list fields tokens (Some rest) opened = record_with fields rest
value_behind list fields tokens None (Some rest) = list rest
value_behind list fields tokens None None = read_scalar tokens

abbrev pub value_with : Parse Factors → Parse Value → Parse (List (List ℕ × Value)) → Parse Value
value_with word list fields tokens =
    if begins_word tokens then reading_map word_value (word tokens) else value_behind list fields
    tokens (behind Rec tokens) (behind OpenSquare tokens)

-- a value, with brackets in brackets no deeper than the number
unfoldable pub read_value : ℕ → Parse Value
read_value zero = value_with (read_word zero) too_deep too_deep
read_value (suc depth) =
    value_with (read_word (suc depth)) (list_with (read_value depth))
    (fields_with (read_value depth))

-- a list behind its open bracket
abbrev pub read_list : ℕ → Parse Value
read_list zero = too_deep
read_list (suc depth) = list_with (read_value depth)

-- the fields of a record behind its open bracket
abbrev pub read_fields : ℕ → Parse (List (List ℕ × Value))
read_fields zero = too_deep
read_fields (suc depth) = fields_with (read_value depth)

-- a record behind its `rec`
abbrev pub read_record : ℕ → Parse Value
read_record depth = record_with (read_fields depth)

-- ---- texts

-- the name and the fields of a text, and the tokens behind its record
abbrev pub read_text : ℕ → Parse (List ℕ × List (List ℕ × Value))
read_text depth tokens =
    and_then (read_name tokens) (λ title rest.
    past wanted.Assign rest (behind Assign rest) (λ others.
    past wanted.Rec others (behind Rec others) (λ opening.
    past wanted.Mark opening (behind OpenRound opening)
    (λ inside. reading_map (λ fields. (title, fields)) (read_fields depth inside)))))

-- the tokens behind the semicolon that may come
abbrev pub skip_semicolon : List Token → List Token
skip_semicolon tokens = unwrap_or (behind Semicolon tokens) tokens

-- a text with its semicolon
abbrev pub read_ended : ℕ → Parse (List ℕ × List (List ℕ × Value))
read_ended depth tokens =
    and_then (read_text depth tokens) (λ text rest. read text (skip_semicolon rest))

-- no token may be left, of tokens that are those of the whole text or not
abbrev pub ended : Bool → Parse Bool
ended true [] = read true []
ended whole tokens = unexpected wanted.Mark tokens

-- what is read up to the end
abbrev pub finished : {A : Type 0} → Bool → Reading A → Reading A
finished whole reading =
    and_then reading (λ tree rest. and_then (ended whole rest) (λ done others. read tree others))

-- the last of so many tokens that stand first in the bytes
abbrev pub StandsBehind : List ℕ → ℕ → Option Lexeme → Type 0
StandsBehind bytes count last =
    (passed rest : List Token) → tokens_of bytes ≡ passed ++ rest → length passed ≡ count
    → PassedAre bytes passed last × (tokens_of (rest_behind bytes last) ≡ rest)

-- the refusal that says so, where so many tokens of the bytes were passed
abbrev pub Says : List ℕ → ℕ → Stop → RecordError → Type 0
Says bytes count (Unexpected expected) (errors.Syntax at) =
    (last : Option Lexeme) × StandsBehind bytes count last × IsPlace bytes last expected at
Says bytes count TooDeep (errors.TooDeep at) =
    (last : Option Lexeme) × StandsBehind bytes count last × (at ≡ last_place_of bytes last)
Says bytes count Memory errors.Memory = Unit {0}
Says _ _ _ _ = ⊥
