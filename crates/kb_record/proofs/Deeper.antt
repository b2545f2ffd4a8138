-- A word or a value that is read where few brackets may nest is read where more may.
use Rattle.std.proofs.Common.{◌≡◌, ℕ, zero, suc, ◌≤◌, ℤ, List, [], ◌∷◌, ◌++◌, length, Bool, true, false, if◌then◌else◌, Option, Some, None, refl, sym, ap, ◌∙◌, arith}
use Rattle.kb_lexing.specs.Token.{Token}
use Rattle.kb_lexing.specs.declared.place.Expected.{Expected}
use Rattle.kb_lexing.specs.declared.place.Expected.TheVariants as wanted
use Rattle.kb_record.specs.Tree.{grouped, Factors, Value, list_value, record_value, word_value, no_places}
use Rattle.kb_record.specs.Nesting.{deepest}
use Rattle.kb_record.specs.Reading.{Reading, read, unexpected, too_deep, Parse, and_then, reading_map, behind, past, joined, row, passes, read_power, factor_behind, factor_with, word_with, group_with, read_word, read_group, read_name, passes_comma, ends_place, place_with, field_with, first_number, range_from, read_places, after_items, first_place, numbered_list, number_behind, list_behind, fields_behind, fields_from, begins_word, read_scalar, value_behind, read_value, read_list, read_fields}
use Rattle.kb_record.specs.View.{factors_of, factors_in, places_of}
use Rattle.kb_record.specs.declared.cursor.Mark.TheVariants.{Assign, Star, OpenRound, CloseRound, OpenSquare, CloseSquare, Dots, Rec}
use Rattle.kb_record.proofs.Depths.{read_word_is, read_value_is}

-- what the one reading gives the other gives too
abbrev pub Gives : {A : Type 0} → Reading A → Reading A → Type 0
Gives one other = (tree : _) (rest : List Token) → one ≡ read tree rest → other ≡ read tree rest

gives_same : {A : Type 0} (reading : Reading A) → Gives reading reading
gives_same reading tree rest e = e

then_gives : {A B : Type 0} (one other : Reading A) (next later : A → Parse B) → Gives one other → ((x : A) (left : List Token) → Gives (next x left) (later x left)) → Gives (and_then one next) (and_then other later)
then_gives (read x left) other next later h k tree rest e = ap (λ r. and_then r later) (h x left refl) ∙ k x left tree rest e
then_gives (unexpected expected left) other next later h k tree rest e = cc
then_gives (too_deep left) other next later h k tree rest e = cc

map_gives : {A B : Type 0} (one other : Reading A) (f : A → B) → Gives one other → Gives (reading_map f one) (reading_map f other)
map_gives one other f h = then_gives one other (λ tree rest. read (f tree) rest) (λ tree rest. read (f tree) rest) h (λ x left. gives_same (read (f x) left))

-- ---- rows

abbrev others_behind : {A : Type 0} → Parse A → Parse Bool → ℕ → A → Bool → Parse (List A)
others_behind item goes_on n first more others = if more then reading_map (λ items. first ∷ items) (joined item goes_on n others) else read (first ∷ []) others

others_give : {A : Type 0} (item other : Parse A) (goes_on : Parse Bool) (n : ℕ) (first : A) (more : Bool) (left : List Token) → Gives (joined item goes_on n left) (joined other goes_on n left)
    → Gives (others_behind item goes_on n first more left) (others_behind other goes_on n first more left)
others_give item other goes_on n first true left h = map_gives (joined item goes_on n left) (joined other goes_on n left) (λ items. first ∷ items) h
others_give item other goes_on n first false left h = gives_same (read (first ∷ []) left)

joined_gives : {A : Type 0} (item other : Parse A) (goes_on : Parse Bool) → ((tokens : List Token) → Gives (item tokens) (other tokens)) → (n : ℕ) (tokens : List Token) → Gives (joined item goes_on n tokens) (joined other goes_on n tokens)
unfolding joined
joined_gives item other goes_on h zero tokens = λ tree rest e. e
joined_gives item other goes_on h (suc n) tokens =
    then_gives (item tokens) (other tokens) (λ first rest. and_then (goes_on rest) (others_behind item goes_on n first)) (λ first rest. and_then (goes_on rest) (others_behind other goes_on n first)) (h tokens)
    (λ first rest. then_gives (goes_on rest) (goes_on rest) (others_behind item goes_on n first) (others_behind other goes_on n first) (gives_same (goes_on rest))
    (λ more left. others_give item other goes_on n first more left (joined_gives item other goes_on h n left)))

-- ---- words

factor_gives : (group other : Parse Factors) → ((inside : List Token) → Gives (group inside) (other inside)) → (tokens : List Token) (opened : Option (List Token)) → Gives (factor_behind group tokens opened) (factor_behind other tokens opened)
factor_gives group other h tokens None = gives_same (factor_behind group tokens None)
factor_gives group other h tokens (Some inside) =
    then_gives (group inside) (other inside) (λ factors rest. reading_map (grouped factors) (read_power rest)) (λ factors rest. reading_map (grouped factors) (read_power rest)) (h inside)
    (λ factors rest. gives_same (reading_map (grouped factors) (read_power rest)))

word_gives : (group other : Parse Factors) → ((inside : List Token) → Gives (group inside) (other inside)) → (tokens : List Token) → Gives (word_with group tokens) (word_with other tokens)
word_gives group other h tokens =
    map_gives (row (factor_with group) (passes Star) tokens) (row (factor_with other) (passes Star) tokens) factors_of
    (joined_gives (factor_with group) (factor_with other) (passes Star) (λ ts. factor_gives group other h ts (behind OpenRound ts)) (suc (length tokens)) tokens)

group_gives : (word other : Parse Factors) → ((tokens : List Token) → Gives (word tokens) (other tokens)) → (tokens : List Token) → Gives (group_with word tokens) (group_with other tokens)
group_gives word other h tokens =
    then_gives (word tokens) (other tokens) (λ factors rest. past wanted.Mark rest (behind CloseRound rest) (read factors)) (λ factors rest. past wanted.Mark rest (behind CloseRound rest) (read factors)) (h tokens)
    (λ factors rest. gives_same (past wanted.Mark rest (behind CloseRound rest) (read factors)))

none_gives : {A : Type 0} (other : Parse A) (inside : List Token) → Gives (too_deep inside) (other inside)
none_gives other inside tree rest e = cc

pub word_deeper : (d e : ℕ) → d ≤ e → (tokens : List Token) → Gives (read_word d tokens) (read_word e tokens)
word_deeper zero e le tokens tree rest h =
    read_word_is e tokens ∙ word_gives (read_group zero) (read_group e) (none_gives (read_group e)) tokens tree rest (sym (read_word_is zero tokens) ∙ h)
word_deeper (suc d) zero le tokens tree rest h = let never : ⊥ = omega arith in absurd never
word_deeper (suc d) (suc e) le tokens tree rest h =
    read_word_is (suc e) tokens ∙ word_gives (read_group (suc d)) (read_group (suc e)) (group_gives (read_word d) (read_word e) (word_deeper d e (omega arith))) tokens tree rest (sym (read_word_is (suc d) tokens) ∙ h)

-- so a word that is read at any depth is the first word
pub first_word_is : (d : ℕ) (tokens rest : List Token) (tree : Factors) → d ≤ deepest → read_word d tokens ≡ read tree rest → factors_in (read_word deepest tokens) ≡ tree
first_word_is d tokens rest tree le e = ap factors_in (word_deeper d deepest le tokens tree rest e)

-- ---- values

past_gives : {A : Type 0} (expected : Expected) (tokens : List Token) (o : Option (List Token)) (next later : Parse A) → ((rest : List Token) → Gives (next rest) (later rest)) → Gives (past expected tokens o next) (past expected tokens o later)
past_gives expected tokens None next later h = gives_same (unexpected expected tokens)
past_gives expected tokens (Some rest) next later h = h rest

place_or_none : (ended : Bool) (tokens : List Token) (one other : Reading Value) → Gives one other → Gives (if ended then read None tokens else reading_map Some one) (if ended then read None tokens else reading_map Some other)
place_or_none true tokens one other h = gives_same (read None tokens)
place_or_none false tokens one other h = map_gives one other Some h

-- the places behind the number that comes first in a list, where a comma comes
abbrev after_comma : Parse Value → ℤ → Bool → Parse (List (Option Value))
after_comma value z more rest = if more then after_items (first_place (Some z)) (read_places value rest) else read (first_place (Some z)) rest

-- a field behind its name
abbrev behind_name : Parse Value → List ℕ → Parse (List ℕ × Value)
behind_name value text rest = past wanted.Assign rest (behind Assign rest) (λ others. reading_map (λ tree. (text, tree)) (value others))

module _ (value other : Parse Value) (h : (tokens : List Token) → Gives (value tokens) (other tokens)) where
  place_gives : (tokens : List Token) → Gives (place_with value tokens) (place_with other tokens)
  place_gives tokens = place_or_none (ends_place tokens) tokens (value tokens) (other tokens) (h tokens)

  places_give : (tokens : List Token) → Gives (read_places value tokens) (read_places other tokens)
  places_give tokens = joined_gives (place_with value) (place_with other) (passes_comma CloseSquare wanted.Mark) place_gives (suc (length tokens)) tokens

  more_or_end : (z : ℤ) (more : Bool) (rest : List Token) → Gives (after_comma value z more rest) (after_comma other z more rest)
  more_or_end z true rest = map_gives (read_places value rest) (read_places other rest) (λ items. first_place (Some z) ++ items) (places_give rest)
  more_or_end z false rest = gives_same (read (first_place (Some z)) rest)

  numbered_gives : (z : ℤ) (comes : Reading Bool) → Gives (numbered_list value z comes) (numbered_list other z comes)
  numbered_gives z comes =
      map_gives (and_then comes (after_comma value z)) (and_then comes (after_comma other z)) (λ places. list_value (places_of places))
      (then_gives comes comes (after_comma value z) (after_comma other z) (gives_same comes) (more_or_end z))

  number_gives : (z : ℤ) (tokens : List Token) (o : Option (List Token)) → Gives (number_behind value z tokens o) (number_behind other z tokens o)
  number_gives z tokens (Some rest) = gives_same (range_from z rest)
  number_gives z tokens None = numbered_gives z (passes_comma CloseSquare wanted.Dots tokens)

  list_gives : (tokens : List Token) (o : Option (List Token)) (first : Option (ℤ × List Token)) → Gives (list_behind value tokens o first) (list_behind other tokens o first)
  list_gives tokens (Some rest) first = gives_same (read (list_value no_places) rest)
  list_gives tokens None (Some (z, rest)) = number_gives z rest (behind Dots rest)
  list_gives tokens None None = map_gives (read_places value tokens) (read_places other tokens) (λ places. list_value (places_of places)) (places_give tokens)

  field_gives : (tokens : List Token) → Gives (field_with value tokens) (field_with other tokens)
  field_gives tokens =
      then_gives (read_name tokens) (read_name tokens) (behind_name value) (behind_name other) (gives_same (read_name tokens))
      (λ text rest. past_gives wanted.Assign rest (behind Assign rest) (λ others. reading_map (λ tree. (text, tree)) (value others)) (λ others. reading_map (λ tree. (text, tree)) (other others))
      (λ others. map_gives (value others) (other others) (λ tree. (text, tree)) (h others)))

  fields_give : (tokens : List Token) (o : Option (List Token)) → Gives (fields_behind value tokens o) (fields_behind other tokens o)
  fields_give tokens (Some rest) = gives_same (read [] rest)
  fields_give tokens None = joined_gives (field_with value) (field_with other) (passes_comma CloseRound wanted.Mark) field_gives (suc (length tokens)) tokens

module _ (word word' : Parse Factors) (list list' : Parse Value) (fields fields' : Parse (List (List ℕ × Value))) (of_word : (tokens : List Token) → Gives (word tokens) (word' tokens)) (of_list : (tokens : List Token) → Gives (list tokens) (list' tokens)) (of_fields : (tokens : List Token) → Gives (fields tokens) (fields' tokens)) where
  behind_gives : (tokens : List Token) (o o' : Option (List Token)) → Gives (value_behind list fields tokens o o') (value_behind list' fields' tokens o o')
  behind_gives tokens (Some rest) o' =
      past_gives wanted.Fields rest (behind OpenRound rest) (λ inside. reading_map (λ found. record_value (fields_from found)) (fields inside)) (λ inside. reading_map (λ found. record_value (fields_from found)) (fields' inside))
      (λ inside. map_gives (fields inside) (fields' inside) (λ found. record_value (fields_from found)) (of_fields inside))
  behind_gives tokens None (Some rest) = of_list rest
  behind_gives tokens None None = gives_same (read_scalar tokens)

  value_or_word : (begins : Bool) (tokens : List Token)
      → Gives (if begins then reading_map word_value (word tokens) else value_behind list fields tokens (behind Rec tokens) (behind OpenSquare tokens)) (if begins then reading_map word_value (word' tokens) else value_behind list' fields' tokens (behind Rec tokens) (behind OpenSquare tokens))
  value_or_word true tokens = map_gives (word tokens) (word' tokens) word_value (of_word tokens)
  value_or_word false tokens = behind_gives tokens (behind Rec tokens) (behind OpenSquare tokens)

pub value_deeper : (d e : ℕ) → d ≤ e → (tokens : List Token) → Gives (read_value d tokens) (read_value e tokens)
value_deeper zero e le tokens tree rest h =
    read_value_is e tokens
    ∙ value_or_word (read_word zero) (read_word e) (read_list zero) (read_list e) (read_fields zero) (read_fields e) (word_deeper zero e le) (none_gives (read_list e)) (none_gives (read_fields e)) (begins_word tokens) tokens tree rest (sym (read_value_is zero tokens) ∙ h)
value_deeper (suc d) zero le tokens tree rest h = let never : ⊥ = omega arith in absurd never
value_deeper (suc d) (suc e) le tokens tree rest h =
    read_value_is (suc e) tokens
    ∙ value_or_word (read_word (suc d)) (read_word (suc e)) (read_list (suc d)) (read_list (suc e)) (read_fields (suc d)) (read_fields (suc e)) (word_deeper (suc d) (suc e) le)
    (λ ts. list_gives (read_value d) (read_value e) (value_deeper d e (omega arith)) ts (behind CloseSquare ts) (first_number ts))
    (λ ts. fields_give (read_value d) (read_value e) (value_deeper d e (omega arith)) ts (behind CloseRound ts)) (begins_word tokens) tokens tree rest (sym (read_value_is (suc d) tokens) ∙ h)
