-- The tokens of a value are read as that value, unless it nests too deep.
use Rattle.std.proofs.Common.{◌≡◌, ℕ, zero, suc, ◌<◌, ◌≤◌, max, ℤ, List, [], ◌∷◌, ◌++◌, length, true, false, if◌then◌else◌, Option, Some, None, refl, ap, ◌∙◌, subst, arith, append_assoc}
use Rattle.std.proofs.lemmas.List.{length-append}
use Rattle.kb_lexing.specs.Token.{Token, name, number, assign, close_round, open_square, close_square, comma, dots}
use Rattle.kb_record.specs.Tree.{named, grouped, Factors, no_factors, factor, Value, number_value, string_value, record_value, list_value, range_value, word_value, Fields, no_fields, field, Places, no_places, place, empty_place}
use Rattle.kb_record.specs.Grammar.{word_tokens, value_tokens, field_tokens, more_fields, place_tokens, more_places, IsWord, IsValue, AreFields, ArePlaces, IsPlaceList}
use Rattle.kb_record.specs.Nesting.{word_nesting, value_nesting, fields_nesting, places_nesting}
use Rattle.kb_record.specs.View.{places_of}
use Rattle.kb_record.specs.Reading.{Reading, read, unexpected, too_deep, reading_map, joined, row, behind, passes_comma, first_number, first_place, ends_place, begins_word, place_with, field_with, fields_from, read_value, read_list, read_fields, list_with, list_behind, list_from, number_with, read_places, after_items, read_word}
use Rattle.kb_lexing.specs.declared.place.Expected.TheVariants as wanted
use Rattle.kb_record.specs.declared.cursor.Mark.TheVariants.{CloseRound, CloseSquare}
use Rattle.kb_record.proofs.Depths.{read_value_is, value-word}
use Rattle.kb_record.proofs.Finds.{Finds, found_as, found_map, last_found, more_found}
use Rattle.kb_record.proofs.FoundWords.{Ends, word_found}

-- ---- how values begin

begins_word-word : (fs : Factors) → IsWord fs → (ts : List Token) → begins_word (word_tokens fs ++ ts) ≡ true
begins_word-word no_factors good ts = absurd good
begins_word-word (factor (named text power) fs) good ts = refl
begins_word-word (factor (grouped inside power) fs) good ts = refl

not_ended : (v : Value) → IsValue v → (ts : List Token) → ends_place (value_tokens v ++ ts) ≡ false
not_ended (number_value z) good ts = refl
not_ended (string_value text) good ts = refl
not_ended (record_value fs) good ts = refl
not_ended (list_value ps) good ts = refl
not_ended (range_value from to) good ts = refl
not_ended (word_value no_factors) good ts = absurd good
not_ended (word_value (factor (named text power) fs)) good ts = refl
not_ended (word_value (factor (grouped inside power) fs)) good ts = refl

-- ---- rows of places

abbrev NotEmpty : Places → Type 0
NotEmpty no_places = ⊥
NotEmpty (place v ps) = Unit {0}
NotEmpty (empty_place ps) = Unit {0}

abbrev list_of_places : Places → List (Option Value)
list_of_places no_places = []
list_of_places (place v ps) = Some v ∷ list_of_places ps
list_of_places (empty_place ps) = None ∷ list_of_places ps

list_of_places-is : (ps : Places) → places_of (list_of_places ps) ≡ ps
list_of_places-is no_places = refl
list_of_places-is (place v ps) = ap (place v) (list_of_places-is ps)
list_of_places-is (empty_place ps) = ap empty_place (list_of_places-is ps)

-- behind a place there is the closing bracket, or a comma and the other places
abbrev after_place : Places → List Token → List Token
after_place no_places rest = close_square ∷ rest
after_place (place v ps) rest = comma ∷ (place_tokens (place v ps) ++ close_square ∷ rest)
after_place (empty_place ps) rest = comma ∷ (place_tokens (empty_place ps) ++ close_square ∷ rest)

after_place-is : (ps : Places) (rest : List Token) → more_places ps ++ close_square ∷ rest ≡ after_place ps rest
after_place-is no_places rest = refl
after_place-is (place v ps) rest = refl
after_place-is (empty_place ps) rest = refl

after_place-ends : (ps : Places) (rest : List Token) → ends_place (after_place ps rest) ≡ true
after_place-ends no_places rest = refl
after_place-ends (place v ps) rest = refl
after_place-ends (empty_place ps) rest = refl

after_place-ends_value : (ps : Places) (rest : List Token) → Ends (after_place ps rest)
after_place-ends_value no_places rest = record { no_star = refl; no_power = refl }
after_place-ends_value (place v ps) rest = record { no_star = refl; no_power = refl }
after_place-ends_value (empty_place ps) rest = record { no_star = refl; no_power = refl }

empty_found : (d : ℕ) (rest : List Token) → ends_place rest ≡ true → Finds d 0 None rest (place_with (read_value d) rest)
empty_found d rest e = found_as d 0 None rest _ _ (ap (λ b. if b then read None rest else reading_map Some (read_value d rest)) e) (refl, refl)

full_found : (v : Value) → IsValue v → (d : ℕ) (rest : List Token) → Finds d (value_nesting v) v rest (read_value d (value_tokens v ++ rest)) → Finds d (value_nesting v) (Some v) rest (place_with (read_value d) (value_tokens v ++ rest))
full_found v good d rest h =
    let tokens = value_tokens v ++ rest in
    found_as d _ (Some v) rest _ _ (ap (λ b. if b then read None tokens else reading_map Some (read_value d tokens)) (not_ended v good rest))
    (found_map d (value_nesting v) d (value_nesting v) v (Some v) rest (read_value d tokens) Some (λ x. x) refl h)

widen : {A : Type 0} (d m k : ℕ) (a : A) (rest : List Token) (reading : Reading A) → m ≤ k → Finds d m a rest reading → Finds d k a rest reading
widen d m k a rest (read found left) le h = h
widen d m k a rest (unexpected expected left) le h = h
widen d m k a rest (too_deep left) le h = omega arith

-- one place, and then the others
place_row : (p : Option Value) (spelled : List Token) (m k : ℕ) (ps : Places) (d n : ℕ) (rest : List Token) → ArePlaces ps → m ≤ k → places_nesting ps ≤ k → length (spelled ++ after_place ps rest) < n
    → Finds d m p (after_place ps rest) (place_with (read_value d) (spelled ++ after_place ps rest))
    → ((j : ℕ) → NotEmpty ps → length (place_tokens ps ++ close_square ∷ rest) < j → Finds d (places_nesting ps) (list_of_places ps) rest (joined (place_with (read_value d)) (passes_comma CloseSquare wanted.Mark) j (place_tokens ps ++ close_square ∷ rest)))
    → Finds d k (p ∷ list_of_places ps) rest (joined (place_with (read_value d)) (passes_comma CloseSquare wanted.Mark) n (spelled ++ after_place ps rest))
place_row p spelled m k no_places d n rest good le le' few here more =
    let widened : Finds d k (p ∷ []) rest (joined (place_with (read_value d)) (passes_comma CloseSquare wanted.Mark) n (spelled ++ close_square ∷ rest)) =
    widen d m k (p ∷ []) rest _ le (last_found (place_with (read_value d)) (passes_comma CloseSquare wanted.Mark) d m n p (spelled ++ close_square ∷ rest) (close_square ∷ rest) rest (omega arith) here refl) in
    widened
place_row p spelled m k (place v ps) d zero rest good le le' few here more = let never : ⊥ = omega arith in absurd never
place_row p spelled m k (place v ps) d (suc n) rest good le le' few here more =
    let others = place_tokens (place v ps) ++ close_square ∷ rest in
    let fewer : length others < n = omega (arith, length-append spelled (comma ∷ others)) in
    more_found (place_with (read_value d)) (passes_comma CloseSquare wanted.Mark) d m (places_nesting (place v ps)) k n p (list_of_places (place v ps)) _ (comma ∷ others) others rest le le' here refl (more n tt fewer)
place_row p spelled m k (empty_place ps) d zero rest good le le' few here more = let never : ⊥ = omega arith in absurd never
place_row p spelled m k (empty_place ps) d (suc n) rest good le le' few here more =
    let others = place_tokens (empty_place ps) ++ close_square ∷ rest in
    let fewer : length others < n = omega (arith, length-append spelled (comma ∷ others)) in
    more_found (place_with (read_value d)) (passes_comma CloseSquare wanted.Mark) d m (places_nesting (empty_place ps)) k n p (list_of_places (empty_place ps)) _ (comma ∷ others) others rest le le' here refl (more n tt fewer)

deeper : {A : Type 0} (d n : ℕ) (a : A) (rest : List Token) (reading : Reading A) → Finds d n a rest reading → Finds (suc d) (suc n) a rest reading
deeper d n a rest (read found left) h = h
deeper d n a rest (unexpected expected left) h = h
deeper d n a rest (too_deep left) h = omega arith

-- ---- rows of fields

abbrev HasFields : Fields → Type 0
HasFields no_fields = ⊥
HasFields (field text v fs) = Unit {0}

abbrev pub list_of_fields : Fields → List (List ℕ × Value)
list_of_fields no_fields = []
list_of_fields (field text v fs) = (text, v) ∷ list_of_fields fs

pub list_of_fields-is : (fs : Fields) → fields_from (list_of_fields fs) ≡ fs
list_of_fields-is no_fields = refl
list_of_fields-is (field text v fs) = ap (field text v) (list_of_fields-is fs)

abbrev after_field : Fields → List Token → List Token
after_field no_fields rest = close_round ∷ rest
after_field (field text v fs) rest = comma ∷ (field_tokens (field text v fs) ++ close_round ∷ rest)

after_field-is : (fs : Fields) (rest : List Token) → more_fields fs ++ close_round ∷ rest ≡ after_field fs rest
after_field-is no_fields rest = refl
after_field-is (field text v fs) rest = refl

after_field-ends : (fs : Fields) (rest : List Token) → Ends (after_field fs rest)
after_field-ends no_fields rest = record { no_star = refl; no_power = refl }
after_field-ends (field text v fs) rest = record { no_star = refl; no_power = refl }

field_row : (text : List ℕ) (v : Value) (fs : Fields) (d n : ℕ) (rest : List Token) → length (name text ∷ assign ∷ (value_tokens v ++ after_field fs rest)) < n
    → Finds d (value_nesting v) v (after_field fs rest) (read_value d (value_tokens v ++ after_field fs rest))
    → ((j : ℕ) → HasFields fs → length (field_tokens fs ++ close_round ∷ rest) < j → Finds d (fields_nesting fs) (list_of_fields fs) rest (joined (field_with (read_value d)) (passes_comma CloseRound wanted.Mark) j (field_tokens fs ++ close_round ∷ rest)))
    → Finds d (fields_nesting (field text v fs)) (list_of_fields (field text v fs)) rest (joined (field_with (read_value d)) (passes_comma CloseRound wanted.Mark) n (name text ∷ assign ∷ (value_tokens v ++ after_field fs rest)))
field_row text v no_fields d n rest few here more =
    let item : Finds d (max (value_nesting v) 0) (text, v) (close_round ∷ rest) (field_with (read_value d) (name text ∷ assign ∷ (value_tokens v ++ close_round ∷ rest))) =
    found_map d (value_nesting v) d (max (value_nesting v) 0) v (text, v) (close_round ∷ rest) (read_value d (value_tokens v ++ close_round ∷ rest)) (λ tree. (text, tree)) (λ x. omega arith) refl here in
    last_found (field_with (read_value d)) (passes_comma CloseRound wanted.Mark) d (max (value_nesting v) 0) n (text, v) _ (close_round ∷ rest) rest (omega arith) item refl
field_row text v (field t w fs) d zero rest few here more = let never : ⊥ = omega arith in absurd never
field_row text v (field t w fs) d (suc n) rest few here more =
    let others = field_tokens (field t w fs) ++ close_round ∷ rest in
    let fewer : length others < n = omega (arith, length-append (value_tokens v) (comma ∷ others)) in
    let item : Finds d (value_nesting v) (text, v) (comma ∷ others) (field_with (read_value d) (name text ∷ assign ∷ (value_tokens v ++ comma ∷ others))) =
    found_map d (value_nesting v) d (value_nesting v) v (text, v) (comma ∷ others) (read_value d (value_tokens v ++ comma ∷ others)) (λ tree. (text, tree)) (λ x. x) refl here in
    more_found (field_with (read_value d)) (passes_comma CloseRound wanted.Mark) d (value_nesting v) (fields_nesting (field t w fs)) (fields_nesting (field text v (field t w fs))) n (text, v) (list_of_fields (field t w fs)) _ (comma ∷ others) others rest (omega arith) (omega arith) item refl (more n tt fewer)

-- ---- values

range_found : (from to : ℤ) (d : ℕ) (rest : List Token) → Finds d 1 (range_value from to) rest (read_list d (number from ∷ dots ∷ number to ∷ close_square ∷ rest))
range_found from to zero rest = omega arith
range_found from to (suc d) rest = (refl, refl)

fields_of_row : (fs : Fields) (d : ℕ) (rest : List Token)
    → ((d' n : ℕ) → HasFields fs → length (field_tokens fs ++ close_round ∷ rest) < n → Finds d' (fields_nesting fs) (list_of_fields fs) rest (joined (field_with (read_value d')) (passes_comma CloseRound wanted.Mark) n (field_tokens fs ++ close_round ∷ rest)))
    → Finds d (suc (fields_nesting fs)) (list_of_fields fs) rest (read_fields d (field_tokens fs ++ close_round ∷ rest))
fields_of_row fs zero rest h = omega arith
fields_of_row no_fields (suc d) rest h = (refl, refl)
fields_of_row (field text v fs) (suc d) rest h = deeper d (fields_nesting (field text v fs)) (list_of_fields (field text v fs)) rest _ (h d _ tt (omega arith))

list_behind_found : (ps : Places) (d : ℕ) (rest : List Token) → behind CloseSquare (place_tokens ps ++ close_square ∷ rest) ≡ None → first_number (place_tokens ps ++ close_square ∷ rest) ≡ None
    → Finds d (places_nesting ps) (list_of_places ps) rest (read_places (read_value d) (place_tokens ps ++ close_square ∷ rest))
    → Finds (suc d) (suc (places_nesting ps)) (list_value ps) rest (list_with (read_value d) (place_tokens ps ++ close_square ∷ rest))
list_behind_found ps d rest e f h =
    let tokens = place_tokens ps ++ close_square ∷ rest in
    found_as (suc d) _ (list_value ps) rest _ _ (ap (λ o. list_behind (read_value d) tokens o (first_number tokens)) e ∙ ap (list_behind (read_value d) tokens None) f)
    (found_map d (places_nesting ps) (suc d) (suc (places_nesting ps)) (list_of_places ps) (list_value ps) rest _ (λ found. list_value (places_of found)) (λ x. omega arith) (ap list_value (list_of_places-is ps)) h)

-- the row of places reads these, whatever bounds how many there are
abbrev RowFound : ℕ → Places → List Token → Type 0
RowFound d ps rest =
    (n : ℕ) → NotEmpty ps → length (place_tokens ps ++ close_square ∷ rest) < n → Finds d (places_nesting ps) (list_of_places ps) rest (joined (place_with (read_value d)) (passes_comma CloseSquare wanted.Mark) n (place_tokens ps ++ close_square ∷ rest))

-- behind the number that comes first
more_numbered : (z : ℤ) (ps : Places) (d : ℕ) (rest : List Token) → NotEmpty ps → RowFound d ps rest
    → Finds (suc d) (suc (places_nesting ps)) (list_value (place (number_value z) ps)) rest (list_from (after_items (first_place (Some z)) (read_places (read_value d) (place_tokens ps ++ close_square ∷ rest))))
more_numbered z ps d rest has row =
    found_map d (places_nesting ps) (suc d) (suc (places_nesting ps)) (Some (number_value z) ∷ list_of_places ps) (list_value (place (number_value z) ps)) rest _ (λ found. list_value (places_of found)) (λ x. omega arith)
    (ap (λ qs. list_value (place (number_value z) qs)) (list_of_places-is ps))
    (found_map d (places_nesting ps) d (places_nesting ps) (list_of_places ps) (Some (number_value z) ∷ list_of_places ps) rest _ (λ items. first_place (Some z) ++ items) (λ x. x) refl (row _ has (omega arith)))

behind_number : (z : ℤ) (ps : Places) (d : ℕ) (rest : List Token) → RowFound d ps rest → Finds (suc d) (suc (places_nesting ps)) (list_value (place (number_value z) ps)) rest (number_with (read_value d) z (after_place ps rest))
behind_number z no_places d rest row = (refl, refl)
behind_number z (place v ps) d rest row = more_numbered z (place v ps) d rest tt row
behind_number z (empty_place ps) d rest row = more_numbered z (empty_place ps) d rest tt row

number_found : (z : ℤ) (ps : Places) (d : ℕ) (rest : List Token) → RowFound d ps rest
    → Finds (suc d) (suc (places_nesting (place (number_value z) ps))) (list_value (place (number_value z) ps)) rest (list_with (read_value d) (number z ∷ (more_places ps ++ close_square ∷ rest)))
number_found z ps d rest row =
    let P : ℕ → Type 0 = λ n. Finds (suc d) (suc n) (list_value (place (number_value z) ps)) rest (list_with (read_value d) (number z ∷ (more_places ps ++ close_square ∷ rest))) in
    let same : places_nesting ps ≡ max 0 (places_nesting ps) = omega arith in
    subst P same (found_as (suc d) _ (list_value (place (number_value z) ps)) rest _ _ (ap (number_with (read_value d) z) (after_place-is ps rest)) (behind_number z ps d rest row))

-- a list whose first place has a value
valued_list : (v : Value) (ps : Places) → IsValue v → (d : ℕ) (rest : List Token) → RowFound d ps rest → RowFound d (place v ps) rest
    → Finds (suc d) (suc (places_nesting (place v ps))) (list_value (place v ps)) rest (list_with (read_value d) (place_tokens (place v ps) ++ close_square ∷ rest))
valued_list (number_value z) ps good d rest more row = number_found z ps d rest more
valued_list (string_value text) ps good d rest more row = list_behind_found (place (string_value text) ps) d rest refl refl (row _ tt (omega arith))
valued_list (record_value fs) ps good d rest more row = list_behind_found (place (record_value fs) ps) d rest refl refl (row _ tt (omega arith))
valued_list (list_value qs) ps good d rest more row = list_behind_found (place (list_value qs) ps) d rest refl refl (row _ tt (omega arith))
valued_list (range_value from to) ps good d rest more row = list_behind_found (place (range_value from to) ps) d rest refl refl (row _ tt (omega arith))
valued_list (word_value no_factors) ps good d rest more row = absurd good
valued_list (word_value (factor (named text power) fs)) ps good d rest more row = list_behind_found (place (word_value (factor (named text power) fs)) ps) d rest refl refl (row _ tt (omega arith))
valued_list (word_value (factor (grouped inside power) fs)) ps good d rest more row = list_behind_found (place (word_value (factor (grouped inside power) fs)) ps) d rest refl refl (row _ tt (omega arith))

-- a list whose first place is empty
empty_list : (ps : Places) → IsPlaceList (empty_place ps) → (d : ℕ) (rest : List Token) → RowFound d (empty_place ps) rest
    → Finds (suc d) (suc (places_nesting ps)) (list_value (empty_place ps)) rest (list_with (read_value d) (place_tokens (empty_place ps) ++ close_square ∷ rest))
empty_list no_places form d rest row = absurd form
empty_list (place v ps) form d rest row = list_behind_found (empty_place (place v ps)) d rest refl refl (row _ tt (omega arith))
empty_list (empty_place ps) form d rest row = list_behind_found (empty_place (empty_place ps)) d rest refl refl (row _ tt (omega arith))

list_of_row : (ps : Places) → IsPlaceList ps → ArePlaces ps → (d : ℕ) (rest : List Token) → ((d' : ℕ) → RowFound d' ps rest) → ((d' : ℕ) (v : Value) (others : Places) → ps ≡ place v others → RowFound d' others rest)
    → Finds d (suc (places_nesting ps)) (list_value ps) rest (read_list d (place_tokens ps ++ close_square ∷ rest))
list_of_row ps form good zero rest row more = omega arith
list_of_row no_places form good (suc d) rest row more = (refl, refl)
list_of_row (place v ps) form good (suc d) rest row more = valued_list v ps good.0 d rest (more d v ps refl) (row d)
list_of_row (empty_place ps) form good (suc d) rest row more = empty_list ps form d rest (row d)

-- a row without its first place
tail_found : (v : Value) (ps : Places) (d : ℕ) (rest : List Token) → RowFound d ps rest → (w : Value) (others : Places) → place v ps ≡ place w others → RowFound d others rest
tail_found v ps d rest row w others e = let same : ps ≡ others = cc in let P : Places → Type 0 = λ qs. RowFound d qs rest in subst P same row

row_with_place : (v : Value) (ps : Places) → IsValue v → ArePlaces ps → (d n : ℕ) (rest : List Token) → length (place_tokens (place v ps) ++ close_square ∷ rest) < n
    → Finds d (value_nesting v) v (after_place ps rest) (read_value d (value_tokens v ++ after_place ps rest)) → RowFound d ps rest
    → Finds d (places_nesting (place v ps)) (list_of_places (place v ps)) rest (joined (place_with (read_value d)) (passes_comma CloseSquare wanted.Mark) n (place_tokens (place v ps) ++ close_square ∷ rest))
row_with_place v ps good others d n rest few value more =
    let split : (value_tokens v ++ more_places ps) ++ close_square ∷ rest ≡ value_tokens v ++ after_place ps rest = append_assoc (value_tokens v) (more_places ps) (close_square ∷ rest) ∙ ap (λ ts. value_tokens v ++ ts) (after_place-is ps rest) in
    found_as d _ (list_of_places (place v ps)) rest _ _ (ap (joined (place_with (read_value d)) (passes_comma CloseSquare wanted.Mark) n) split)
    (place_row (Some v) (value_tokens v) (value_nesting v) (places_nesting (place v ps)) ps d n rest others (omega arith) (omega arith) (omega (arith, ap length split)) (full_found v good d (after_place ps rest) value) more)

row_with_none : (ps : Places) → ArePlaces ps → (d n : ℕ) (rest : List Token) → length (place_tokens (empty_place ps) ++ close_square ∷ rest) < n → RowFound d ps rest
    → Finds d (places_nesting ps) (list_of_places (empty_place ps)) rest (joined (place_with (read_value d)) (passes_comma CloseSquare wanted.Mark) n (place_tokens (empty_place ps) ++ close_square ∷ rest))
row_with_none ps others d n rest few more =
    let split = after_place-is ps rest in
    found_as d _ (list_of_places (empty_place ps)) rest _ _ (ap (joined (place_with (read_value d)) (passes_comma CloseSquare wanted.Mark) n) split)
    (place_row None [] 0 (places_nesting ps) ps d n rest others (omega arith) (omega arith) (omega (arith, ap length split)) (empty_found d (after_place ps rest) (after_place-ends ps rest)) more)

as_list : (ps : Places) (d : ℕ) (rest : List Token) → Finds d (suc (places_nesting ps)) (list_value ps) rest (read_list d (place_tokens ps ++ close_square ∷ rest))
    → Finds d (suc (places_nesting ps)) (list_value ps) rest (read_value d ((open_square ∷ place_tokens ps ++ close_square ∷ []) ++ rest))
as_list ps d rest h =
    found_as d _ (list_value ps) rest _ _ (read_value_is d _) (found_as d _ (list_value ps) rest _ _ (ap (read_list d) (append_assoc (place_tokens ps) (close_square ∷ []) rest)) h)

mutual
  pub value_found : (v : Value) → IsValue v → (d : ℕ) (rest : List Token) → Ends rest → Finds d (value_nesting v) v rest (read_value d (value_tokens v ++ rest))
  value_found (number_value z) good d rest ends = found_as d 0 (number_value z) rest _ _ (read_value_is d _) (refl, refl)
  value_found (string_value text) good d rest ends = found_as d 0 (string_value text) rest _ _ (read_value_is d _) (refl, refl)
  value_found (record_value fs) good d rest ends =
      found_as d _ (record_value fs) rest _ _ (read_value_is d _)
      (found_map d (suc (fields_nesting fs)) d (suc (fields_nesting fs)) (list_of_fields fs) (record_value fs) rest (read_fields d ((field_tokens fs ++ close_round ∷ []) ++ rest)) (λ found. record_value (fields_from found)) (λ x. x) (ap record_value (list_of_fields-is fs))
      (found_as d _ (list_of_fields fs) rest _ _ (ap (read_fields d) (append_assoc (field_tokens fs) (close_round ∷ []) rest)) (fields_of_row fs d rest (λ d' n has few. row_of_fields fs good d' n rest has few))))
  value_found (list_value no_places) good d rest ends = as_list no_places d rest (list_of_row no_places good.0 good.1 d rest (λ d' n has few. absurd has) (λ d' v others e. cc))
  value_found (list_value (place v ps)) good d rest ends =
      as_list (place v ps) d rest
      (list_of_row (place v ps) good.0 good.1 d rest (λ d' n has few. row_with_place v ps good.1.0 good.1.1 d' n rest few (value_found v good.1.0 d' (after_place ps rest) (after_place-ends_value ps rest)) (λ j has' few'. row_of_places ps good.1.1 d' j rest has' few'))
      (λ d'. tail_found v ps d' rest (λ n has few. row_of_places ps good.1.1 d' n rest has few)))
  value_found (list_value (empty_place ps)) good d rest ends =
      as_list (empty_place ps) d rest
      (list_of_row (empty_place ps) good.0 good.1 d rest (λ d' n has few. row_with_none ps good.1 d' n rest few (λ j has' few'. row_of_places ps good.1 d' j rest has' few')) (λ d' v others e. cc))
  value_found (range_value from to) good d rest ends = found_as d 1 (range_value from to) rest _ _ (read_value_is d _) (range_found from to d rest)
  value_found (word_value fs) good d rest ends =
      found_as d _ (word_value fs) rest _ _ (value-word d _ (begins_word-word fs good rest)) (found_map d (word_nesting fs) d (word_nesting fs) fs (word_value fs) rest (read_word d (word_tokens fs ++ rest)) word_value (λ x. x) refl (word_found fs good d rest ends))

  row_of_fields : (fs : Fields) → AreFields fs → (d n : ℕ) (rest : List Token) → HasFields fs → length (field_tokens fs ++ close_round ∷ rest) < n
      → Finds d (fields_nesting fs) (list_of_fields fs) rest (joined (field_with (read_value d)) (passes_comma CloseRound wanted.Mark) n (field_tokens fs ++ close_round ∷ rest))
  row_of_fields no_fields good d n rest has few = absurd has
  row_of_fields (field text v fs) good d n rest has few =
      let split : (value_tokens v ++ more_fields fs) ++ close_round ∷ rest ≡ value_tokens v ++ after_field fs rest = append_assoc (value_tokens v) (more_fields fs) (close_round ∷ rest) ∙ ap (λ ts. value_tokens v ++ ts) (after_field-is fs rest) in
      found_as d _ (list_of_fields (field text v fs)) rest _ _ (ap (λ ts. joined (field_with (read_value d)) (passes_comma CloseRound wanted.Mark) n (name text ∷ assign ∷ ts)) split)
      (field_row text v fs d n rest (omega (arith, ap length split)) (value_found v good.0 d (after_field fs rest) (after_field-ends fs rest)) (λ j has' few'. row_of_fields fs good.1 d j rest has' few'))

  row_of_places : (ps : Places) → ArePlaces ps → (d n : ℕ) (rest : List Token) → NotEmpty ps → length (place_tokens ps ++ close_square ∷ rest) < n
      → Finds d (places_nesting ps) (list_of_places ps) rest (joined (place_with (read_value d)) (passes_comma CloseSquare wanted.Mark) n (place_tokens ps ++ close_square ∷ rest))
  row_of_places no_places good d n rest has few = absurd has
  row_of_places (place v ps) good d n rest has few =
      row_with_place v ps good.0 good.1 d n rest few (value_found v good.0 d (after_place ps rest) (after_place-ends_value ps rest)) (λ j has' few'. row_of_places ps good.1 d j rest has' few')
  row_of_places (empty_place ps) good d n rest has few = row_with_none ps good d n rest few (λ j has' few'. row_of_places ps good d j rest has' few')

pub fields_found : (fs : Fields) → AreFields fs → (d : ℕ) (rest : List Token) → Finds d (suc (fields_nesting fs)) (list_of_fields fs) rest (read_fields d (field_tokens fs ++ close_round ∷ rest))
fields_found fs good d rest = fields_of_row fs d rest (λ d' n has few. row_of_fields fs good d' n rest has few)

-- a list behind its open bracket
pub list_found : (ps : Places) → IsValue (list_value ps) → (d : ℕ) (rest : List Token) → Finds d (suc (places_nesting ps)) (list_value ps) rest (read_list d (place_tokens ps ++ close_square ∷ rest))
list_found no_places good d rest = list_of_row no_places good.0 good.1 d rest (λ d' n has few. absurd has) (λ d' v others e. cc)
list_found (place v ps) good d rest =
    list_of_row (place v ps) good.0 good.1 d rest (λ d' n has few. row_of_places (place v ps) good.1 d' n rest has few)
    (λ d'. tail_found v ps d' rest (λ n has few. row_of_places ps good.1.1 d' n rest has few))
list_found (empty_place ps) good d rest = list_of_row (empty_place ps) good.0 good.1 d rest (λ d' n has few. row_of_places (empty_place ps) good.1 d' n rest has few) (λ d' v others e. cc)
