-- The tokens of a printed text are those of its tree.
use Rattle.std.proofs.Common.{◌≡◌, ℕ, suc, List, [], ◌∷◌, ◌++◌, Bool, true, false, ℤ, Option, Some, None, refl, sym, subst, append_assoc, append-nil}
use Rattle.std.specs.Prelude.{codes}
use Rattle.std.specs.Fmt.{signed_decimal}
use Rattle.kb_lexing.specs.Token.{Token, name, number, assign, open_round, close_round, open_square, close_square, comma, semicolon, star, caret, dots, rec_word}
use Rattle.kb_record.specs.Tree.{Factor, named, grouped, Factors, no_factors, factor, Value, number_value, string_value, record_value, list_value, range_value, word_value, Fields, no_fields, field, Places, no_places, place, empty_place, TextTree}
use Rattle.kb_record.specs.Grammar.{power_tokens, word_tokens, factor_tokens, more_factors, value_tokens, field_tokens, more_fields, place_tokens, more_places}
use Rattle.kb_lexing.specs.Spelling.{IsName, TokensOf}
use Rattle.kb_layout.specs.Layout.{power_text, word_text, factor_text, more_factors_text, line_of, line_of_fields, line_of_more_fields, line_of_places, line_of_more_places, are_lists, is_table, indent, lines_of_places, text_of_value, text_of_fields, end_of_field, printed, IsShortPower, IsSpelledWord, IsSpelledFactor, IsSpelledValue, AreSpelledFields, AreSpelledPlaces}
use Rattle.kb_layout.proofs.TokenTexts.{EndsToken, Lexes, Closes, nothing, weaker, closed_closed, closed_then, then_closed, then_more, name_text, number_text, string_text, open_round_text, close_round_text, open_square_text, close_square_text, comma_text, semicolon_text, star_text, caret_text, newline_text, assign_text, rec_text, range_text, indent_text}
use Rattle.kb_layout.proofs.PrintedPieces.{lists_behind}

-- ---- words

power_lexes : (power : Option ℤ) → IsShortPower power → Lexes (power_text power) (power_tokens power)
power_lexes None short = weaker [] [] nothing
power_lexes (Some z) short = closed_then (codes "^") (signed_decimal z) (caret ∷ []) (number z ∷ []) caret_text (number_text z short)

power_ends : (power : Option ℤ) (rest : List ℕ) → EndsToken rest → EndsToken (power_text power ++ rest)
power_ends None rest ends = ends
power_ends (Some z) rest ends = refl

more_factors_end : (factors : Factors) (rest : List ℕ) → EndsToken rest → EndsToken (more_factors_text factors ++ rest)
more_factors_end no_factors rest ends = ends
more_factors_end (factor next others) rest ends = refl

mutual
  word_lexes : (factors : Factors) → IsSpelledWord factors → Lexes (word_text factors) (word_tokens factors)
  word_lexes no_factors spelled = weaker [] [] nothing
  word_lexes (factor first others) spelled =
      then_more (factor_text first) (more_factors_text others) (factor_tokens first) (more_factors others) (factor_lexes first spelled.0) (more_factors_end others) (more_factors_lex others spelled.1)

  factor_lexes : (f : Factor) → IsSpelledFactor f → Lexes (factor_text f) (factor_tokens f)
  factor_lexes (named text power) spelled =
      then_more text (power_text power) (name text ∷ []) (power_tokens power) (name_text text spelled.0) (power_ends power) (power_lexes power spelled.1)
  factor_lexes (grouped factors power) spelled =
      let inside = closed_then (codes "(") (word_text factors) (open_round ∷ []) (word_tokens factors) open_round_text (word_lexes factors spelled.0) in
      let group = then_closed (codes "(" ++ word_text factors) (codes ")") (open_round ∷ word_tokens factors) (close_round ∷ []) inside (λ rest. refl) close_round_text in
      let whole = closed_then (codes "(" ++ word_text factors ++ codes ")") (power_text power) ((open_round ∷ word_tokens factors) ++ close_round ∷ []) (power_tokens power) group (power_lexes power spelled.1) in
      subst (Lexes (factor_text (grouped factors power))) (append_assoc (open_round ∷ word_tokens factors) (close_round ∷ []) (power_tokens power)) whole

  more_factors_lex : (factors : Factors) → IsSpelledWord factors → Lexes (more_factors_text factors) (more_factors factors)
  more_factors_lex no_factors spelled = weaker [] [] nothing
  more_factors_lex (factor next others) spelled =
      closed_then (codes "*") (factor_text next ++ more_factors_text others) (star ∷ []) (factor_tokens next ++ more_factors others) star_text
      (then_more (factor_text next) (more_factors_text others) (factor_tokens next) (more_factors others) (factor_lexes next spelled.0) (more_factors_end others) (more_factors_lex others spelled.1))

-- ---- values on one line

-- a name, `:=` and a value
field_lexes : (text before : List ℕ) (tokens : List Token) → IsName text → Lexes before tokens → Lexes (text ++ codes " := " ++ before) (name text ∷ assign ∷ tokens)
field_lexes text before tokens is_name h =
    closed_then (text ++ codes " := ") before (name text ∷ assign ∷ []) tokens
    (then_closed text (codes " := ") (name text ∷ []) (assign ∷ []) (name_text text is_name) (λ rest. refl) assign_text) h

more_fields_end : (fields : Fields) (rest : List ℕ) → EndsToken rest → EndsToken (line_of_more_fields fields ++ rest)
more_fields_end no_fields rest ends = ends
more_fields_end (field text value others) rest ends = refl

more_places_end : (places : Places) (rest : List ℕ) → EndsToken rest → EndsToken (line_of_more_places places ++ rest)
more_places_end no_places rest ends = ends
more_places_end (place value others) rest ends = refl
more_places_end (empty_place others) rest ends = refl

mutual
  line_lexes : (value : Value) → IsSpelledValue value → Lexes (line_of value) (value_tokens value)
  line_lexes (number_value z) spelled = number_text z spelled
  line_lexes (string_value text) spelled = weaker _ _ (string_text text spelled)
  line_lexes (record_value fields) spelled =
      weaker _ _ (then_closed (codes "rec(" ++ line_of_fields fields) (codes ")") (rec_word ∷ open_round ∷ field_tokens fields) (close_round ∷ [])
      (closed_then (codes "rec(") (line_of_fields fields) (rec_word ∷ open_round ∷ []) (field_tokens fields) rec_text (fields_lex fields spelled)) (λ rest. refl) close_round_text)
  line_lexes (list_value places) spelled =
      weaker _ _ (then_closed (codes "[" ++ line_of_places places) (codes "]") (open_square ∷ place_tokens places) (close_square ∷ [])
      (closed_then (codes "[") (line_of_places places) (open_square ∷ []) (place_tokens places) open_square_text (places_lex places spelled)) (λ rest. refl) close_square_text)
  line_lexes (range_value from to) spelled =
      let begun = closed_closed (codes "[") (signed_decimal from ++ codes "..") (open_square ∷ []) (number from ∷ dots ∷ []) open_square_text (range_text from spelled.0) in
      weaker _ _ (then_closed (codes "[" ++ signed_decimal from ++ codes ".." ++ signed_decimal to) (codes "]") (open_square ∷ number from ∷ dots ∷ number to ∷ []) (close_square ∷ [])
      (closed_then (codes "[" ++ signed_decimal from ++ codes "..") (signed_decimal to) (open_square ∷ number from ∷ dots ∷ []) (number to ∷ []) begun (number_text to spelled.1)) (λ rest. refl) close_square_text)
  line_lexes (word_value factors) spelled = word_lexes factors spelled

  fields_lex : (fields : Fields) → AreSpelledFields fields → Lexes (line_of_fields fields) (field_tokens fields)
  fields_lex no_fields spelled = weaker [] [] nothing
  fields_lex (field text value others) spelled =
      then_more (text ++ codes " := " ++ line_of value) (line_of_more_fields others) (name text ∷ assign ∷ value_tokens value) (more_fields others)
      (field_lexes text (line_of value) (value_tokens value) spelled.0 (line_lexes value spelled.1)) (more_fields_end others) (more_fields_lex others spelled.2)

  more_fields_lex : (fields : Fields) → AreSpelledFields fields → Lexes (line_of_more_fields fields) (more_fields fields)
  more_fields_lex no_fields spelled = weaker [] [] nothing
  more_fields_lex (field text value others) spelled =
      closed_then (codes ",") (text ++ codes " := " ++ line_of value ++ line_of_more_fields others) (comma ∷ []) (name text ∷ assign ∷ value_tokens value ++ more_fields others) comma_text
      (then_more (text ++ codes " := " ++ line_of value) (line_of_more_fields others) (name text ∷ assign ∷ value_tokens value) (more_fields others)
      (field_lexes text (line_of value) (value_tokens value) spelled.0 (line_lexes value spelled.1)) (more_fields_end others) (more_fields_lex others spelled.2))

  places_lex : (places : Places) → AreSpelledPlaces places → Lexes (line_of_places places) (place_tokens places)
  places_lex no_places spelled = weaker [] [] nothing
  places_lex (place value others) spelled =
      then_more (line_of value) (line_of_more_places others) (value_tokens value) (more_places others) (line_lexes value spelled.0) (more_places_end others) (more_places_lex others spelled.1)
  places_lex (empty_place others) spelled = more_places_lex others spelled

  more_places_lex : (places : Places) → AreSpelledPlaces places → Lexes (line_of_more_places places) (more_places places)
  more_places_lex no_places spelled = weaker [] [] nothing
  more_places_lex (place value others) spelled =
      closed_then (codes ",") (line_of value ++ line_of_more_places others) (comma ∷ []) (value_tokens value ++ more_places others) comma_text
      (then_more (line_of value) (line_of_more_places others) (value_tokens value) (more_places others) (line_lexes value spelled.0) (more_places_end others) (more_places_lex others spelled.1))
  more_places_lex (empty_place others) spelled =
      closed_then (codes ",") (line_of_more_places others) (comma ∷ []) (more_places others) comma_text (more_places_lex others spelled)

-- ---- values at a level

-- what ends a line, and the lines behind it
ended : (text ending lines : List ℕ) (tokens others : List Token) → Lexes text tokens → ((rest : List ℕ) → EndsToken (ending ++ lines ++ rest)) → Closes (ending ++ lines) others
    → Closes (text ++ ending ++ lines) (tokens ++ others)
ended text ending lines tokens others h ends k =
    subst (λ t. Closes t (tokens ++ others)) (sym (append_assoc text ending lines)) (then_closed text (ending ++ lines) tokens others h ends k)

-- a closing bracket on a line of its own
bracket_below : (level : ℕ) (text bracket : List ℕ) (tokens closing : List Token) → Closes text tokens → Closes bracket closing → Closes (text ++ indent level ++ bracket) (tokens ++ closing)
bracket_below level text bracket tokens closing h k =
    subst (λ t. Closes t (tokens ++ closing)) (sym (append_assoc text (indent level) bracket))
    (closed_closed text (indent level ++ bracket) tokens closing h (closed_closed (indent level) bracket [] closing (indent_text level) k))

comma_newline : Closes (codes ",\n") (comma ∷ [])
comma_newline = closed_closed (codes ",") (codes "\n") (comma ∷ []) [] comma_text newline_text

rows_close : (level : ℕ) (places : Places) → are_lists places ≡ true → AreSpelledPlaces places → Closes (lines_of_places level places) (place_tokens places)
rows_close level no_places e spelled = nothing
rows_close level (empty_place others) e spelled = absurd cc
rows_close level (place value no_places) e spelled =
    then_closed (indent level ++ line_of value) (codes "\n") (value_tokens value) []
    (closed_then (indent level) (line_of value) [] (value_tokens value) (indent_text level) (line_lexes value spelled.0)) (λ rest. refl) newline_text
rows_close level (place value (empty_place others)) e spelled = let none = lists_behind value (empty_place others) e in absurd cc
rows_close level (place value (place next others)) e spelled =
    let lines = lines_of_places level (place next others) in
    ended (indent level ++ line_of value) (codes ",\n") lines (value_tokens value) (more_places (place next others))
    (closed_then (indent level) (line_of value) [] (value_tokens value) (indent_text level) (line_lexes value spelled.0)) (λ rest. refl)
    (closed_closed (codes ",\n") lines (comma ∷ []) (place_tokens (place next others)) comma_newline
    (rows_close level (place next others) (lists_behind value (place next others) e) spelled.1))

list_lexes : (level : ℕ) (places : Places) (table : Bool) → is_table places ≡ table → AreSpelledPlaces places → Lexes (text_of_value level (list_value places)) (value_tokens (list_value places))
list_lexes level places false e spelled = rw e (line_lexes (list_value places) spelled)
list_lexes level places true e spelled =
    rw e (weaker _ _ (bracket_below level (codes "[\n" ++ lines_of_places (suc level) places) (codes "]") (open_square ∷ place_tokens places) (close_square ∷ [])
    (closed_closed (codes "[\n") (lines_of_places (suc level) places) (open_square ∷ []) (place_tokens places)
    (closed_closed (codes "[") (codes "\n") (open_square ∷ []) [] open_square_text newline_text) (rows_close (suc level) places (each places e) spelled)) close_square_text))
  where
    each : (places : Places) → is_table places ≡ true → are_lists places ≡ true
    each no_places h = absurd cc
    each (place value others) h = h
    each (empty_place others) h = h

end_of_field_ends : (level : ℕ) (others : Fields) (rest : List ℕ) → EndsToken (end_of_field others ++ text_of_fields level others ++ rest)
end_of_field_ends level no_fields rest = refl
end_of_field_ends level (field text value others) rest = refl

lines_behind : (level : ℕ) (others : Fields) → Closes (text_of_fields level others) (field_tokens others) → Closes (end_of_field others ++ text_of_fields level others) (more_fields others)
lines_behind level no_fields h = newline_text
lines_behind level (field text value others) h =
    closed_closed (codes ",\n") (text_of_fields level (field text value others)) (comma ∷ []) (field_tokens (field text value others)) comma_newline h

mutual
  value_lexes : (level : ℕ) (value : Value) → IsSpelledValue value → Lexes (text_of_value level value) (value_tokens value)
  value_lexes level (record_value fields) spelled =
      let lines = text_of_fields (suc level) fields in
      weaker _ _ (bracket_below level (codes "rec(\n" ++ lines) (codes ")") (rec_word ∷ open_round ∷ field_tokens fields) (close_round ∷ [])
      (closed_closed (codes "rec(\n") lines (rec_word ∷ open_round ∷ []) (field_tokens fields)
      (closed_closed (codes "rec(") (codes "\n") (rec_word ∷ open_round ∷ []) [] rec_text newline_text) (fields_close (suc level) fields spelled)) close_round_text)
  value_lexes level (list_value places) spelled = list_lexes level places (is_table places) refl spelled
  value_lexes level (number_value z) spelled = line_lexes (number_value z) spelled
  value_lexes level (string_value text) spelled = line_lexes (string_value text) spelled
  value_lexes level (range_value from to) spelled = line_lexes (range_value from to) spelled
  value_lexes level (word_value factors) spelled = line_lexes (word_value factors) spelled

  fields_close : (level : ℕ) (fields : Fields) → AreSpelledFields fields → Closes (text_of_fields level fields) (field_tokens fields)
  fields_close level no_fields spelled = nothing
  fields_close level (field text value others) spelled =
      let begun = then_closed (indent level ++ text) (codes " := ") (name text ∷ []) (assign ∷ []) (closed_then (indent level) text [] (name text ∷ []) (indent_text level) (name_text text spelled.0)) (λ rest. refl) assign_text in
      let line = closed_then (indent level ++ text ++ codes " := ") (text_of_value level value) (name text ∷ assign ∷ []) (value_tokens value) begun (value_lexes level value spelled.1) in
      ended (indent level ++ text ++ codes " := " ++ text_of_value level value) (end_of_field others) (text_of_fields level others) (name text ∷ assign ∷ value_tokens value) (more_fields others)
      line (end_of_field_ends level others) (lines_behind level others (fields_close level others spelled.2))

-- ---- texts

pub text_tokens : (text : TextTree) → IsName text.title → AreSpelledFields text.fields → TokensOf (printed text) (name text.title ∷ assign ∷ value_tokens (record_value text.fields) ++ semicolon ∷ [])
text_tokens text is_name spelled =
    let tree = record_value text.fields in
    let tokens = name text.title ∷ assign ∷ value_tokens tree in
    let closes = then_closed (text.title ++ codes " := " ++ text_of_value 0 tree) (codes ";\n") tokens (semicolon ∷ [])
    (field_lexes text.title (text_of_value 0 tree) (value_tokens tree) is_name (value_lexes 0 tree spelled)) (λ rest. refl)
    (closed_closed (codes ";") (codes "\n") (semicolon ∷ []) [] semicolon_text newline_text) in
    let whole : TokensOf (printed text ++ []) ((tokens ++ semicolon ∷ []) ++ []) = closes.reads [] [] refl in
    subst (λ ts. TokensOf (printed text) ts) (append-nil (tokens ++ semicolon ∷ [])) (subst (λ bs. TokensOf bs ((tokens ++ semicolon ∷ []) ++ [])) (append-nil (printed text)) whole)
