-- The one printed text of a record.
use Rattle.std.specs.Prelude.{ℕ, suc, ◌<◌, ◌*◌, ◌^◌, Bool, true, false, if◌then◌else◌, ℤ, nat_abs, List, [], ◌++◌, replicate, codes, Option, Some, None}
use Rattle.std.specs.List.{AllByRecursion}
use Rattle.std.specs.Fmt.{signed_decimal}
use Rattle.kb_lexing.specs.Spelling.{IsName, IsStringByte}
use Rattle.kb_record.specs.Tree.{Factor, named, grouped, Factors, no_factors, factor, Value, number_value, string_value, record_value, list_value, range_value, word_value, Fields, no_fields, field, Places, no_places, place, empty_place, TextTree}

abbrev pub power_text : Option ℤ → List ℕ
power_text None = []
power_text (Some z) = codes "^" ++ signed_decimal z

-- factors joined by `*`, without blanks
abbrev mutual
  pub word_text : Factors → List ℕ
  word_text no_factors = []
  word_text (factor first others) = factor_text first ++ more_factors_text others

  pub factor_text : Factor → List ℕ
  factor_text (named text power) = text ++ power_text power
  factor_text (grouped factors power) =
      codes "(" ++ word_text factors ++ codes ")" ++ power_text power

  pub more_factors_text : Factors → List ℕ
  more_factors_text no_factors = []
  more_factors_text (factor next others) = codes "*" ++ factor_text next ++ more_factors_text others

-- a value on one line: what is joined by `,` has no blanks there
abbrev mutual
  pub line_of : Value → List ℕ
  line_of (number_value z) = signed_decimal z
  line_of (string_value text) = codes "\"" ++ text ++ codes "\""
  line_of (record_value fields) = codes "rec(" ++ line_of_fields fields ++ codes ")"
  line_of (list_value places) = codes "[" ++ line_of_places places ++ codes "]"
  line_of (range_value from to) =
      codes "[" ++ signed_decimal from ++ codes ".." ++ signed_decimal to ++ codes "]"
  line_of (word_value factors) = word_text factors

  pub line_of_fields : Fields → List ℕ
  line_of_fields no_fields = []
  line_of_fields (field text value others) =
      text ++ codes " := " ++ line_of value ++ line_of_more_fields others

  pub line_of_more_fields : Fields → List ℕ
  line_of_more_fields no_fields = []
  line_of_more_fields (field text value others) =
      codes "," ++ text ++ codes " := " ++ line_of value ++ line_of_more_fields others

  pub line_of_places : Places → List ℕ
  line_of_places no_places = []
  line_of_places (place value others) = line_of value ++ line_of_more_places others
  line_of_places (empty_place others) = line_of_more_places others

  pub line_of_more_places : Places → List ℕ
  line_of_more_places no_places = []
  line_of_more_places (place value others) =
      codes "," ++ line_of value ++ line_of_more_places others
  line_of_more_places (empty_place others) = codes "," ++ line_of_more_places others

-- each place holds a list
abbrev pub are_lists : Places → Bool
are_lists no_places = true
are_lists (place (list_value _) others) = are_lists others
are_lists _ = false

-- there is a place, and each holds a list
abbrev pub is_table : Places → Bool
is_table no_places = false
is_table places = are_lists places

-- two blanks for each level
abbrev pub indent : ℕ → List ℕ
indent level = replicate (2 * level) 32

-- the places of a table, each on a line of its own
abbrev pub lines_of_places : ℕ → Places → List ℕ
lines_of_places level no_places = []
lines_of_places level (place value no_places) = indent level ++ line_of value ++ codes "\n"
lines_of_places level (place value others) =
    indent level ++ line_of value ++ codes ",\n" ++ lines_of_places level others
lines_of_places level (empty_place others) = lines_of_places level others

-- A value behind `:=` at a level: a record has a line for each of its fields, a list of lists one
-- for each of its places.
abbrev mutual
  pub text_of_value : ℕ → Value → List ℕ
  text_of_value level (record_value fields) =
      codes "rec(\n" ++ text_of_fields (suc level) fields ++ indent level ++ codes ")"
  text_of_value level (list_value places) =
      if is_table places then codes "[\n" ++ lines_of_places (suc level) places ++ indent level
      ++ codes "]" else line_of (list_value places)
  text_of_value level (number_value z) = line_of (number_value z)
  text_of_value level (string_value text) = line_of (string_value text)
  text_of_value level (range_value from to) = line_of (range_value from to)
  text_of_value level (word_value factors) = line_of (word_value factors)

  pub text_of_fields : ℕ → Fields → List ℕ
  text_of_fields level no_fields = []
  text_of_fields level (field text value others) =
      indent level ++ text ++ codes " := " ++ text_of_value level value ++ end_of_field others
      ++ text_of_fields level others

  pub end_of_field : Fields → List ℕ
  end_of_field no_fields = codes "\n"
  end_of_field (field text value others) = codes ",\n"

-- NAME := rec( FIELDS ); with a newline behind it
abbrev pub printed : TextTree → List ℕ
printed text =
    text.title ++ codes " := " ++ text_of_value 0 (record_value text.fields) ++ codes ";\n"

-- the number has at most 18 digits
abbrev pub IsShortNumber : ℤ → Type 0
IsShortNumber z = nat_abs z < 10 ^ 18

abbrev pub IsShortPower : Option ℤ → Type 0
IsShortPower None = Unit {0}
IsShortPower (Some z) = IsShortNumber z

-- names are names, and numbers have at most 18 digits
abbrev mutual
  pub IsSpelledWord : Factors → Type 0
  IsSpelledWord no_factors = Unit {0}
  IsSpelledWord (factor first others) = IsSpelledFactor first × IsSpelledWord others

  pub IsSpelledFactor : Factor → Type 0
  IsSpelledFactor (named text power) = IsName text × IsShortPower power
  IsSpelledFactor (grouped factors power) = IsSpelledWord factors × IsShortPower power

-- and strings have string bytes alone
abbrev mutual
  pub IsSpelledValue : Value → Type 0
  IsSpelledValue (number_value z) = IsShortNumber z
  IsSpelledValue (string_value text) = AllByRecursion IsStringByte text
  IsSpelledValue (record_value fields) = AreSpelledFields fields
  IsSpelledValue (list_value places) = AreSpelledPlaces places
  IsSpelledValue (range_value from to) = IsShortNumber from × IsShortNumber to
  IsSpelledValue (word_value factors) = IsSpelledWord factors

  pub AreSpelledFields : Fields → Type 0
  AreSpelledFields no_fields = Unit {0}
  AreSpelledFields (field text value others) =
      IsName text × IsSpelledValue value × AreSpelledFields others

  pub AreSpelledPlaces : Places → Type 0
  AreSpelledPlaces no_places = Unit {0}
  AreSpelledPlaces (place value others) = IsSpelledValue value × AreSpelledPlaces others
  AreSpelledPlaces (empty_place others) = AreSpelledPlaces others
