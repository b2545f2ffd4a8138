-- The trees of texts have names, numbers and strings that can be spelled.
use Rattle.std.proofs.Common.{◌≡◌, ℕ, ◌⊎◌, inl, inr, ℤ, List, [], ◌∷◌, ◌++◌, Option, Some, None, subst}
use Rattle.std.specs.List.{AllByRecursion}
use Rattle.kb_lexing.specs.Token.{Token, name, number, string, assign, open_round, close_round, open_square, close_square, comma, semicolon, star, caret, dots, rec_word}
use Rattle.kb_record.specs.Tree.{Factor, named, grouped, Factors, no_factors, factor, Value, number_value, string_value, record_value, list_value, range_value, word_value, Fields, no_fields, field, Places, no_places, place, empty_place, TextTree}
use Rattle.kb_record.specs.Grammar.{power_tokens, word_tokens, factor_tokens, more_factors, value_tokens, field_tokens, more_fields, place_tokens, more_places, IsText}
use Rattle.kb_lexing.specs.Spelling.{IsName, IsStringByte, Spells, TokensOf}
use Rattle.kb_layout.specs.Layout.{IsShortNumber, IsShortPower, IsSpelledWord, IsSpelledFactor, IsSpelledValue, AreSpelledFields, AreSpelledPlaces}
use Rattle.kb_layout.proofs.Numerals.{number_short}

-- some bytes spell the token
abbrev IsSpellable : Token → Type 0
IsSpellable (name text) = IsName text
IsSpellable (number z) = IsShortNumber z
IsSpellable (string text) = AllByRecursion IsStringByte text
IsSpellable _ = Unit {0}

spellable : (token : Token) (bytes : List ℕ) → Spells token bytes → IsSpellable token
spellable (name text) bytes h = h.1
spellable (number z) bytes h = number_short bytes z h
spellable (string text) bytes h = h.1
spellable assign bytes h = tt
spellable open_round bytes h = tt
spellable close_round bytes h = tt
spellable open_square bytes h = tt
spellable close_square bytes h = tt
spellable comma bytes h = tt
spellable semicolon bytes h = tt
spellable star bytes h = tt
spellable caret bytes h = tt
spellable dots bytes h = tt
spellable rec_word bytes h = tt

all_spellable : (bytes : List ℕ) (tokens : List Token) → TokensOf bytes tokens → AllByRecursion IsSpellable tokens
all_spellable bytes [] h = tt
all_spellable bytes (token ∷ tokens) h = (spellable token h.1.spelling h.1.spelled, all_spellable h.0 tokens h.2)

split : (xs ys : List Token) → AllByRecursion IsSpellable (xs ++ ys) → AllByRecursion IsSpellable xs × AllByRecursion IsSpellable ys
split [] ys h = (tt, h)
split (x ∷ xs) ys h = let more = split xs ys h.1 in ((h.0, more.0), more.1)

power_spelled : (power : Option ℤ) → AllByRecursion IsSpellable (power_tokens power) → IsShortPower power
power_spelled None h = tt
power_spelled (Some z) h = h.1.0

mutual
  word_spelled : (factors : Factors) → AllByRecursion IsSpellable (word_tokens factors) → IsSpelledWord factors
  word_spelled no_factors h = tt
  word_spelled (factor first others) h =
      let parts = split (factor_tokens first) (more_factors others) h in
      (factor_spelled first parts.0, more_factors_spelled others parts.1)

  factor_spelled : (f : Factor) → AllByRecursion IsSpellable (factor_tokens f) → IsSpelledFactor f
  factor_spelled (named text power) h = (h.0, power_spelled power h.1)
  factor_spelled (grouped factors power) h =
      let parts = split (word_tokens factors) (close_round ∷ power_tokens power) h.1 in
      (word_spelled factors parts.0, power_spelled power parts.1.1)

  more_factors_spelled : (factors : Factors) → AllByRecursion IsSpellable (more_factors factors) → IsSpelledWord factors
  more_factors_spelled no_factors h = tt
  more_factors_spelled (factor next others) h =
      let parts = split (factor_tokens next) (more_factors others) h.1 in
      (factor_spelled next parts.0, more_factors_spelled others parts.1)

mutual
  value_spelled : (value : Value) → AllByRecursion IsSpellable (value_tokens value) → IsSpelledValue value
  value_spelled (number_value z) h = h.0
  value_spelled (string_value text) h = h.0
  value_spelled (record_value fields) h = fields_spelled fields (split (field_tokens fields) (close_round ∷ []) h.1.1).0
  value_spelled (list_value places) h = places_spelled places (split (place_tokens places) (close_square ∷ []) h.1).0
  value_spelled (range_value from to) h = (h.1.0, h.1.1.1.0)
  value_spelled (word_value factors) h = word_spelled factors h

  fields_spelled : (fields : Fields) → AllByRecursion IsSpellable (field_tokens fields) → AreSpelledFields fields
  fields_spelled no_fields h = tt
  fields_spelled (field text value others) h =
      let parts = split (value_tokens value) (more_fields others) h.1.1 in
      (h.0, value_spelled value parts.0, more_fields_spelled others parts.1)

  more_fields_spelled : (fields : Fields) → AllByRecursion IsSpellable (more_fields fields) → AreSpelledFields fields
  more_fields_spelled no_fields h = tt
  more_fields_spelled (field text value others) h =
      let parts = split (value_tokens value) (more_fields others) h.1.1.1 in
      (h.1.0, value_spelled value parts.0, more_fields_spelled others parts.1)

  places_spelled : (places : Places) → AllByRecursion IsSpellable (place_tokens places) → AreSpelledPlaces places
  places_spelled no_places h = tt
  places_spelled (place value others) h =
      let parts = split (value_tokens value) (more_places others) h in
      (value_spelled value parts.0, more_places_spelled others parts.1)
  places_spelled (empty_place others) h = more_places_spelled others h

  more_places_spelled : (places : Places) → AllByRecursion IsSpellable (more_places places) → AreSpelledPlaces places
  more_places_spelled no_places h = tt
  more_places_spelled (place value others) h =
      let parts = split (value_tokens value) (more_places others) h.1 in
      (value_spelled value parts.0, more_places_spelled others parts.1)
  more_places_spelled (empty_place others) h = more_places_spelled others h.1

whole_spelled : (tokens : List Token) (text : TextTree) → AllByRecursion IsSpellable tokens
    → ((tokens ≡ name text.title ∷ assign ∷ value_tokens (record_value text.fields)) ⊎ (tokens ≡ name text.title ∷ assign ∷ value_tokens (record_value text.fields) ++ semicolon ∷ []))
    → IsName text.title × AreSpelledFields text.fields
whole_spelled tokens text h (inl e) =
    let all = subst (AllByRecursion IsSpellable) e h in
    (all.0, value_spelled (record_value text.fields) all.1.1)
whole_spelled tokens text h (inr e) =
    let all = (split (name text.title ∷ assign ∷ value_tokens (record_value text.fields)) (semicolon ∷ []) (subst (AllByRecursion IsSpellable) e h)).0 in
    (all.0, value_spelled (record_value text.fields) all.1.1)

pub text_spelled : (bytes : List ℕ) (tokens : List Token) (text : TextTree) → TokensOf bytes tokens → IsText tokens text → IsName text.title × AreSpelledFields text.fields
text_spelled bytes tokens text h formed = whole_spelled tokens text (all_spellable bytes tokens h) formed.1
