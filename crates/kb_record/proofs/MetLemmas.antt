-- The names that a pass over the tokens of a value meets are those of its fields.
use Rattle.std.proofs.Common.{◌≡◌, ℕ, ℤ, List, [], ◌∷◌, ◌++◌, Bool, true, false, Option, Some, None, refl, sym, ap, ◌∙◌, append_assoc, append-nil}
use Rattle.kb_lexing.specs.Token.{Token, name, number, assign, open_round, close_round, close_square, dots, rec_word}
use Rattle.kb_record.specs.Tree.{Factor, named, grouped, Factors, no_factors, factor, Value, number_value, string_value, record_value, list_value, range_value, word_value, Fields, no_fields, field, Places, no_places, place, empty_place}
use Rattle.kb_record.specs.Grammar.{power_tokens, word_tokens, factor_tokens, more_factors, value_tokens, field_tokens, more_fields, place_tokens, more_places, IsValue}
use Rattle.kb_record.specs.Reading.{behind, begins_word}
use Rattle.kb_record.specs.declared.cursor.Mark.TheVariants.{Assign, OpenRound}
use Rattle.kb_record.specs.Repeats.{Naming, namings, namings_behind, namings_in}
use Rattle.kb_record.specs.NamesMet.{Bracket, opened, closed, names_met, opening}
use Rattle.kb_record.proofs.PlaceTexts.{begins_word-word}

-- a name without `:=` behind it is no field's
pub no_field : (text : List ℕ) (ts : List Token) (f : Bracket) (fs : List Bracket) → behind Assign ts ≡ None → names_met (name text ∷ ts) f fs ≡ names_met ts f fs
no_field text [] f fs e = refl
no_field text (assign ∷ ts) f fs e = cc
no_field text (_ ∷ ts) f fs e = refl

-- a `rec` without a bracket behind it opens none
pub no_record : (ts : List Token) (f : Bracket) (fs : List Bracket) → behind OpenRound ts ≡ None → names_met (rec_word ∷ ts) f fs ≡ names_met ts f fs
no_record [] f fs e = refl
no_record (open_round ∷ ts) f fs e = cc
no_record (_ ∷ ts) f fs e = refl

-- what is met in tokens and in those behind them
both_met : (first others rest : List Token) (ns ms end : List Naming) (f : Bracket) (fs : List Bracket)
    → names_met (first ++ (others ++ rest)) f fs ≡ ns ++ names_met (others ++ rest) f fs → names_met (others ++ rest) f fs ≡ ms ++ end
    → names_met ((first ++ others) ++ rest) f fs ≡ (ns ++ ms) ++ end
both_met first others rest ns ms end f fs e h =
    ap (λ us. names_met us f fs) (append_assoc first others rest) ∙ e ∙ ap (λ xs. ns ++ xs) h ∙ sym (append_assoc ns ms end)

-- ---- words have no fields

plain_more : (others : Factors) (ts : List Token) → behind Assign ts ≡ None → behind Assign (more_factors others ++ ts) ≡ None
plain_more no_factors ts e = e
plain_more (factor next others) ts e = refl

power_met : (power : Option ℤ) (ts : List Token) (f : Bracket) (fs : List Bracket) → names_met (power_tokens power ++ ts) f fs ≡ names_met ts f fs
power_met None ts f fs = refl
power_met (Some z) ts f fs = refl

mutual
  word_met : (word : Factors) (ts : List Token) (f : Bracket) (fs : List Bracket) → behind Assign ts ≡ None → names_met (word_tokens word ++ ts) f fs ≡ names_met ts f fs
  word_met no_factors ts f fs e = refl
  word_met (factor first others) ts f fs e =
      ap (λ us. names_met us f fs) (append_assoc (factor_tokens first) (more_factors others) ts)
      ∙ factor_met first (more_factors others ++ ts) f fs (plain_more others ts e) ∙ more_met others ts f fs e

  factor_met : (x : Factor) (ts : List Token) (f : Bracket) (fs : List Bracket) → behind Assign ts ≡ None → names_met (factor_tokens x ++ ts) f fs ≡ names_met ts f fs
  factor_met (named text None) ts f fs e = no_field text ts f fs e
  factor_met (named text (Some z)) ts f fs e = refl
  factor_met (grouped word power) ts f fs e =
      ap (λ us. names_met us None (f ∷ fs)) (append_assoc (word_tokens word) (close_round ∷ power_tokens power) ts)
      ∙ word_met word (close_round ∷ (power_tokens power ++ ts)) None (f ∷ fs) refl ∙ power_met power ts f fs

  more_met : (others : Factors) (ts : List Token) (f : Bracket) (fs : List Bracket) → behind Assign ts ≡ None → names_met (more_factors others ++ ts) f fs ≡ names_met ts f fs
  more_met no_factors ts f fs e = refl
  more_met (factor next others) ts f fs e =
      ap (λ us. names_met us f fs) (append_assoc (factor_tokens next) (more_factors others) ts)
      ∙ factor_met next (more_factors others ++ ts) f fs (plain_more others ts e) ∙ more_met others ts f fs e

-- ---- values

plain_fields : (others : Fields) (ts : List Token) → behind Assign (more_fields others ++ close_round ∷ ts) ≡ None
plain_fields no_fields ts = refl
plain_fields (field text value others) ts = refl

plain_places : (others : Places) (ts : List Token) → behind Assign (more_places others ++ close_square ∷ ts) ≡ None
plain_places no_places ts = refl
plain_places (place value others) ts = refl
plain_places (empty_place others) ts = refl

mutual
  pub value_met : (v : Value) (ts : List Token) (f : Bracket) (fs : List Bracket) → behind Assign ts ≡ None → names_met (value_tokens v ++ ts) f fs ≡ namings v ++ names_met ts f fs
  value_met (number_value z) ts f fs e = refl
  value_met (string_value text) ts f fs e = refl
  value_met (record_value fields) ts f fs e =
      ap (λ us. names_met us (Some []) (f ∷ fs)) (append_assoc (field_tokens fields) (close_round ∷ []) ts) ∙ fields_met fields ts [] (f ∷ fs)
  value_met (list_value places) ts f fs e =
      ap (λ us. names_met us None (f ∷ fs)) (append_assoc (place_tokens places) (close_square ∷ []) ts) ∙ places_met places ts None (f ∷ fs)
  value_met (range_value from to) ts f fs e = refl
  value_met (word_value word) ts f fs e = word_met word ts f fs e

  pub fields_met : (fields : Fields) (ts : List Token) (before : List (List ℕ)) (fs : List Bracket)
      → names_met (field_tokens fields ++ close_round ∷ ts) (Some before) fs ≡ namings_behind before fields ++ closed (names_met ts) fs
  fields_met no_fields ts before fs = refl
  fields_met (field text value others) ts before fs =
      ap (λ (ns : List Naming). record { name = text; before = before } ∷ ns)
      (both_met (value_tokens value) (more_fields others) (close_round ∷ ts) (namings value) (namings_behind (before ++ text ∷ []) others) (closed (names_met ts) fs) (Some (before ++ text ∷ [])) fs
      (value_met value (more_fields others ++ close_round ∷ ts) (Some (before ++ text ∷ [])) fs (plain_fields others ts))
      (more_fields_met others ts (before ++ text ∷ []) fs))

  more_fields_met : (others : Fields) (ts : List Token) (before : List (List ℕ)) (fs : List Bracket)
      → names_met (more_fields others ++ close_round ∷ ts) (Some before) fs ≡ namings_behind before others ++ closed (names_met ts) fs
  more_fields_met no_fields ts before fs = refl
  more_fields_met (field text value others) ts before fs =
      ap (λ (ns : List Naming). record { name = text; before = before } ∷ ns)
      (both_met (value_tokens value) (more_fields others) (close_round ∷ ts) (namings value) (namings_behind (before ++ text ∷ []) others) (closed (names_met ts) fs) (Some (before ++ text ∷ [])) fs
      (value_met value (more_fields others ++ close_round ∷ ts) (Some (before ++ text ∷ [])) fs (plain_fields others ts))
      (more_fields_met others ts (before ++ text ∷ []) fs))

  pub places_met : (places : Places) (ts : List Token) (f : Bracket) (fs : List Bracket)
      → names_met (place_tokens places ++ close_square ∷ ts) f fs ≡ namings_in places ++ closed (names_met ts) fs
  places_met no_places ts f fs = refl
  places_met (place value others) ts f fs =
      both_met (value_tokens value) (more_places others) (close_square ∷ ts) (namings value) (namings_in others) (closed (names_met ts) fs) f fs
      (value_met value (more_places others ++ close_square ∷ ts) f fs (plain_places others ts)) (more_places_met others ts f fs)
  places_met (empty_place others) ts f fs = more_places_met others ts f fs

  more_places_met : (others : Places) (ts : List Token) (f : Bracket) (fs : List Bracket)
      → names_met (more_places others ++ close_square ∷ ts) f fs ≡ namings_in others ++ closed (names_met ts) fs
  more_places_met no_places ts f fs = refl
  more_places_met (place value others) ts f fs =
      both_met (value_tokens value) (more_places others) (close_square ∷ ts) (namings value) (namings_in others) (closed (names_met ts) fs) f fs
      (value_met value (more_places others ++ close_square ∷ ts) f fs (plain_places others ts)) (more_places_met others ts f fs)
  more_places_met (empty_place others) ts f fs = more_places_met others ts f fs

-- ---- the names met behind the bracket that opens a record or a list

-- a word begins otherwise
pub no_word : (of_record : Bool) (inside : List Token) → begins_word (opening of_record ++ inside) ≡ false
no_word true inside = refl
no_word false inside = refl

pub inside_met : (v : Value) (rest inside : List Token) (of_record : Bool) → IsValue v → value_tokens v ++ rest ≡ opening of_record ++ inside
    → names_met inside (opened of_record) [] ≡ namings v
inside_met (number_value z) rest inside true good e = cc
inside_met (number_value z) rest inside false good e = cc
inside_met (string_value text) rest inside true good e = cc
inside_met (string_value text) rest inside false good e = cc
inside_met (record_value parts) rest inside true good e =
    let same : (field_tokens parts ++ close_round ∷ []) ++ rest ≡ inside = cc in
    ap (λ ts. names_met ts (Some []) []) (sym same ∙ append_assoc (field_tokens parts) (close_round ∷ []) rest)
    ∙ fields_met parts rest [] [] ∙ append-nil (namings_behind [] parts)
inside_met (record_value parts) rest inside false good e = cc
inside_met (list_value parts) rest inside true good e = cc
inside_met (list_value parts) rest inside false good e =
    let same : (place_tokens parts ++ close_square ∷ []) ++ rest ≡ inside = cc in
    ap (λ ts. names_met ts None []) (sym same ∙ append_assoc (place_tokens parts) (close_square ∷ []) rest)
    ∙ places_met parts rest None [] ∙ append-nil (namings_in parts)
inside_met (range_value from to) rest inside true good e = cc
inside_met (range_value from to) rest inside false good e =
    let same : number from ∷ dots ∷ number to ∷ close_square ∷ rest ≡ inside = cc in
    ap (λ ts. names_met ts None []) (sym same)
inside_met (word_value word) rest inside of_record good e =
    let begins = begins_word-word word good rest in
    let other = ap begins_word e ∙ no_word of_record inside in
    cc
