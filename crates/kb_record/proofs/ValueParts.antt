-- The forms of values and their parts, and rows of places and fields as those of trees.
use Rattle.std.proofs.Common.{◌≡◌, ℕ, suc, max, List, [], ◌∷◌, ◌++◌, Option, Some, None, refl, ap, ◌∙◌, arith, append_assoc}
use Rattle.kb_lexing.specs.Token.{Token, name, number, assign, close_round, close_square, comma, dots}
use Rattle.kb_record.specs.Tree.{Value, list_value, range_value}
use Rattle.kb_record.specs.Grammar.{value_tokens, field_tokens, more_fields, place_tokens, more_places, IsValue, AreFields, ArePlaces, IsPlaceList}
use Rattle.kb_record.specs.Nesting.{value_nesting, fields_nesting, places_nesting}
use Rattle.kb_record.specs.View.{places_of}
use Rattle.kb_record.specs.Reading.{fields_from}
use Rattle.kb_record.proofs.ReadingForms.{Form}
use Rattle.kb_record.proofs.RowForms.{row_form, row_tokens, more_tokens, GoodRow, AllGood, widest}

abbrev pub value_form : Form Value
value_form = record { spelled = value_tokens; Good = IsValue; nesting = value_nesting }

abbrev pub spelled_place : Option Value → List Token
spelled_place None = []
spelled_place (Some v) = value_tokens v

abbrev pub IsPlace : Option Value → Type 0
IsPlace None = Unit {0}
IsPlace (Some v) = IsValue v

abbrev pub place_nesting : Option Value → ℕ
place_nesting None = 0
place_nesting (Some v) = value_nesting v

abbrev pub place_form : Form (Option Value)
place_form = record { spelled = spelled_place; Good = IsPlace; nesting = place_nesting }

abbrev pub field_form : Form (List ℕ × Value)
field_form = record { spelled = λ (f : List ℕ × Value). name f.0 ∷ assign ∷ value_tokens f.1; Good = λ (f : List ℕ × Value). IsValue f.1; nesting = λ (f : List ℕ × Value). value_nesting f.1 }

-- a list or a range behind its open bracket
abbrev pub inside : Value → List Token
inside (list_value ps) = place_tokens ps ++ close_square ∷ []
inside (range_value from to) = number from ∷ dots ∷ number to ∷ close_square ∷ []
inside _ = []

abbrev pub IsListOrRange : Value → Type 0
IsListOrRange (list_value ps) = IsPlaceList ps × ArePlaces ps
IsListOrRange (range_value from to) = Unit {0}
IsListOrRange _ = ⊥

abbrev pub list_form : Form Value
list_form = record { spelled = inside; Good = IsListOrRange; nesting = value_nesting }

-- the fields of a record behind its open bracket
abbrev pub fields_form : Form (List (List ℕ × Value))
fields_form = record { spelled = λ fs. field_tokens (fields_from fs) ++ close_round ∷ []; Good = λ fs. AreFields (fields_from fs); nesting = λ fs. suc (fields_nesting (fields_from fs)) }

-- ---- rows as places and fields

abbrev pub places_row : Form (List (Option Value))
places_row = row_form place_form comma (close_square ∷ [])

pub more_places-alike : (ps : List (Option Value)) → more_places (places_of ps) ++ close_square ∷ [] ≡ more_tokens place_form comma (close_square ∷ []) ps
more_places-alike [] = refl
more_places-alike (None ∷ ps) = ap (λ ts. comma ∷ ts) (more_places-alike ps)
more_places-alike (Some v ∷ ps) = ap (λ ts. comma ∷ ts) (append_assoc (value_tokens v) (more_places (places_of ps)) (close_square ∷ []) ∙ ap (λ ts. value_tokens v ++ ts) (more_places-alike ps))

pub places-alike : (ps : List (Option Value)) → GoodRow place_form comma (close_square ∷ []) ps → place_tokens (places_of ps) ++ close_square ∷ [] ≡ row_tokens place_form comma (close_square ∷ []) ps
places-alike [] good = absurd good
places-alike (None ∷ ps) good = more_places-alike ps
places-alike (Some v ∷ ps) good = append_assoc (value_tokens v) (more_places (places_of ps)) (close_square ∷ []) ∙ ap (λ ts. value_tokens v ++ ts) (more_places-alike ps)

pub all_places : (ps : List (Option Value)) → AllGood place_form comma (close_square ∷ []) ps → ArePlaces (places_of ps)
all_places [] good = tt
all_places (None ∷ ps) good = all_places ps good.1
all_places (Some v ∷ ps) good = (good.0, all_places ps good.1)

pub row_places : (ps : List (Option Value)) → GoodRow place_form comma (close_square ∷ []) ps → ArePlaces (places_of ps)
row_places [] good = absurd good
row_places (None ∷ ps) good = all_places ps good.1
row_places (Some v ∷ ps) good = (good.0, all_places ps good.1)

pub places_nesting-alike : (ps : List (Option Value)) → places_nesting (places_of ps) ≡ widest place_form comma (close_square ∷ []) ps
places_nesting-alike [] = refl
places_nesting-alike (None ∷ ps) = let e = places_nesting-alike ps in omega arith
places_nesting-alike (Some v ∷ ps) = ap (max (value_nesting v)) (places_nesting-alike ps)

pub more_fields-alike : (fs : List (List ℕ × Value)) → more_fields (fields_from fs) ++ close_round ∷ [] ≡ more_tokens field_form comma (close_round ∷ []) fs
more_fields-alike [] = refl
more_fields-alike (f ∷ fs) = ap (λ ts. comma ∷ name f.0 ∷ assign ∷ ts) (append_assoc (value_tokens f.1) (more_fields (fields_from fs)) (close_round ∷ []) ∙ ap (λ ts. value_tokens f.1 ++ ts) (more_fields-alike fs))

pub fields-alike : (fs : List (List ℕ × Value)) → GoodRow field_form comma (close_round ∷ []) fs → field_tokens (fields_from fs) ++ close_round ∷ [] ≡ row_tokens field_form comma (close_round ∷ []) fs
fields-alike [] good = absurd good
fields-alike (f ∷ fs) good = ap (λ ts. name f.0 ∷ assign ∷ ts) (append_assoc (value_tokens f.1) (more_fields (fields_from fs)) (close_round ∷ []) ∙ ap (λ ts. value_tokens f.1 ++ ts) (more_fields-alike fs))

pub all_fields : (fs : List (List ℕ × Value)) → AllGood field_form comma (close_round ∷ []) fs → AreFields (fields_from fs)
all_fields [] good = tt
all_fields (f ∷ fs) good = (good.0, all_fields fs good.1)

pub row_fields : (fs : List (List ℕ × Value)) → GoodRow field_form comma (close_round ∷ []) fs → AreFields (fields_from fs)
row_fields [] good = absurd good
row_fields (f ∷ fs) good = (good.0, all_fields fs good.1)

pub fields_nesting-alike : (fs : List (List ℕ × Value)) → fields_nesting (fields_from fs) ≡ widest field_form comma (close_round ∷ []) fs
fields_nesting-alike [] = refl
fields_nesting-alike (f ∷ fs) = ap (max (value_nesting f.1)) (fields_nesting-alike fs)
