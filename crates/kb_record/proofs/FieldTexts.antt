-- What the text of a field tells of its name and its value.
use Rattle.std.proofs.Common.{◌≡◌, ℕ, ◌≤◌, List, [], ◌∷◌, Option, Some, None, false, refl, sym, ap, ◌∙◌}
use Rattle.kb_lexing.specs.Token.{Token, name, assign, comma, close_square}
use Rattle.kb_lexing.specs.declared.place.Expected.TheVariants as wanted
use Rattle.kb_record.specs.Tree.{Value, string_value}
use Rattle.kb_record.specs.Nesting.{deepest}
use Rattle.kb_record.specs.Reading.{Reading, read, unexpected, too_deep, behind, ends_place, first_name, read_name, read_value}
use Rattle.kb_record.specs.View.{first_place_in, first_field_in, value_of_place}
use Rattle.kb_record.specs.declared.cursor.Mark.TheVariants.{Assign}
use Rattle.kb_record.proofs.Depths.{value-scalar}
use Rattle.kb_record.proofs.PlaceTexts.{place_full, first_value_is}

-- where a place ends, no value can be read
not_ended : (d : ℕ) (tokens rest : List Token) (v : Value) → read_value d tokens ≡ read v rest → ends_place tokens ≡ false
not_ended d (comma ∷ tokens) rest v e =
    let none : unexpected wanted.Value (comma ∷ tokens) ≡ read v rest = sym (value-scalar d (comma ∷ tokens) refl refl refl) ∙ e in
    cc
not_ended d (close_square ∷ tokens) rest v e =
    let none : unexpected wanted.Value (close_square ∷ tokens) ≡ read v rest = sym (value-scalar d (close_square ∷ tokens) refl refl refl) ∙ e in
    cc
not_ended d _ rest v e = refl

-- the tokens of a name, and of the mark behind it
named : (tokens rest : List Token) (text : List ℕ) → first_name tokens ≡ Some (text, rest) → tokens ≡ name text ∷ rest
named (name t ∷ tokens) rest text e =
    let same : ◌≡◌ {A = List ℕ × List Token} (t, tokens) (text, rest) = cc in
    ap (λ (p : List ℕ × List Token). name p.0 ∷ p.1) same
named _ rest text e = cc

read_named : (tokens rest : List Token) (text : List ℕ) → read_name tokens ≡ read text rest → first_name tokens ≡ Some (text, rest)
read_named (name t ∷ tokens) rest text e = cc
read_named _ rest text e = cc

assigned : (tokens rest : List Token) → behind Assign tokens ≡ Some rest → tokens ≡ assign ∷ rest
assigned (assign ∷ tokens) rest e = let same : tokens ≡ rest = cc in ap (λ ts. assign ∷ ts) same
assigned _ rest e = cc

-- the field that its name and the mark begin
pub field_begun : (tokens others rest : List Token) (text : List ℕ) → first_name tokens ≡ Some (text, others) → behind Assign others ≡ Some rest → first_field_in tokens ≡ (text, value_of_place (first_place_in rest))
field_begun tokens others rest text e f = ap first_field_in (named tokens others text e ∙ ap (λ ts. name text ∷ ts) (assigned others rest f))

-- no field begins
pub no_name_begins : (tokens : List Token) → first_name tokens ≡ None → first_field_in tokens ≡ ([], string_value [])
no_name_begins (name t ∷ tokens) e = cc
no_name_begins _ e = refl

not_assigned : (tokens : List Token) (text : List ℕ) → behind Assign tokens ≡ None → first_field_in (name text ∷ tokens) ≡ ([], string_value [])
not_assigned (assign ∷ tokens) text e = cc
not_assigned _ text e = refl

pub no_mark_begins : (tokens others : List Token) (text : List ℕ) → first_name tokens ≡ Some (text, others) → behind Assign others ≡ None → first_field_in tokens ≡ ([], string_value [])
no_mark_begins tokens others text e f = ap first_field_in (named tokens others text e) ∙ not_assigned others text f

-- a field that is read at any depth is the one that its text tells
pub field_shown : (d : ℕ) (tokens others rest left : List Token) (text : List ℕ) (v : Value)
    → d ≤ deepest → read_name tokens ≡ read text others → behind Assign others ≡ Some rest → read_value d rest ≡ read v left → first_field_in tokens ≡ (text, v)
field_shown d tokens others rest left text v le e f h =
    field_begun tokens others rest text (read_named tokens others text e) f
    ∙ ap (λ p. (text, value_of_place p)) (place_full rest (not_ended d rest left v h)) ∙ ap (λ w. (text, w)) (first_value_is d rest left v le h)
