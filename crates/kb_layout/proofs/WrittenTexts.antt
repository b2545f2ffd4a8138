-- Texts of records that are written without their trees: texts one behind another, lists of names, and the lines of
-- fields.
use Rattle.std.proofs.Common.{◌≡◌, ℕ, suc, List, [], ◌∷◌, ◌++◌, refl, sym, ap, ◌∙◌, append_assoc, append-nil}
use Rattle.std.specs.Prelude.{codes}
use Rattle.kb_record.specs.Tree.{record_value, list_value, Fields, no_fields, field}
use Rattle.kb_layout.specs.Layout.{indent, line_of, line_of_more_places, text_of_value, text_of_fields, end_of_field}
use Rattle.kb_layout.specs.Printing.{pieces}
use Rattle.kb_fields.specs.Fields.{bare_name, list_of_names}

-- ---- texts one behind another

abbrev pub joined : List (List ℕ) → List ℕ
joined [] = []
joined (text ∷ texts) = text ++ joined texts

-- these texts are still to come behind what stands there
pub record AreToCome (texts : List (List ℕ)) (whole now : List ℕ) : Type 0 where
  pub is : whole ≡ now ++ joined texts

pub to_come : (old : List ℕ) (texts : List (List ℕ)) → AreToCome texts (old ++ joined texts) old
to_come old texts = record { is = refl }

pub text_more : {text : List ℕ} {texts : List (List ℕ)} {whole now : List ℕ} {next : List ℕ} → AreToCome (text ∷ texts) whole now → next ≡ now ++ text
    → AreToCome texts whole next
text_more {text} {texts} {whole} {now} {next} before e = record {
  is = before.is ∙ sym (append_assoc now text (joined texts)) ∙ ap (λ t. t ++ joined texts) (sym e);
}

pub all_texts : {whole now : List ℕ} → AreToCome [] whole now → now ≡ whole
all_texts {whole} {now} before = sym (before.is ∙ append-nil now)

-- ---- lists of names

-- a name as it stands in a text
abbrev pub own_text : List ℕ → List ℕ
own_text name = name

pub name_line : (name : List ℕ) → line_of (bare_name name) ≡ name
name_line name = append-nil (name ++ []) ∙ append-nil name

more_name_pieces : (names : List (List ℕ)) → line_of_more_places (list_of_names names) ≡ pieces own_text (codes ",") (codes ",") names
more_name_pieces [] = refl
more_name_pieces (name ∷ names) =
    ap (λ t. codes "," ++ (t ++ line_of_more_places (list_of_names names))) (name_line name)
    ∙ ap (λ t. codes "," ++ (name ++ t)) (more_name_pieces names)

pub name_pieces : (names : List (List ℕ)) → codes "[" ++ (pieces own_text [] (codes ",") names ++ codes "]") ≡ line_of (list_value (list_of_names names))
name_pieces [] = refl
name_pieces (name ∷ names) =
    ap (λ t. codes "[" ++ ((name ++ t) ++ codes "]")) (sym (more_name_pieces names))
    ∙ ap (λ t. codes "[" ++ ((t ++ line_of_more_places (list_of_names names)) ++ codes "]")) (sym (name_line name))

-- a list of names is no table
pub names_text : (level : ℕ) (names : List (List ℕ)) → text_of_value level (list_value (list_of_names names)) ≡ line_of (list_value (list_of_names names))
names_text level [] = refl
names_text level (name ∷ names) = refl

-- ---- records

-- the lines of fields with what follows them
abbrev pub field_lines : ℕ → Fields → List ℕ → List ℕ
field_lines level no_fields after_it = after_it
field_lines level (field name value others) after_it =
    indent level ++ (name ++ (codes " := " ++ (text_of_value level value ++ (end_of_field others ++ field_lines level others after_it))))

fields_behind : (level : ℕ) (fields : Fields) (after_it : List ℕ) → text_of_fields level fields ++ after_it ≡ field_lines level fields after_it
fields_behind level no_fields after_it = refl
fields_behind level (field name value others) after_it =
    simp append_assoc (ap (λ t. indent level ++ (name ++ (codes " := " ++ (text_of_value level value ++ (end_of_field others ++ t)))))
    (fields_behind level others after_it))

pub record_lines : (level : ℕ) (fields : Fields) (after_it : List ℕ)
    → text_of_value level (record_value fields) ++ after_it ≡ codes "rec(\n" ++ field_lines (suc level) fields (indent level ++ (codes ")" ++ after_it))
record_lines level fields after_it =
    ap (λ t. codes "rec(\n" ++ t)
    (append_assoc (text_of_fields (suc level) fields ++ indent level) (codes ")") after_it
    ∙ append_assoc (text_of_fields (suc level) fields) (indent level) (codes ")" ++ after_it)
    ∙ fields_behind (suc level) fields (indent level ++ (codes ")" ++ after_it)))
