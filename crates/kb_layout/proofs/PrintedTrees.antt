-- The printed texts of trees as pieces: words, records, and lists in any form.
use Rattle.std.proofs.Common.{◌≡◌, ℕ, zero, suc, ◌+◌, ◌<◌, List, [], ◌∷◌, ◌++◌, length, drop, Option, Some, None, option_map, ℤ, map, true, false, refl, sym, ap, ◌∙◌, arith, append_assoc, append-nil}
use Rattle.std.specs.Prelude.{codes, slice_get}
use Rattle.std.specs.Borrow.{Bor}
use Rattle.std.specs.Option.{IsSome}
use Rattle.std.proofs.lemmas.Option.{slice_get-get_or, none-some}
use Rattle.kb_record.specs.Tree.{Value as ValueTree, record_value, list_value}
use Rattle.kb_record.specs.View.{factor_view, factors_view, fields_view, places_of, number_place}
use Rattle.kb_layout.specs.Layout.{word_text, factor_text, more_factors_text, line_of, line_of_fields, line_of_more_fields, indent, text_of_value, text_of_fields, are_lists, is_table}
use Rattle.kb_layout.specs.Printing.{pieces, line_of_field, text_of_field, line_at, list_place, holds_list}
use Rattle.kb_record.specs.declared.tree.Factor.{Factor}
use Rattle.kb_record.specs.declared.tree.Field.{Field}
use Rattle.kb_record.specs.declared.tree.Value.{Value}

-- ---- words

abbrev pub factor_piece : Factor → List ℕ
factor_piece f = factor_text (factor_view f)

more_factor_pieces : (fs : List Factor) → more_factors_text (factors_view fs) ≡ pieces factor_piece (codes "*") (codes "*") fs
more_factor_pieces [] = refl
more_factor_pieces (f ∷ fs) = ap (λ t. codes "*" ++ (factor_piece f ++ t)) (more_factor_pieces fs)

pub factor_pieces : (fs : List Factor) → pieces factor_piece [] (codes "*") fs ++ [] ≡ word_text (factors_view fs)
factor_pieces [] = refl
factor_pieces (f ∷ fs) = append-nil _ ∙ ap (λ t. factor_piece f ++ t) (sym (more_factor_pieces fs))

-- ---- records

more_field_pieces : (fs : List (Field Value)) → line_of_more_fields (fields_view fs) ≡ pieces line_of_field (codes ",") (codes ",") fs
more_field_pieces [] = refl
more_field_pieces (f ∷ fs) =
    ap (λ t. codes "," ++ (line_of_field f ++ t)) (more_field_pieces fs)

field_pieces : (fs : List (Field Value)) → pieces line_of_field [] (codes ",") fs ≡ line_of_fields (fields_view fs)
field_pieces [] = refl
field_pieces (f ∷ fs) =
    ap (λ t. line_of_field f ++ t) (sym (more_field_pieces fs))

pub record_pieces : (fs : List (Field Value)) → codes "rec(" ++ (pieces line_of_field [] (codes ",") fs ++ codes ")") ≡ line_of (record_value (fields_view fs))
record_pieces fs = ap (λ t. codes "rec(" ++ (t ++ codes ")")) (field_pieces fs)

some_field_pieces_at : (level : ℕ) (f : Field Value) (fs : List (Field Value)) (after : List ℕ) → text_of_field level f ++ (pieces (text_of_field level) (codes ",\n") (codes ",\n") fs ++ (codes "\n" ++ after))
    ≡ text_of_fields level (fields_view (f ∷ fs)) ++ after
some_field_pieces_at level f [] after = simp append_assoc
some_field_pieces_at level f (g ∷ fs) after =
    let more = some_field_pieces_at level g fs after in
    let here : text_of_field level f ++ (codes ",\n" ++ (text_of_fields level (fields_view (g ∷ fs)) ++ after)) ≡ text_of_fields level (fields_view (f ∷ (g ∷ fs))) ++ after = simp append_assoc in
    ap (λ t. text_of_field level f ++ (codes ",\n" ++ t)) (append_assoc (text_of_field level g) (pieces (text_of_field level) (codes ",\n") (codes ",\n") fs) (codes "\n" ++ after) ∙ more) ∙ here

field_pieces_at : (level : ℕ) (fs : List (Field Value)) (after : List ℕ) → pieces (text_of_field level) (codes "\n") (codes ",\n") fs ++ (codes "\n" ++ after)
    ≡ codes "\n" ++ (text_of_fields level (fields_view fs) ++ after)
field_pieces_at level [] after = refl
field_pieces_at level (f ∷ fs) after =
    ap (λ t. codes "\n" ++ t) (append_assoc (text_of_field level f) (pieces (text_of_field level) (codes ",\n") (codes ",\n") fs) (codes "\n" ++ after) ∙ some_field_pieces_at level f fs after)

pub record_pieces_at : (level : ℕ) (fs : List (Field Value)) → codes "rec(" ++ (pieces (text_of_field (suc level)) (codes "\n") (codes ",\n") fs ++ (codes "\n" ++ (indent level ++ codes ")")))
    ≡ text_of_value level (record_value (fields_view fs))
record_pieces_at level fs =
    ap (λ t. codes "rec(" ++ t) (field_pieces_at (suc level) fs (indent level ++ codes ")"))
    ∙ ap (λ t. codes "rec(\n" ++ t) (sym (append_assoc (text_of_fields (suc level) (fields_view fs)) (indent level) (codes ")")))

-- ---- lists

pub place_some : (p : Option ValueTree) (v : ValueTree) (half mid : List ℕ) → Some v ≡ p → mid ≡ half ++ line_of v → mid ≡ half ++ line_at p
place_some p v half mid is e = e ∙ ap (λ q. half ++ line_at q) is

pub place_none : (p : Option ValueTree) (half : List ℕ) → None ≡ p → half ≡ half ++ line_at p
place_none p half is = sym (append-nil half) ∙ ap (λ q. half ++ line_at q) is

-- a list of numbers is no table
pub numbers_no_table : (numbers : List ℤ) → is_table (places_of (map number_place numbers)) ≡ false
numbers_no_table [] = refl
numbers_no_table (z ∷ numbers) = refl

-- ---- lists of lists that are kept side by side

-- a list that was read at its place
pub list_at : {A : Type 0} (lists : List (List A)) (index : ℕ) (found : Option (Bor (List A))) (list : Bor (List A))
    → slice_get lists index ≡ option_map (λ (x : Bor (List A)). x.now) found → found ≡ Some list → slice_get lists index ≡ Some list.now
list_at lists index found list e is = e ∙ ap (option_map (λ (x : Bor (List _)). x.now)) is

-- there is one at each place
pub list_there : {A : Type 0} (lists : List (List A)) (index : ℕ) (found : Option (Bor (List A)))
    → slice_get lists index ≡ option_map (λ (x : Bor (List A)). x.now) found → index < length lists → IsSome found
list_there lists index None e inside = absurd (none-some _ (sym e ∙ slice_get-get_or lists index [] inside))
list_there lists index (Some list) e inside = refl

-- lists in a list are a table if there is one
lists_are_lists : {A : Type 0} (seen : A → Option ValueTree) (lists : List (List A)) → are_lists (places_of (map (list_place seen) lists)) ≡ true
lists_are_lists seen [] = refl
lists_are_lists seen (xs ∷ lists) = lists_are_lists seen lists

pub lists_are_table : {A : Type 0} (seen : A → Option ValueTree) (lists : List (List A)) → 0 < length lists → is_table (places_of (map (list_place seen) lists)) ≡ true
lists_are_table seen [] some = absurd (omega (arith, some))
lists_are_table seen (xs ∷ lists) some = lists_are_lists seen lists

-- ---- places one by one

from_here : (ps : List (Option ValueTree)) (k : ℕ) (p : Option ValueTree) → slice_get ps k ≡ Some p → drop k ps ≡ p ∷ drop (suc k) ps
from_here [] k p e = absurd (none-some _ e)
from_here (q ∷ ps) zero p e = ap (λ x. x ∷ ps) (same e)
  where
    same : {a b : Option ValueTree} → Some a ≡ Some b → a ≡ b
    same h = cc
from_here (q ∷ ps) (suc k) p e = from_here ps k p e

-- the places from one on are that one and the later ones
pub places_from : (ps : List (Option ValueTree)) (k : ℕ) (p : Option ValueTree) → slice_get ps k ≡ Some p → drop k ps ≡ p ∷ drop (k + 1) ps
places_from ps k p e = let next : suc k ≡ k + 1 = omega arith in from_here ps k p e ∙ ap (λ n. p ∷ drop n ps) next

-- a place that holds a list, and others
pub one_list_more : (p : Option ValueTree) (ps : List (Option ValueTree)) → holds_list p ≡ true → are_lists (places_of (p ∷ ps)) ≡ are_lists (places_of ps)
one_list_more (Some (list_value places)) ps e = refl
one_list_more _ ps e = cc

-- a place that holds none
pub no_lists : (p : Option ValueTree) (ps : List (Option ValueTree)) → holds_list p ≡ false → are_lists (places_of (p ∷ ps)) ≡ false
no_lists (Some (list_value places)) ps e = cc
no_lists None ps e = refl
no_lists (Some v) ps e = refl

-- where some are no lists, there is no table
pub no_table_in : (ps : List (Option ValueTree)) → are_lists (places_of ps) ≡ false → is_table (places_of ps) ≡ false
no_table_in [] e = cc
no_table_in (None ∷ ps) e = e
no_table_in (Some v ∷ ps) e = e

-- where there is a place and all are lists, there is a table
pub table_in : (ps : List (Option ValueTree)) → (length ps ≡ 0 → ⊥) → are_lists (places_of ps) ≡ true → true ≡ is_table (places_of ps)
table_in [] some e = absurd (some refl)
table_in (None ∷ ps) some e = sym e
table_in (Some v ∷ ps) some e = sym e

-- where there is no place, there is none
pub no_table_without : (ps : List (Option ValueTree)) → length ps ≡ 0 → false ≡ is_table (places_of ps)
no_table_without [] none = refl
no_table_without (p ∷ ps) none = absurd (omega (arith, none))
