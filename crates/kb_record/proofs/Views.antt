-- The views of values, a level at a time.
use Rattle.std.proofs.Common.{◌≡◌, ℕ, List, [], ◌∷◌, map, refl, ap, rules, Option, Some, None, ℤ, Vec, Global, sym, ◌∙◌}
use Rattle.kb_record.specs.Tree.{record_value, list_value, word_value, Value as ValueTree}
use Rattle.kb_record.specs.View.{value_view, value_step, field_step, field_view, word_view, fields_view, places_of, places_view, number_place, row_place, entries_place}
use Rattle.kb_record.specs.Listed.{places_in, listed, HasPlaces}
use Rattle.kb_record.specs.declared.tree.Expr.{Expr}
use Rattle.kb_record.specs.declared.tree.Field.{Field}
use Rattle.kb_record.specs.declared.tree.Value.{fold-Value}
use Rattle.kb_record.specs.declared.tree.Value.TheShapes.{former-Value-Record-0-at-4}
use Rattle.kb_record.specs.declared.tree.WrittenPlaces.{WrittenPlaces}
use Rattle.kb_record.specs.declared.tree.Value.{Value, Record, List as Listed, Numbers, Rows, Entries, Word, the_lemmas}

one_field : (f : Field Value) → field_step (former-Value-Record-0-at-4.map Value ValueTree (fold-Value ValueTree value_step) f) ≡ field_view f
one_field (Field.Written text) = refl
one_field (Field.Read name value) = refl

-- fields with the values inside already seen as their trees are those fields
fields_seen : (fs : List (Field Value)) → map field_step (map (former-Value-Record-0-at-4.map Value ValueTree (fold-Value ValueTree value_step)) fs) ≡ map field_view fs
fields_seen [] = refl
fields_seen (f ∷ fs) = ap (λ gs. field_step (former-Value-Record-0-at-4.map Value ValueTree (fold-Value ValueTree value_step) f) ∷ gs) (fields_seen fs) ∙ ap (λ g. g ∷ map field_view fs) (one_field f)

pub view-Record : (v : Vec (Field Value) Global) → value_view (Record v) ≡ record_value (fields_view v.items)
view-Record v = search (rules, the_lemmas, fields_seen)

pub view-Word : (word : Expr) → value_view (Word word) ≡ word_value (word_view word)
view-Word word = search (rules, the_lemmas)

pub view-List : (places : WrittenPlaces) → value_view (Listed places) ≡ list_value (places_view places)
view-List places = search (rules, the_lemmas)

pub view-Numbers : (v : Vec ℤ Global) → HasPlaces (value_view (Numbers v)) (map number_place v.items)
view-Numbers v = search (rules, the_lemmas)

pub view-Rows : (rows : List (List ℤ)) → HasPlaces (value_view (Rows rows)) (map row_place rows)
view-Rows rows = search (rules, the_lemmas)

pub view-Entries : (rows : List (List (ℤ × ℤ))) → HasPlaces (value_view (Entries rows)) (map entries_place rows)
view-Entries rows = search (rules, the_lemmas)

-- the places of a list are those that it was made of
pub places_in-of : (ps : List (Option ValueTree)) → places_in (places_of ps) ≡ ps
places_in-of [] = refl
places_in-of (None ∷ ps) = ap (λ qs. None ∷ qs) (places_in-of ps)
places_in-of (Some v ∷ ps) = ap (λ qs. Some v ∷ qs) (places_in-of ps)

pub listed-is : (value : ValueTree) (ps : List (Option ValueTree)) → HasPlaces value ps → listed value ≡ ps
listed-is value ps e = ap listed e ∙ places_in-of ps

pub has_its_places : (value : ValueTree) (ps : List (Option ValueTree)) → HasPlaces value ps → HasPlaces value (listed value)
has_its_places value ps e = e ∙ ap (λ qs. list_value (places_of qs)) (sym (listed-is value ps e))
