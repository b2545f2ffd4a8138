-- Lists of numbers and of entries, element by element.
use Rattle.std.proofs.Common.{◌≡◌, ℤ, true, false, nat_eq, List, [], ◌∷◌, map, length, Some, Vec, Global, refl, sym, ap, ◌∙◌, eqb-true, arith}
use Rattle.std.proofs.lemmas.Bool.{false≢true}
use Rattle.std.specs.Borrow.{Bor}
use Rattle.std.proofs.lemmas.Option.{same_Some}
use Rattle.kb_record.specs.Tree.{list_value, Places, place}
use Rattle.kb_record.specs.View.{value_view, places_of, row_place, entries_place}
use Rattle.kb_record.specs.Listed.{place_view}
use Rattle.kb_record.specs.declared.tree.PlaceText.{PlaceText}
use Rattle.kb_record.specs.declared.tree.Value as code
use Rattle.kb_record.specs.declared.listed.Place.{Place}
use Rattle.kb_record.specs.declared.listed.Place.TheVariants as variants
use Rattle.kb_record.proofs.Views.{view-Numbers}
use Rattle.kb_fields.proofs.NumberLemmas.{list_of_numbers-places_of, one_list_of_numbers}
use Rattle.kb_fsafile.specs.Kinds.{list_of_numbers, entry_value, list_of_entries}

pub list_of_entries-places_of : (entries : List (ℤ × ℤ)) → list_of_entries entries ≡ places_of (map (λ (e : ℤ × ℤ). Some (entry_value e)) entries)
list_of_entries-places_of [] = refl
list_of_entries-places_of (e ∷ entries) = ap (place (entry_value e)) (list_of_entries-places_of entries)

-- what numbers and entries are at a place
pub place_of_numbers : (numbers : List ℤ) → row_place numbers ≡ Some (list_value (list_of_numbers numbers))
place_of_numbers numbers = ap (λ (ps : Places). Some (list_value ps)) (sym (list_of_numbers-places_of numbers))

pub place_of_entries : (entries : List (ℤ × ℤ)) → entries_place entries ≡ Some (list_value (list_of_entries entries))
place_of_entries entries = ap (λ (ps : Places). Some (list_value ps)) (sym (list_of_entries-places_of entries))

-- a value that is kept as a list of numbers
pub value_of_numbers : (numbers : Vec ℤ Global) → value_view (code.Numbers numbers) ≡ list_value (list_of_numbers numbers.items)
value_of_numbers numbers = view-Numbers numbers ∙ ap list_value (sym (list_of_numbers-places_of numbers.items))

-- an entry is a list of two numbers
pub numbers_of_entry : (numbers : List ℤ) (entry : ℤ × ℤ) → row_place numbers ≡ Some (entry_value entry) → numbers ≡ entry.0 ∷ entry.1 ∷ []
numbers_of_entry numbers entry e = one_list_of_numbers numbers (entry.0 ∷ entry.1 ∷ []) (same_Some _ _ (sym (place_of_numbers numbers) ∙ e))

-- of a list of lists only the empty one is a list of numbers, and of a list of numbers only the empty one a list of entries
pub entries_of_numbers : (entries : List (ℤ × ℤ)) (numbers : List ℤ) → entries_place entries ≡ Some (list_value (list_of_numbers numbers)) → entries ≡ []
entries_of_numbers [] numbers e = refl
entries_of_numbers (x ∷ entries) [] e = cc
entries_of_numbers (x ∷ entries) (z ∷ numbers) e = cc

pub numbers_of_entries : (numbers : List ℤ) (entries : List (ℤ × ℤ)) → row_place numbers ≡ Some (list_value (list_of_entries entries)) → numbers ≡ []
numbers_of_entries [] entries e = refl
numbers_of_entries (z ∷ numbers) [] e = cc
numbers_of_entries (z ∷ numbers) (x ∷ entries) e = cc

-- a list that is said to be empty, and one that is said not to be
pub empty_list : {A : Type 0} (xs : List A) → true ≡ nat_eq (length xs) 0 → xs ≡ []
empty_list [] e = refl
empty_list (x ∷ xs) e = let none = eqb-true (length (x ∷ xs)) 0 (sym e) in absurd (omega (arith, none))

pub no_empty_list : {A : Type 0} (xs : List A) → false ≡ nat_eq (length xs) 0 → xs ≡ [] → ⊥
no_empty_list {A = A} xs e none = false≢true (e ∙ ap (λ (ys : List A). nat_eq (length ys) 0) none)

-- A place that is neither kept as it is written nor a list of numbers holds none of these.
module _ (p : Place) (other : (text : PlaceText) → p ≡ variants.Text text → ⊥) (not_flat : (numbers : Bor (List ℤ)) → p ≡ variants.Numbers numbers → ⊥) where
  -- an entry
  pub no_entry_at : (entry : ℤ × ℤ) → place_view p ≡ Some (entry_value entry) → ⊥
  no_entry_at entry e = go p other not_flat e
    where
      none : (entries : List (ℤ × ℤ)) → entries_place entries ≡ Some (entry_value entry) → ⊥
      none [] h = cc
      none (x ∷ entries) h = cc

      go : (q : Place) → ((text : PlaceText) → q ≡ variants.Text text → ⊥) → ((numbers : Bor (List ℤ)) → q ≡ variants.Numbers numbers → ⊥)
          → place_view q ≡ Some (entry_value entry) → ⊥
      go (variants.Text text) t n h = t text refl
      go (variants.Number z) t n h = cc
      go (variants.Numbers numbers) t n h = n numbers refl
      go (variants.Entries entries) t n h = none entries.now h

  -- a list
  pub no_list_at : ((entries : Bor (List (ℤ × ℤ))) → p ≡ variants.Entries entries → ⊥) → (places : Places) → place_view p ≡ Some (list_value places) → ⊥
  no_list_at no_rows places e = go p other not_flat no_rows e
    where
      go : (q : Place) → ((text : PlaceText) → q ≡ variants.Text text → ⊥) → ((numbers : Bor (List ℤ)) → q ≡ variants.Numbers numbers → ⊥)
          → ((entries : Bor (List (ℤ × ℤ))) → q ≡ variants.Entries entries → ⊥) → place_view q ≡ Some (list_value places) → ⊥
      go (variants.Text text) t n r h = t text refl
      go (variants.Number z) t n r h = cc
      go (variants.Numbers numbers) t n r h = n numbers refl
      go (variants.Entries entries) t n r h = r entries refl
