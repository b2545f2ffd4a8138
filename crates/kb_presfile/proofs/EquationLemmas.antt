-- Pairs of words, and lists of equations.
use Rattle.std.proofs.Common.{◌≡◌, ℕ, ◌+◌, ℤ, List, [], ◌∷◌, ◌++◌, map, take, slice_get, Option, Some, None, Ok, refl, sym, ap, subst, ◌∙◌}
use Rattle.kb_word.specs.Words.{Pair}
use Rattle.kb_record.specs.Meaning.{word_meaning}
use Rattle.kb_record.specs.Tree.{Factors, Value, list_value, word_value, Places, no_places, place}
use Rattle.kb_record.specs.View.{places_of, row_place, entries_place}
use Rattle.kb_record.specs.Listed.{place_view}
use Rattle.kb_record.specs.declared.listed.Place.{Place}
use Rattle.kb_record.specs.declared.listed.Place.TheVariants as places
use Rattle.kb_record.specs.declared.tree.PlaceText.{PlaceText}
use Rattle.kb_presfile.specs.Kinds.{equation_value, list_of_equations}
use Rattle.kb_presfile.specs.Holds.{IsEquation, AreMeanings, AreEquations}
use Rattle.kb_fields.proofs.ListingLemmas.{places_of-injective, one_place_more}

-- numbers, and lists of them, are no equation
no_row : (row : List ℤ) (sides : Factors × Factors) → row_place row ≡ Some (equation_value sides) → ⊥
no_row [] sides e = cc
no_row (z ∷ row) sides e = cc

no_entries : (entries : List (ℤ × ℤ)) (sides : Factors × Factors) → entries_place entries ≡ Some (equation_value sides) → ⊥
no_entries [] sides e = cc
no_entries (entry ∷ entries) sides e = cc

pub no_equation : (p : Place) → ((text : PlaceText) → p ≡ places.Text text → ⊥) → (sides : Factors × Factors) → place_view p ≡ Some (equation_value sides) → ⊥
no_equation (places.Text text) other sides e = absurd (other text refl)
no_equation (places.Number z) other sides e = cc
no_equation (places.Numbers numbers) other sides e = no_row numbers.now sides e
no_equation (places.Entries entries) other sides e = no_entries entries.now sides e

pub list_of_equations-places_of : (sides : List (Factors × Factors)) → list_of_equations sides ≡ places_of (map (λ (s : Factors × Factors). Some (equation_value s)) sides)
list_of_equations-places_of [] = refl
list_of_equations-places_of (s ∷ sides) = ap (place (equation_value s)) (list_of_equations-places_of sides)

meanings_more : (names : List (List ℕ)) (inverses : List (Option ℕ)) (sides : List (Factors × Factors)) (pairs : List Pair) (s : Factors × Factors) (pair : Pair)
    → AreMeanings names inverses sides pairs → (word_meaning names inverses s.0 ≡ Ok pair.0) → (word_meaning names inverses s.1 ≡ Ok pair.1)
    → AreMeanings names inverses (sides ++ s ∷ []) (pairs ++ pair ∷ [])
meanings_more names inverses [] [] s pair are left right = (left, right, refl)
meanings_more names inverses [] (p ∷ pairs) s pair are left right = cc
meanings_more names inverses (t ∷ sides) [] s pair are left right = absurd are
meanings_more names inverses (t ∷ sides) (p ∷ pairs) s pair are left right =
    (are.0, are.1, meanings_more names inverses sides pairs s pair are.2 left right)

pub no_equations : (names : List (List ℕ)) (inverses : List (Option ℕ)) → AreEquations names inverses no_places []
no_equations names inverses = record { sides = []; listed = refl; meanings = refl }

-- one more place, and its equation
pub equations_more : (names : List (List ℕ)) (inverses : List (Option ℕ)) (ps : List (Option Value)) (k : ℕ) (p : Option Value) (equations more : List Pair)
    (pair : Pair) → slice_get ps k ≡ Some p → AreEquations names inverses (places_of (take k ps)) equations → IsEquation names inverses p pair
    → more ≡ equations ++ pair ∷ [] → AreEquations names inverses (places_of (take (k + 1) ps)) more
equations_more names inverses ps k p equations more pair at are is longer =
    let stands : Factors × Factors → Option Value = λ s. Some (equation_value s) in
    let before = places_of-injective (take k ps) (map stands are.sides) (are.listed ∙ list_of_equations-places_of are.sides) in
    let whole = one_place_more stands ps k p at are.sides (are.sides ++ is.sides ∷ []) is.sides before is.stands refl in
    let AreMeant : List Pair → Type 0 = λ pairs. AreMeanings names inverses (are.sides ++ is.sides ∷ []) pairs in
    record {
      sides = are.sides ++ is.sides ∷ [];
      listed = ap places_of whole ∙ sym (list_of_equations-places_of (are.sides ++ is.sides ∷ []));
      meanings = subst AreMeant (sym longer) (meanings_more names inverses are.sides equations is.sides pair are.meanings is.left is.right);
    }
