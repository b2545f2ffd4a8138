-- What a text that says a table holds: rows, the initial state, a format and a default target.
use Rattle.std.proofs.Common.{◌≡◌, ℕ, zero, suc, ◌<◌, ◌≤◌, pos, List, [], ◌∷◌, length, Option, Some, ◌⊎◌, inl, inr, refl, sym, ap, subst, arith}
use Rattle.std.specs.Prelude.{codes}
use Rattle.kb_record.specs.Tree.{Value, string_value, list_value, Fields, Places, no_places, place, empty_place}
use Rattle.kb_fields.specs.Fields.{value_of, value_at, place_count}
use Rattle.kb_fields.proofs.ListingLemmas.{some_value}
use Rattle.kb_fsa.specs.Table.{Moves}
use Rattle.kb_fsafile.specs.Kinds.{count_value, list_of_numbers}
use Rattle.kb_fsafile.specs.Holds.{IsDense, HasNoDefault, HoldsInitial, HoldsRow, HoldsRows}
use Rattle.kb_fsafile.specs.declared.format.Format.{Format}

-- ---- rows

-- what stands at a place of the rows
pub record IsHeldRow (size count : ℕ) (format : Format) (value : Value) : Type 0 where
  pub row : Moves
  pub holds : HoldsRow size count format value row

pub row_at_place : (size count : ℕ) (format : Format) (places : Places) (rows : List Moves) (k : ℕ) (value : Value) → HoldsRows size count format places rows
    → value_at places k ≡ Some value → IsHeldRow size count format value
row_at_place size count format no_places rows k value h at = cc
row_at_place size count format (place v ps) [] k value h at = absurd h
row_at_place size count format (place v ps) (r ∷ rows) zero value h at =
    let P : Value → Type 0 = λ w. HoldsRow size count format w r in record { row = r; holds = subst P (some_value at) h.0 }
row_at_place size count format (place v ps) (r ∷ rows) (suc k) value h at = row_at_place size count format ps rows k value h.1 at
row_at_place size count format (empty_place ps) rows k value h at = absurd h

pub value_within : (size count : ℕ) (format : Format) (places : Places) (rows : List Moves) (k : ℕ) → HoldsRows size count format places rows
    → k < place_count places → (value : Value) × (value_at places k ≡ Some value)
value_within size count format no_places rows k h within = absurd (omega (arith, within))
value_within size count format (place v ps) [] k h within = absurd h
value_within size count format (place v ps) (r ∷ rows) zero h within = (v, refl)
value_within size count format (place v ps) (r ∷ rows) (suc k) h within = value_within size count format ps rows k h.1 (omega (arith, within))
value_within size count format (empty_place ps) rows k h within = absurd h

pub count_of_rows : (size count : ℕ) (format : Format) (places : Places) (rows : List Moves) → HoldsRows size count format places rows → place_count places ≡ length rows
count_of_rows size count format no_places rows h = sym (ap length h)
count_of_rows size count format (place v ps) [] h = absurd h
count_of_rows size count format (place v ps) (r ∷ rows) h = ap suc (count_of_rows size count format ps rows h.1)
count_of_rows size count format (empty_place ps) rows h = absurd h

-- the initial state's list
pub initial_numbers : (given : Fields) (count state : ℕ) → HoldsInitial given count state
    → (value_of given (codes "initial") ≡ Some (list_value (list_of_numbers [])))
    ⊎ ((value_of given (codes "initial") ≡ Some (list_value (list_of_numbers (pos state ∷ [])))) × ((0 < state) × (state ≤ count)))
initial_numbers given count _ (HoldsInitial.none is) = inl is
initial_numbers given count _ (HoldsInitial.one is positive within) = inr (is, (positive, within))

-- the format of the letters, and the default target
pub dense_format : (letters : Fields) (value : Value) → IsDense (value_of letters (codes "format")) → value_of letters (codes "format") ≡ Some value
    → value ≡ string_value (codes "dense")
dense_format letters value dense is = let P : Option Value → Type 0 = λ o. IsDense o in subst P is dense

pub no_default_target : (table : Fields) (value : Value) → HasNoDefault (value_of table (codes "defaultTarget")) → value_of table (codes "defaultTarget") ≡ Some value
    → value ≡ count_value 0
no_default_target table value none is = let P : Option Value → Type 0 = λ o. HasNoDefault o in subst P is none
