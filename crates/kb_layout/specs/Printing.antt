-- Texts that are printed piece by piece.
use Rattle.std.specs.Prelude.{◌≡◌, ℕ, List, [], ◌∷◌, ◌++◌, drop, codes, map, Bool, true, false, Option, Some, None}
use Rattle.kb_record.specs.Tree.{Value as ValueTree, list_value}
use Rattle.kb_record.specs.View.{field_view, places_of}
use Rattle.kb_record.specs.declared.tree.Field.{Field}
use Rattle.kb_record.specs.declared.tree.Value.{Value}
use Rattle.kb_layout.specs.Layout.{line_of, text_of_value, indent}

-- something, or nothing, stands behind what was there
abbrev pub Appended : List ℕ → List ℕ → Type 0
Appended old new = (more : List ℕ) × (new ≡ old ++ more)

-- pieces with a text before the first and another before each that follows
abbrev pub pieces : {A : Type 0} → (A → List ℕ) → List ℕ → List ℕ → List A → List ℕ
pieces text before between [] = []
pieces text before between (x ∷ xs) = before ++ (text x ++ pieces text between between xs)

-- Behind what stood there a whole text is printed up to the piece at a place: `ending` stands behind the pieces.
pub record IsPrintedUpTo {A : Type 0} (text : A → List ℕ) (between ending : List ℕ) (xs : List A)
    (whole old : List ℕ) (index : ℕ) (before now : List ℕ) : Type 0 where
  pub done : List ℕ
  pub so_far : now ≡ old ++ done
  pub to_come : whole ≡ done ++ (pieces text before between (drop index xs) ++ ending)

-- `NAME := ` and a value on one line
abbrev pub line_of_field : Field Value → List ℕ
line_of_field f = (field_view f).0 ++ codes " := " ++ line_of (field_view f).1

-- the same at a level, on a line of its own
abbrev pub text_of_field : ℕ → Field Value → List ℕ
text_of_field level f =
    indent level ++ (field_view f).0 ++ codes " := " ++ text_of_value level (field_view f).1

-- what stands at a place on one line, or nothing
abbrev pub line_at : Option ValueTree → List ℕ
line_at None = []
line_at (Some v) = line_of v

-- the same on a line of its own
abbrev pub row_at : ℕ → Option ValueTree → List ℕ
row_at level p = indent level ++ line_at p

-- the place that an item is seen as, on one line
abbrev pub line_of_place : {A : Type 0} → (A → Option ValueTree) → A → List ℕ
line_of_place seen x = line_at (seen x)

-- the same on a line of its own
abbrev pub row_of_place : {A : Type 0} → ℕ → (A → Option ValueTree) → A → List ℕ
row_of_place level seen x = row_at level (seen x)

-- a list of items, each of which is seen as a place
abbrev pub list_of : {A : Type 0} → (A → Option ValueTree) → List A → ValueTree
list_of seen xs = list_value (places_of (map seen xs))

-- and that list at a place
abbrev pub list_place : {A : Type 0} → (A → Option ValueTree) → List A → Option ValueTree
list_place seen xs = Some (list_of seen xs)

-- the place has a value, a list
abbrev pub holds_list : Option ValueTree → Bool
holds_list (Some (list_value _)) = true
holds_list _ = false
