-- Files that are stored one after another.
use Rattle.std.specs.Prelude.{◌≡◌, ◌≢◌, ℕ, List, ◌∷◌, ◌++◌, map, Some, IsTrue}
use Rattle.std.specs.List.{Contains}
use Rattle.kb_io.specs.Outside.{Outside, IsUnread, IsUnwritten}
use Rattle.kb_io.specs.States.{ShelfState, ShelfGoesOn, HoldsSameBut}
use Rattle.kb_task.specs.declared.status.Status.{Status}
use Rattle.kb_task.specs.declared.status.Status.TheVariants.{Yes, Memory, Fault}
use Rattle.kb_task.specs.declared.status.Which.TheVariants.{Store}
use Rattle.kb_task.specs.declared.storing.TextFile.{TextFile}

-- a file that is to be stored: its name and its bytes
pub record Text : Type 0 where
  pub name : List ℕ
  pub bytes : List ℕ

-- a file as its name and its bytes
abbrev pub text_of : TextFile → Text
text_of file = record { name = file.name; bytes = file.bytes.items }

abbrev pub texts_of : List TextFile → List Text
texts_of files = map text_of files

-- the names of the files
abbrev pub names_of : List Text → List (List ℕ)
names_of texts = map (λ text. text.name) texts

-- each of the files holds its bytes, and every other name what it held
pub record HoldsTexts (texts : List Text) (before after : ShelfState) : Type 0 where
  pub stored : (text : Text) → Contains texts text → after.holds text.name ≡ Some text.bytes
  pub others : (name : List ℕ) → (¬ Contains (names_of texts) name)
      → after.holds name ≡ before.holds name

-- the file was stored, where the shelf tells its bytes, and every other name holds what it held
pub record PutsText (text : Text) (before after : ShelfState) : Type 0 where
  pub stored : IsTrue before.told → after.holds text.name ≡ Some text.bytes
  pub others : HoldsSameBut text.name before after
  pub goes_on : ShelfGoesOn before after

-- the files were stored, and nothing was read or written
pub record StoresTexts (texts : List Text) (before after : Outside) : Type 0 where
  pub unread : IsUnread before after
  pub unwritten : IsUnwritten before after
  pub holds : HoldsTexts texts before.shelf after.shelf

-- the first of the files were stored, and nothing was read or written
pub record StoresFirst (texts : List Text) (before after : Outside) : Type 0 where
  pub first : List Text
  pub rest : List Text
  pub whole : texts ≡ first ++ rest
  pub stores : StoresTexts first before after

-- the files before the one of this name were stored; under its own name anything may stand, and
-- nothing was read or written
pub record StopsAtText (texts : List Text) (name : List ℕ) (before after : Outside) : Type 0 where
  pub first : List Text
  pub text : Text
  pub rest : List Text
  pub whole : texts ≡ first ++ text ∷ rest
  pub named : text.name ≡ name
  pub unread : IsUnread before after
  pub unwritten : IsUnwritten before after
  pub stored : (one : Text) → Contains first one → one.name ≢ name
      → after.shelf.holds one.name ≡ Some one.bytes
  pub others : (other : List ℕ) → other ≢ name → (¬ Contains (names_of first) other)
      → after.shelf.holds other ≡ before.shelf.holds other

-- what each status of the stores means
abbrev pub StoresMean : List Text → Outside → Outside → Status → Type 0
StoresMean texts before after Yes = StoresTexts texts before after
StoresMean texts before after (Fault (Store name)) = StopsAtText texts name before after
StoresMean texts before after Memory = StoresFirst texts before after
StoresMean texts before after _ = ⊥
