-- The whole outside of a run: the shelf, the input and the output.
use Rattle.std.specs.Prelude.{◌≡◌, IsTrue}
use Rattle.kb_io.specs.States.{SourceState, SinkState, ShelfState, SourceGoesOn, SinkGoesOn, ShelfGoesOn, HoldsSame}

-- the outside at one moment
pub record Outside : Type 0 where
  pub shelf : ShelfState
  pub input : SourceState
  pub output : SinkState

abbrev pub outside : ShelfState → SourceState → SinkState → Outside
outside shelf input output = record { shelf = shelf; input = input; output = output }

-- all of the outside tells its bytes
pub record IsTold (before : Outside) : Type 0 where
  pub shelf : IsTrue before.shelf.told
  pub input : IsTrue before.input.told
  pub output : IsTrue before.output.told

-- a later moment of the same outside: it tells as before, and no count of failures fell
pub record GoesOn (before after : Outside) : Type 0 where
  pub shelf : ShelfGoesOn before.shelf after.shelf
  pub input : SourceGoesOn before.input after.input
  pub output : SinkGoesOn before.output after.output

-- nothing of the input was read
abbrev pub IsUnread : Outside → Outside → Type 0
IsUnread before after = after.input.left ≡ before.input.left

-- nothing was written on the output
abbrev pub IsUnwritten : Outside → Outside → Type 0
IsUnwritten before after = after.output.written ≡ before.output.written

-- nothing was read, written or stored
pub record IsUnchanged (before after : Outside) : Type 0 where
  pub unread : IsUnread before after
  pub unwritten : IsUnwritten before after
  pub files : HoldsSame before.shelf after.shelf
