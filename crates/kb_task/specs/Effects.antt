-- What a run did to the outside.
use Rattle.std.specs.Prelude.{◌≡◌, ℕ, List, ◌++◌, Some}
use Rattle.kb_io.specs.Bytes.{AppendsPrefix}
use Rattle.kb_io.specs.States.{HoldsSame, HoldsSameBut}
use Rattle.kb_io.specs.Outside.{Outside, IsUnread, IsUnwritten}

-- these bytes were written, and nothing was read or stored
pub record Writes (bytes : List ℕ) (before after : Outside) : Type 0 where
  pub unread : IsUnread before after
  pub written : after.output.written ≡ before.output.written ++ bytes
  pub files : HoldsSame before.shelf after.shelf

-- a front of these bytes was written, and nothing was read or stored
pub record WritesFront (bytes : List ℕ) (before after : Outside) : Type 0 where
  pub unread : IsUnread before after
  pub front : AppendsPrefix before.output.written after.output.written bytes
  pub files : HoldsSame before.shelf after.shelf

-- the file of this name was stored with these bytes, and nothing was read or written
pub record Stores (name bytes : List ℕ) (before after : Outside) : Type 0 where
  pub unread : IsUnread before after
  pub unwritten : IsUnwritten before after
  pub stored : after.shelf.holds name ≡ Some bytes
  pub others : HoldsSameBut name before.shelf after.shelf

-- the file of this name may hold anything, and nothing else was stored, read or written
pub record LeavesUnknown (name : List ℕ) (before after : Outside) : Type 0 where
  pub unread : IsUnread before after
  pub unwritten : IsUnwritten before after
  pub others : HoldsSameBut name before.shelf after.shelf
