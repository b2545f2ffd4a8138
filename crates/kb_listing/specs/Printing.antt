-- Runs that print and do nothing else.
use Rattle.std.specs.Prelude.{ℕ, List}
use Rattle.kb_io.specs.Outside.{Outside, IsUnread}
use Rattle.kb_io.specs.States.{HoldsSame}
use Rattle.kb_task.specs.declared.status.Status.{Status}

-- nothing was read or stored, and what was written before and after is so for the status
pub record OnlyPrints (AreSo : List ℕ → List ℕ → Status → Type 0) (before after : Outside)
    (status : Status) : Type 0 where
  pub unread : IsUnread before after
  pub files : HoldsSame before.shelf after.shelf
  pub so : AreSo before.output.written after.output.written status
