-- What is true of a run of any command.
use Rattle.std.specs.Prelude.{◌≡◌, ℕ, ◌<◌, ◌⊎◌, List, ◌++◌, IfSome}
use Rattle.kb_io.specs.Outside.{Outside, IsTold, GoesOn}
use Rattle.kb_task.specs.declared.status.Status.{Status}
use Rattle.kb_task.specs.declared.status.Which.{Which}
use Rattle.kb_task.specs.declared.status.Which.TheVariants.{Load, Store, Input, Output}
use Rattle.kb_task.specs.Statuses.{fault_of}

-- the count of the device's failures rose
abbrev pub HasFailed : Outside → Outside → Which → Type 0
HasFailed before after (Load name) = before.shelf.load_faults < after.shelf.load_faults
HasFailed before after (Store name) = before.shelf.store_faults < after.shelf.store_faults
HasFailed before after Input = before.input.faults < after.input.faults
HasFailed before after Output = before.output.faults < after.output.faults

-- a fault is a failure that was counted
abbrev pub FaultIsCounted : Outside → Outside → Status → Type 0
FaultIsCounted before after status = IfSome (fault_of status) (HasFailed before after)

-- every file is as it was, but those that may be stored
abbrev pub HoldsSameBesides : (List ℕ → Type 0) → Outside → Outside → Type 0
HoldsSameBesides MayStore before after =
    (name : List ℕ) → ¬ MayStore name → after.shelf.holds name ≡ before.shelf.holds name

-- A run from one moment of the outside to another that ended with the status: what the status means, where the outside
-- tells its bytes; and, also where it doesn't, the cause of a fault, and that counts never fall and other files stay.
pub record IsRun (Means : Outside → Outside → Status → Type 0) (MayStore : List ℕ → Type 0)
    (before after : Outside) (status : Status) : Type 0 where
  pub means : IsTold before → Means before after status
  pub fault : FaultIsCounted before after status
  pub goes_on : GoesOn before after
  pub files : HoldsSameBesides MayStore before after

-- two shelves hold the same under the names that are read
abbrev pub ReadsSame : (List ℕ → Type 0) → Outside → Outside → Type 0
ReadsSame IsRead one other =
    (name : List ℕ) → IsRead name → one.shelf.holds name ≡ other.shelf.holds name

-- under the name both runs left the same, or neither changed what was there
abbrev pub LeavesSame : Outside → Outside → Outside → Outside → List ℕ → Type 0
LeavesSame before after other_before other_after name =
    (after.shelf.holds name ≡ other_after.shelf.holds name)
    ⊎ ((after.shelf.holds name ≡ before.shelf.holds name)
    × (other_after.shelf.holds name ≡ other_before.shelf.holds name))

-- two runs wrote the same bytes, and stored the same
pub record HasSameEffect (MayStore : List ℕ → Type 0)
    (before after other_before other_after : Outside) : Type 0 where
  pub bytes : List ℕ
  pub written : after.output.written ≡ before.output.written ++ bytes
  pub other_written : other_after.output.written ≡ other_before.output.written ++ bytes
  pub stored : (name : List ℕ) → MayStore name
      → LeavesSame before after other_before other_after name
