-- Files that are read, and why a run ends at one.
use Rattle.std.specs.Prelude.{◌≡◌, ℕ, ◌<◌, ◌≤◌, List, length, Option, Some, None}
use Rattle.kb_io.specs.States.{ShelfState, ShelfGoesOn, HoldsSame}
use Rattle.kb_task.specs.declared.loading.LoadStop.{LoadStop}
use Rattle.kb_task.specs.declared.loading.LoadStop.TheVariants as stops
use Rattle.kb_task.specs.declared.status.FileFault.{FileFault}
use Rattle.kb_task.specs.declared.status.FileFault.TheVariants.{Missing, TooLong}
use Rattle.kb_task.specs.declared.status.Refusal.TheVariants.{File}
use Rattle.kb_task.specs.declared.status.Status.{Status}
use Rattle.kb_task.specs.declared.status.Status.TheVariants.{Refused, Memory, Fault}
use Rattle.kb_task.specs.declared.status.Which.TheVariants.{Load}

-- what is held under each name
abbrev pub Files : Type 0
Files = List ℕ → Option (List ℕ)

-- a file has at most so many bytes
abbrev pub most_file : ℕ
most_file = 16777216

-- the file of this name has these bytes, and not more than may be
pub record IsHeld (files : Files) (name bytes : List ℕ) : Type 0 where
  pub held : files name ≡ Some bytes
  pub short : length bytes ≤ most_file

-- there is no file of this name, or it is too long
abbrev pub IsNoText : Files → List ℕ → FileFault → Type 0
IsNoText files name Missing = files name ≡ None
IsNoText files name TooLong =
    (bytes : List ℕ) × (files name ≡ Some bytes) × (most_file < length bytes)
IsNoText files name _ = ⊥

-- the cause of a stop: a refusal has one of these faults, and a failure or want of memory none that is known
abbrev pub IsCause : (FileFault → Type 0) → LoadStop → Type 0
IsCause IsFault (stops.Refused fault) = IsFault fault
IsCause IsFault stops.Failed = Unit {0}
IsCause IsFault stops.Memory = Unit {0}

-- the status of a run that stops at the file of this name
abbrev pub stopped_at : List ℕ → LoadStop → Status
stopped_at name (stops.Refused fault) = Refused (File name fault)
stopped_at name stops.Failed = Fault (Load name)
stopped_at name stops.Memory = Memory

-- the run ended at the load of the file of this name, where a refusal has one of these faults
pub record EndsAtLoad (IsFault : FileFault → Type 0) (name : List ℕ)
    (status : Status) : Type 0 where
  pub stop : LoadStop
  pub is : status ≡ stopped_at name stop
  pub cause : IsCause IsFault stop

-- the shelf was read and not written; a load that failed is counted
pub record OnlyLoads (before after : ShelfState) : Type 0 where
  pub goes_on : ShelfGoesOn before after
  pub files : HoldsSame before after
  pub stores : after.store_faults ≡ before.store_faults

-- a load that failed is counted
abbrev pub LoadIsCounted : ShelfState → ShelfState → LoadStop → Type 0
LoadIsCounted before after stops.Failed = before.load_faults < after.load_faults
LoadIsCounted before after (stops.Refused fault) = Unit {0}
LoadIsCounted before after stops.Memory = Unit {0}
