-- Files that are refused: of those that are read one after another, the first that has a fault.
use Rattle.std.specs.Prelude.{◌≡◌, ◌⊎◌, ℕ, List}
use Rattle.kb_task.specs.declared.status.FileFault.{FileFault}
use Rattle.kb_task.specs.declared.status.FileFault.TheVariants.{LogUnresolved}
use Rattle.kb_task.specs.declared.status.Refusal.TheVariants.{File}
use Rattle.kb_task.specs.declared.status.Status.{Status}
use Rattle.kb_task.specs.declared.status.Status.TheVariants.{Refused, Memory}

-- the name is that of the file, which has the fault
pub record IsRefusedFor (IsFault : FileFault → Type 0) (file name : List ℕ)
    (fault : FileFault) : Type 0 where
  pub is : name ≡ file
  pub has : IsFault fault

-- The name is that of the first of two files that has a fault: of the one that is read first; or, where that holds what
-- it has to, of the one that is read next, which has a fault by what the first one holds.
pub data IsRefusedOfTwo {Held : Type 0} (IsFault : FileFault → Type 0) (file : List ℕ)
    (Holds : Held → Type 0) (IsNextFault : Held → FileFault → Type 0) (next name : List ℕ)
    (fault : FileFault) : Type 0 where
  refused_first : IsRefusedFor IsFault file name fault
      → IsRefusedOfTwo IsFault file Holds IsNextFault next name fault
  refused_next : (held : Held) → Holds held → IsRefusedFor (IsNextFault held) next name fault
      → IsRefusedOfTwo IsFault file Holds IsNextFault next name fault

-- The file has the fault as it is loaded. There is one fault that a file has otherwise: that the lines of a log leave
-- open whether automata are a group's own, which shows only where the automata are checked.
abbrev pub IsLoadFault : FileFault → Type 0
IsLoadFault (LogUnresolved generator label other) = ⊥
IsLoadFault _ = Unit {0}

-- the run refused no file for a fault that it has as it is loaded
abbrev pub RefusesNone : Status → Type 0
RefusesNone (Refused (File name fault)) = ¬ IsLoadFault fault
RefusesNone _ = Unit {0}

-- the run ended with the refusal of this file for this fault, or memory ran out
abbrev pub IsRefusalOrMemory : List ℕ → FileFault → Status → Type 0
IsRefusalOrMemory name fault status = (status ≡ Refused (File name fault)) ⊎ (status ≡ Memory)
