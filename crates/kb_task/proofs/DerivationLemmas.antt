-- Where no log is held, none with derivations is.
use Rattle.std.proofs.Common.{ℕ, List}
use Rattle.kb_task.specs.Loads.{Files, IsCause}
use Rattle.kb_task.specs.Logs.{IsDerivationsFault, IsLogFault}
use Rattle.kb_task.specs.declared.loading.LoadStop.{LoadStop}
use Rattle.kb_task.specs.declared.loading.LoadStop.TheVariants as stops
use Rattle.kb_task.specs.declared.status.FileFault.{FileFault}
use Rattle.kb_task.specs.declared.status.FileFault.TheVariants.{NoDerivations}

pub fault_kept : (names : List (List ℕ)) (files : Files) (name : List ℕ) (fault : FileFault) → IsLogFault names files name fault
    → IsDerivationsFault names files name fault
fault_kept names files name NoDerivations h = absurd h
fault_kept names files name fault h = h

pub cause_kept : (names : List (List ℕ)) (files : Files) (name : List ℕ) (stop : LoadStop) → IsCause (IsLogFault names files name) stop
    → IsCause (IsDerivationsFault names files name) stop
cause_kept names files name (stops.Refused fault) cause = fault_kept names files name fault cause
cause_kept names files name stops.Failed cause = tt
cause_kept names files name stops.Memory cause = tt
