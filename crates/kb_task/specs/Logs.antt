-- Files of logs.
use Rattle.std.specs.Prelude.{◌≡◌, ◌≢◌, ℕ, List}
use Rattle.kb_proof.specs.Faults.{HasLogFault}
use Rattle.kb_proof.specs.Printable.{AreReadableNames, IsPrintable}
use Rattle.kb_proof.specs.Printed.{text_of_log}
use Rattle.kb_proof.specs.declared.error.LogError.TheVariants as log_errors
use Rattle.kb_proof.specs.declared.log.Log.{Log}
use Rattle.kb_proof.specs.declared.log.Version.TheVariants.{One, Two}
use Rattle.kb_task.specs.Loads.{Files, IsHeld, IsNoText}
use Rattle.kb_task.specs.declared.status.FileFault.{FileFault}
use Rattle.kb_task.specs.declared.status.FileFault.TheVariants.{Missing, TooLong, NoDerivations, Log as NoLog}

-- the file of this name holds this log, over letters with these names
pub record HoldsLog (files : Files) (name : List ℕ) (names : List (List ℕ))
    (log : Log) : Type 0 where
  pub bytes : List ℕ
  pub held : IsHeld files name bytes
  pub says : bytes ≡ text_of_log names log
  pub readable : AreReadableNames names
  pub printable : IsPrintable names log

-- why the file of this name holds no log: it isn't there, is too long, or has the fault that is named
abbrev pub IsLogFault : List (List ℕ) → Files → List ℕ → FileFault → Type 0
IsLogFault names files name Missing = IsNoText files name Missing
IsLogFault names files name TooLong = IsNoText files name TooLong
IsLogFault names files name (NoLog fault) =
    (bytes : List ℕ) × IsHeld files name bytes × HasLogFault names bytes fault
    × (fault ≢ log_errors.Memory)
IsLogFault names files name _ = ⊥

-- the file of this name holds this log, over letters with these names, and the log has derivations
pub record HoldsDerivations (files : Files) (name : List ℕ) (names : List (List ℕ))
    (log : Log) : Type 0 where
  pub holds : HoldsLog files name names log
  pub with_derivations : log.version ≡ Two

-- the file of this name holds a log without derivations
pub record HoldsNoDerivations (files : Files) (name : List ℕ) (names : List (List ℕ)) : Type 0 where
  pub log : Log
  pub holds : HoldsLog files name names log
  pub without : log.version ≡ One

-- why the file of this name holds no log with derivations: it holds no log, or one without them
abbrev pub IsDerivationsFault : List (List ℕ) → Files → List ℕ → FileFault → Type 0
IsDerivationsFault names files name NoDerivations = HoldsNoDerivations files name names
IsDerivationsFault names files name fault = IsLogFault names files name fault
