-- What a run of `gpaxioms` means by its status, by a completion or by the lines of a log.
use Rattle.std.specs.Prelude.{◌≡◌, ◌⊎◌, ℕ, Bool, true, false, List}
use Rattle.kb_io.specs.Outside.{Outside}
use Rattle.kb_task.specs.Promises.{Promise}
use Rattle.kb_task.specs.Statuses.{IsAnswer, IsConclusive}
use Rattle.kb_task.specs.declared.status.FileFault.{FileFault}
use Rattle.kb_task.specs.declared.status.Status.{Status}
use Rattle.kb_evidence.specs.Files.{log_file}
use Rattle.kb_cmd_structures.specs.ByLog.{ByLogMeans, IsLoggedRefused}
use Rattle.kb_cmd_structures.specs.Given.{CheckGiven, GpaxiomsGiven}
use Rattle.kb_cmd_structures.specs.Gpaxioms.{Finds, GpaxiomsMayStore, GpaxiomsReads, GpaxiomsSettles, IsGpaxiomsUnrefused}
use Rattle.kb_cmd_structures.specs.Loaded.{IsStructureRefused}
use Rattle.kb_cmd_structures.specs.Shown.{StructureMeans}

-- what each status means, where the lines of the log decide or a completion
abbrev pub MeansBy : Bool → CheckGiven → Outside → Outside → Status → Type 0
MeansBy true check = ByLogMeans check
MeansBy false check = StructureMeans (Finds check) check.file

-- by the log nothing is stored
abbrev pub MayStoreBy : Bool → CheckGiven → List ℕ → Type 0
MayStoreBy true check name = ⊥
MayStoreBy false check name = GpaxiomsMayStore check name

-- where the lines of the log decide, its file is read too
abbrev pub ReadsBy : Bool → CheckGiven → List ℕ → Type 0
ReadsBy true check name = (name ≡ log_file check.file) ⊎ GpaxiomsReads check name
ReadsBy false check name = GpaxiomsReads check name

-- The first of the files that has a fault; by the log, that its lines leave open what the automata are comes last.
abbrev pub RefusesBy : Bool → CheckGiven → Outside → List ℕ → FileFault → Type 0
RefusesBy true check before = IsLoggedRefused check before.shelf.holds
RefusesBy false check before = IsStructureRefused before.shelf.holds check.file

-- by the log none of the files is refused, for whatever fault
abbrev pub IsByLogUnrefused : CheckGiven → Outside → Type 0
IsByLogUnrefused check before = (name : List ℕ) (fault : FileFault)
    → ¬ IsLoggedRefused check before.shelf.holds name fault

abbrev pub IsUnrefusedBy : Bool → CheckGiven → Outside → Type 0
IsUnrefusedBy true check before = IsByLogUnrefused check before
IsUnrefusedBy false check before = IsGpaxiomsUnrefused check before

-- by the log no completion runs, and the files settle each answer
abbrev pub SettlesBy : Bool → Status → Type 0
SettlesBy true = IsConclusive
SettlesBy false = GpaxiomsSettles

-- Whether a completion halts may depend on its course. Another on the same file is the same but for its workers, its
-- limits, and what decides: a yes means the same of both.
abbrev pub gpaxioms_promise : GpaxiomsGiven → Promise GpaxiomsGiven
gpaxioms_promise given = record {
  means = MeansBy given.by_log given.check;
  may_store = MayStoreBy given.by_log given.check;
  settled_stores = MayStoreBy given.by_log given.check;
  reads = ReadsBy given.by_log given.check;
  refuses = RefusesBy given.by_log given.check;
  is_unrefused = IsUnrefusedBy given.by_log given.check;
  answers = IsAnswer;
  settles = SettlesBy given.by_log;
  differs_in_options = λ other. given.check.file ≡ other.check.file;
}
