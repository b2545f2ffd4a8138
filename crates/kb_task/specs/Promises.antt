-- What a command promises of its runs, and the laws that its promise keeps.
use Rattle.std.specs.Prelude.{◌≡◌, ℕ, List}
use Rattle.kb_io.specs.Outside.{Outside}
use Rattle.kb_task.specs.OneReason.{HaveOneReason}
use Rattle.kb_task.specs.Refusals.{IsLoadFault, IsRefusalOrMemory}
use Rattle.kb_task.specs.Runs.{IsRun, ReadsSame, HasSameEffect}
use Rattle.kb_task.specs.Statuses.{IsConclusive, IsFaultless, IsYes}
use Rattle.kb_task.specs.declared.status.FileFault.{FileFault}
use Rattle.kb_task.specs.declared.status.Refusal.TheVariants.{File}
use Rattle.kb_task.specs.declared.status.Status.{Status}
use Rattle.kb_task.specs.declared.status.Status.TheVariants.{Refused, Memory}

-- what a command with its arguments promises
pub record Promise (Task : Type 0) : Type 1 where
  -- what a run from one moment of the outside to another means by its status
  pub means : Outside → Outside → Status → Type 0
  -- the names under which it may store; those of them whose bytes status 0 settles, which are all but those of a log
  pub may_store : List ℕ → Type 0
  pub settled_stores : List ℕ → Type 0
  -- the names of the files that it reads
  pub reads : List ℕ → Type 0
  -- the file of this name is the first that has a fault as it is loaded, of those that it reads in their order, and
  -- this is the fault
  pub refuses : Outside → List ℕ → FileFault → Type 0
  -- nothing of what it reads is refused; the statuses with which it then ends, where no device fails
  pub is_unrefused : Outside → Type 0
  pub answers : Status → Type 0
  -- the statuses that the files settle: whether a run near a limit reaches it may depend on its course
  pub settles : Status → Type 0
  -- another command is the same but for options that change no answer
  pub differs_in_options : Task → Type 0

-- a run of the command keeps the promise
abbrev pub Keeps : {Task : Type 0} → Promise Task → Outside → Outside → Status → Type 0
Keeps promise = IsRun promise.means promise.may_store

-- the same promise, where the command is one of a family
abbrev pub in_family : {Task Family : Type 0} → (Task → Family) → Promise Task → Promise Family
in_family {Task} variant promise = record {
  means = promise.means;
  may_store = promise.may_store;
  settled_stores = promise.settled_stores;
  reads = promise.reads;
  refuses = promise.refuses;
  is_unrefused = promise.is_unrefused;
  answers = promise.answers;
  settles = promise.settles;
  differs_in_options = λ other.
      (same : Task) × (other ≡ variant same) × promise.differs_in_options same;
}

-- The laws of a command's own promise, among commands that promise so.
pub record IsLawful {Task : Type 0} (promise : Task → Promise Task)
    (own : Promise Task) : Type 0 where
  -- Where nothing that it reads is refused and no device failed, it has one of its answers.
  pub complete : (before after : Outside) (status : Status)
      → own.means before after status → own.is_unrefused before → IsFaultless status
      → own.answers status
  -- want of memory is one of them
  pub memory : own.answers Memory
  -- The file that is refused, if the fault is one that it has as it is loaded, is the first that has one.
  pub refused : (before after : Outside) (name : List ℕ) (fault : FileFault)
      → own.means before after (Refused (File name fault)) → IsLoadFault fault
      → own.refuses before name fault
  -- And where a file has a fault, the run ends with exactly that refusal, but where memory runs out or a device fails.
  -- That needs of files that each has one fault at most, and none where it holds what it has to.
  pub exact : HaveOneReason → (before after : Outside) (status : Status) (name : List ℕ)
      (fault : FileFault)
      → own.means before after status → own.refuses before name fault → IsFaultless status
      → IsRefusalOrMemory name fault status
  -- The files that it reads settle the answer: two runs with statuses that the files settle have one status.
  pub settled : (before after other_before other_after : Outside) (status other : Status)
      → own.means before after status → own.means other_before other_after other
      → ReadsSame own.reads before other_before → own.settles status → own.settles other
      → status ≡ other
  -- a status that they settle is yes, no or a limit
  pub conclusive : (status : Status) → own.settles status → IsConclusive status
  -- What status 0 writes, and stores under the names that it settles, is one function of the command without its
  -- options, of the files that it reads and of the input.
  pub one_function : (other_task : Task) (before after other_before other_after : Outside)
      (status other : Status)
      → own.means before after status
      → (promise other_task).means other_before other_after other
      → IsYes status → IsYes other
      → own.differs_in_options other_task → ReadsSame own.reads before other_before
      → before.input.left ≡ other_before.input.left
      → HasSameEffect own.settled_stores before after other_before other_after
