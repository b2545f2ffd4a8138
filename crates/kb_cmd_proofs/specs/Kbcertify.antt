-- What a run of `kbcertify` means by its status.
use Rattle.std.specs.Prelude.{◌≡◌, ℕ, ◌⊎◌, List, codes}
use Rattle.kb_io.specs.Outside.{Outside, IsUnchanged}
use Rattle.kb_word.specs.Presentations.{PresentationParts}
use Rattle.kb_task.specs.Automata.{IsUnrefused}
use Rattle.kb_task.specs.Loads.{EndsAtLoad}
use Rattle.kb_task.specs.Presentations.{HoldsPresentation, IsPresentationFault}
use Rattle.kb_task.specs.Promises.{Promise}
use Rattle.kb_task.specs.Refusals.{IsRefusedFor}
use Rattle.kb_task.specs.Statuses.{AnswersYesOrLimit}
use Rattle.kb_task.specs.Stores.{Text, texts_of}
use Rattle.kb_task.specs.declared.status.Limit.{Limit}
use Rattle.kb_task.specs.declared.status.Status.{Status}
use Rattle.kb_task.specs.declared.status.Status.TheVariants.{Yes, Undecided}
use Rattle.kb_evidence.specs.Files.{rules_file, acceptor_file, log_file}
use Rattle.kb_evidence.specs.Settled.{IsYesOrStates}
use Rattle.kb_evidence.specs.Shown.{ShowsLimit}
use Rattle.kb_cmd_proofs.specs.Certified.{AreCertified}
use Rattle.kb_cmd_proofs.specs.Given.{KbcertifyGiven}
use Rattle.kb_cmd_proofs.specs.Shown.{ShowMeans}
use Rattle.kb_cmd_proofs.specs.declared.finding.Finding.{Finding}

-- the line of a presentation that was completed
abbrev pub yes_line : List ℕ
yes_line = codes "yes\n"

-- What is found of a presentation: the status, the files that are stored, and the line that is written. It was
-- completed within the limits, and its log certifies that; or one was reached, as log and rules show.
pub data FindsCertified (given : KbcertifyGiven) (parts : PresentationParts) : Status → List Text
    → List ℕ → Type 0 where
  certified : {texts : List Text} → AreCertified given.limits given.file parts texts
      → FindsCertified given parts Yes texts yes_line
  limited : {limit : Limit} {texts : List Text} {line : List ℕ}
      → ShowsLimit given.limits given.file parts limit texts line
      → FindsCertified given parts (Undecided limit) texts line

-- this is found
abbrev pub IsFound : KbcertifyGiven → PresentationParts → Finding → Type 0
IsFound given parts finding =
    FindsCertified given parts finding.status (texts_of finding.files.items) finding.line.items

-- What each status means: the run ended at the load of the file; or the file holds a presentation, and it is what was
-- found of that. Of the input nothing is read.
abbrev pub KbcertifyMeans : KbcertifyGiven → Outside → Outside → Status → Type 0
KbcertifyMeans given before after status =
    (EndsAtLoad (IsPresentationFault before.shelf.holds given.file) given.file status
    × IsUnchanged before after)
    ⊎ ((parts : PresentationParts) × HoldsPresentation before.shelf.holds given.file parts
    × ShowMeans (FindsCertified given parts) before after status)

-- the files that the presentation alone settles, where it is completed: the rules and the word acceptor
abbrev pub kbcertify_settled_stores : KbcertifyGiven → List ℕ → Type 0
kbcertify_settled_stores given name =
    (name ≡ rules_file given.file) ⊎ (name ≡ acceptor_file given.file)

-- it may store these, and the log
abbrev pub kbcertify_may_store : KbcertifyGiven → List ℕ → Type 0
kbcertify_may_store given name =
    (name ≡ log_file given.file) ⊎ kbcertify_settled_stores given name

-- the file of the presentation isn't refused
abbrev pub IsKbcertifyUnrefused : KbcertifyGiven → Outside → Type 0
IsKbcertifyUnrefused given before =
    IsUnrefused (IsPresentationFault before.shelf.holds given.file)

-- Whether a limit of the log is reached may depend on the course of the completion. Another on the same file is
-- the same but for its workers and its limits: they change no byte of the rules and of the word acceptor that a
-- yes stores. Which log certifies these is left open.
abbrev pub kbcertify_promise : KbcertifyGiven → Promise KbcertifyGiven
kbcertify_promise given = record {
  means = KbcertifyMeans given;
  may_store = kbcertify_may_store given;
  settled_stores = kbcertify_settled_stores given;
  reads = λ name. name ≡ given.file;
  refuses = λ before. IsRefusedFor (IsPresentationFault before.shelf.holds given.file) given.file;
  is_unrefused = IsKbcertifyUnrefused given;
  answers = AnswersYesOrLimit;
  settles = IsYesOrStates;
  differs_in_options = λ other. given.file ≡ other.file;
}
