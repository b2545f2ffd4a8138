-- What a run of `gpaxioms` by the lines of a log means by its status.
use Rattle.std.specs.Prelude.{◌≡◌, ℕ, List, [], codes, length}
use Rattle.kb_io.specs.Outside.{Outside, IsUnchanged}
use Rattle.kb_word.specs.Presentations.{parts_of}
use Rattle.kb_word.specs.Printed.{letter_name, text_of_word}
use Rattle.kb_word.specs.declared.presentation.Presentation.{Presentation}
use Rattle.kb_fsa.specs.Language.{Automaton}
use Rattle.kb_structure.specs.Structure.{IsAutomaticStructure}
use Rattle.kb_structure.specs.declared.cert.Cert.{Cert as StructureCert}
use Rattle.kb_structure.specs.declared.cert.Cert.TheVariants.{N3}
use Rattle.kb_proof.specs.declared.log.Log.{Log}
use Rattle.kb_proof.specs.declared.verified.Why.{Why}
use Rattle.kb_bylog.specs.LogLines.{IsJustifiedBy, IsUnjustifiedAt, Settles, lines_of, relations}
use Rattle.kb_axioms.specs.Answered.{IsFirstOfAll}
use Rattle.kb_axioms.specs.Checked.{IsFirstCount, PassesRelations, own_structure}
use Rattle.kb_axioms.specs.Truth.{AgreeUpTo, IsFirstUnresolved}
use Rattle.kb_axioms.specs.declared.answers.Construction.{Construction as Counted}
use Rattle.kb_task.specs.Limits.{undecided_line}
use Rattle.kb_task.specs.Loads.{Files, EndsAtLoad}
use Rattle.kb_task.specs.Logs.{HoldsDerivations, IsDerivationsFault}
use Rattle.kb_task.specs.Presentations.{IsGroupFault}
use Rattle.kb_task.specs.Reasons.{unjustified_line}
use Rattle.kb_task.specs.Refusals.{IsRefusedFor}
use Rattle.kb_task.specs.Stores.{Text}
use Rattle.kb_task.specs.declared.status.Cert.TheVariants.{NotJustified, Structure}
use Rattle.kb_task.specs.declared.status.FileFault.{FileFault}
use Rattle.kb_task.specs.declared.status.FileFault.TheVariants.{LogUnresolved}
use Rattle.kb_task.specs.declared.status.Limit.TheVariants.{States}
use Rattle.kb_task.specs.declared.status.Refusal.TheVariants.{File}
use Rattle.kb_task.specs.declared.status.Status.{Status}
use Rattle.kb_task.specs.declared.status.Status.TheVariants.{Yes, No, Refused, Undecided}
use Rattle.kb_evidence.specs.Files.{log_file}
use Rattle.kb_cmd_structures.specs.Given.{CheckGiven}
use Rattle.kb_cmd_structures.specs.Gpaxioms.{checked_by, construction_of}
use Rattle.kb_cmd_structures.specs.Lines.{certificate_line}
use Rattle.kb_cmd_structures.specs.Loaded.{EndsAtAutomata, HoldsGroup, HoldStructure, IsAutomatonRefused}
use Rattle.kb_cmd_structures.specs.Shown.{ShowMeans}

-- ---- files

-- the file beside the group's holds this log, over the group's generators
abbrev pub HoldsLogBeside : Files → List ℕ → Presentation → Log → Type 0
HoldsLogBeside files file presentation log =
    HoldsDerivations files (log_file file) presentation.names log

-- why the file beside the group's holds no log with derivations
abbrev pub IsLogFaultBeside : Files → List ℕ → Presentation → FileFault → Type 0
IsLogFaultBeside files file presentation =
    IsDerivationsFault presentation.names files (log_file file)

-- the files hold this group and this log
pub record HoldLogged (files : Files) (file : List ℕ) (presentation : Presentation)
    (log : Log) : Type 0 where
  pub group : HoldsGroup files file presentation
  pub log_is : HoldsLogBeside files file presentation log

-- The run ended at the load of a file: of the group's; of the log; or, where the log is justified, of one of the
-- automata.
pub data EndsAtLogged (files : Files) (file : List ℕ) (status : Status) : Type 0 where
  at_logged_group : EndsAtLoad (IsGroupFault files file) file status
      → EndsAtLogged files file status
  at_log : {presentation : Presentation} → HoldsGroup files file presentation
      → EndsAtLoad (IsLogFaultBeside files file presentation) (log_file file) status
      → EndsAtLogged files file status
  at_logged_automata : {presentation : Presentation} {log : Log}
      → HoldLogged files file presentation log
      → IsJustifiedBy (parts_of presentation) log
      → EndsAtAutomata files file presentation status
      → EndsAtLogged files file status

-- ---- what is found

-- There is no certificate but perhaps of the last kind, and the lines don't settle that: they leave a relation or an
-- overlap apart, and by them the label of a state of the multiplier of x and another label word have these normal
-- forms.
pub record IsUnresolvedBy (given : CheckGiven) (presentation : Presentation) (log : Log)
    (acceptor : Automaton) (multipliers : List Automaton) (x : ℕ) (label other : List ℕ) : Type 0 where
  pub passes : PassesRelations (checked_by given presentation acceptor multipliers)
  pub unsettled : ¬ Settles (lines_of log) (relations (parts_of presentation))
  pub state : ℕ
  pub first : IsFirstUnresolved presentation (lines_of log) multipliers x state label other

-- why the file of the log is refused then: the generator's name, and both words
pub record IsUnresolvedFault (given : CheckGiven) (presentation : Presentation) (log : Log)
    (acceptor : Automaton) (multipliers : List Automaton) (fault : FileFault) : Type 0 where
  pub x : ℕ
  pub label : List ℕ
  pub other : List ℕ
  pub unresolved : IsUnresolvedBy given presentation log acceptor multipliers x label other
  pub is : fault
      ≡ LogUnresolved (letter_name presentation.names x) (text_of_word presentation.names label)
      (text_of_word presentation.names other)

-- a certificate of the last kind is found only where the lines settle the relations; the others need no lines
abbrev pub IsSettledFor : Presentation → Log → StructureCert → Type 0
IsSettledFor presentation log (N3 x u v) =
    Settles (lines_of log) (relations (parts_of presentation))
IsSettledFor presentation log _ = Unit {0}

-- What is found of the automata by the lines of a justified log: the status, the files that are stored, and the line
-- that is written. They are the group's own, and the lines show it; or the first certificate shows that they aren't;
-- or a count is above the limit, and no certificate comes before it; or the lines don't settle it, and nothing is
-- written.
pub data FindsByLog (given : CheckGiven) (presentation : Presentation) (log : Log)
    (acceptor : Automaton) (multipliers : List Automaton)
    : Status → List Text → List ℕ → Type 0 where
  own_by_log : PassesRelations (checked_by given presentation acceptor multipliers)
      → IsAutomaticStructure
      (own_structure (checked_by given presentation acceptor multipliers))
      → AgreeUpTo presentation (lines_of log) multipliers (length multipliers)
      → FindsByLog given presentation log acceptor multipliers Yes [] (codes "yes\n")
  refuted_by_log : {cert : StructureCert}
      → IsFirstOfAll (checked_by given presentation acceptor multipliers) cert
      → IsSettledFor presentation log cert
      → FindsByLog given presentation log acceptor multipliers (No (Structure cert)) []
      (certificate_line presentation.names cert)
  too_many_by_log : {which : Counted}
      → IsFirstCount (checked_by given presentation acceptor multipliers) which
      → FindsByLog given presentation log acceptor multipliers
      (Undecided (States (construction_of which))) []
      (undecided_line presentation.names (States (construction_of which)))
  unresolved_by_log : {fault : FileFault}
      → IsUnresolvedFault given presentation log acceptor multipliers fault
      → FindsByLog given presentation log acceptor multipliers
      (Refused (File (log_file given.file) fault)) [] []

-- What is found of a log that isn't justified: the first line that doesn't follow, with its first reason.
pub data FindsUnjustified (presentation : Presentation) (log : Log)
    : Status → List Text → List ℕ → Type 0 where
  unjustified : {number : ℕ} {why : Why}
      → IsUnjustifiedAt (parts_of presentation) log number why
      → FindsUnjustified presentation log (No (NotJustified number why)) []
      (unjustified_line number why)

-- ---- what is refused

-- The files hold a group, a log that is justified, and automata; and the lines of the log leave open what these are.
pub record IsLogUnresolved (given : CheckGiven) (files : Files) (fault : FileFault) : Type 0 where
  pub presentation : Presentation
  pub log : Log
  pub acceptor : Automaton
  pub multipliers : List Automaton
  pub held : HoldStructure files given.file presentation acceptor multipliers
  pub log_is : HoldsLogBeside files given.file presentation log
  pub justified : IsJustifiedBy (parts_of presentation) log
  pub unresolved : IsUnresolvedFault given presentation log acceptor multipliers fault

-- The file of the group has a fault; or, where it holds one, that of the log has; or, where the log is justified,
-- that of one of the automata; or, where all of them are held, the lines of the log leave open what the automata are,
-- and the file of the log is refused for that.
pub data IsLoggedRefused (given : CheckGiven) (files : Files) (name : List ℕ) (fault : FileFault)
    : Type 0 where
  refused_logged_group : IsRefusedFor (IsGroupFault files given.file) given.file name fault
      → IsLoggedRefused given files name fault
  refused_log : {presentation : Presentation} → HoldsGroup files given.file presentation
      → IsRefusedFor (IsLogFaultBeside files given.file presentation) (log_file given.file) name
      fault
      → IsLoggedRefused given files name fault
  refused_logged_automata : {presentation : Presentation} {log : Log}
      → HoldLogged files given.file presentation log
      → IsJustifiedBy (parts_of presentation) log
      → IsAutomatonRefused files given.file presentation name fault
      → IsLoggedRefused given files name fault
  refused_unresolved : IsRefusedFor (IsLogUnresolved given files) (log_file given.file) name fault
      → IsLoggedRefused given files name fault

-- ---- a run

-- What each status means: the run ended at the load of a file; or the files hold a group and a log that isn't
-- justified, and that was shown; or the log is justified, the files hold automata too, and it is what was found of
-- them by its lines.
pub data ByLogMeans (given : CheckGiven) (before after : Outside) (status : Status) : Type 0 where
  at_logged : EndsAtLogged before.shelf.holds given.file status → IsUnchanged before after
      → ByLogMeans given before after status
  log_refuted : {presentation : Presentation} {log : Log}
      → HoldLogged before.shelf.holds given.file presentation log
      → ShowMeans (FindsUnjustified presentation log) before after status
      → ByLogMeans given before after status
  log_read : {presentation : Presentation} {acceptor : Automaton} {multipliers : List Automaton}
      {log : Log}
      → HoldStructure before.shelf.holds given.file presentation acceptor multipliers
      → HoldsLogBeside before.shelf.holds given.file presentation log
      → IsJustifiedBy (parts_of presentation) log
      → ShowMeans (FindsByLog given presentation log acceptor multipliers) before after status
      → ByLogMeans given before after status
