-- What is loaded where the lines of a log decide, and what is found of it, as the code has it.
use Rattle.std.specs.Prelude.{ℕ, ◌≤◌, List, [], length}
use Rattle.kb_word.specs.Presentations.{parts_of}
use Rattle.kb_word.specs.declared.presentation.Presentation.{Presentation}
use Rattle.kb_fsa.specs.Language.{Automaton}
use Rattle.kb_structure.specs.Structure.{IsAutomaticStructure}
use Rattle.kb_proof.specs.declared.log.Log.{Log}
use Rattle.kb_proof.specs.declared.verified.Why.{Why}
use Rattle.kb_bylog.specs.LogLines.{IsJustifiedBy, IsUnjustifiedAt, lines_of}
use Rattle.kb_axioms.specs.Answered.{IsFirstOfAll}
use Rattle.kb_axioms.specs.Checked.{IsFirstCount, PassesRelations, own_structure}
use Rattle.kb_axioms.specs.Truth.{AgreeUpTo}
use Rattle.kb_axioms.specs.declared.answers.Axioms.{Axioms}
use Rattle.kb_axioms.specs.declared.answers.Axioms.TheVariants as answers
use Rattle.kb_task.specs.Loads.{Files, most_file}
use Rattle.kb_task.specs.Reasons.{unjustified_line}
use Rattle.kb_task.specs.Stores.{texts_of}
use Rattle.kb_task.specs.declared.status.Cert.TheVariants.{NotJustified}
use Rattle.kb_task.specs.declared.status.Status.TheVariants.{No}
use Rattle.kb_cmd_structures.specs.ByLog.{FindsByLog, HoldLogged, HoldsLogBeside, IsSettledFor, IsUnresolvedBy}
use Rattle.kb_cmd_structures.specs.Findings.{HasParts}
use Rattle.kb_cmd_structures.specs.Given.{CheckGiven}
use Rattle.kb_cmd_structures.specs.Gpaxioms.{checked_by}
use Rattle.kb_cmd_structures.specs.Loaded.{AreAutomataOver, HoldStructure}
use Rattle.kb_cmd_structures.specs.declared.finding.Finding.{Finding}
use Rattle.kb_cmd_structures.specs.declared.logged.Logged.{Logged}
use Rattle.kb_cmd_structures.specs.declared.logged.Logged.TheVariants.{Justified, Unjustified}

-- the files hold a group and a log that isn't justified at this line, for this reason
pub record HoldUnjustified (files : Files) (file : List ℕ) (number : ℕ) (why : Why) : Type 0 where
  pub presentation : Presentation
  pub log : Log
  pub holds : HoldLogged files file presentation log
  pub is : IsUnjustifiedAt (parts_of presentation) log number why

-- what was loaded is what the files hold
abbrev pub AreLogged : Files → List ℕ → Logged → Type 0
AreLogged files file (Justified loaded log) =
    HoldStructure files file loaded.presentation loaded.acceptor loaded.multipliers.items
    × HoldsLogBeside files file loaded.presentation log
AreLogged files file (Unjustified number why) = HoldUnjustified files file number why

-- the log is justified and has no more lines than a file may have bytes, and the automata are over the group's
-- generators
pub record AreReady (presentation : Presentation) (acceptor : Automaton)
    (multipliers : List Automaton) (log : Log) : Type 0 where
  pub over : AreAutomataOver presentation acceptor multipliers
  pub justified : IsJustifiedBy (parts_of presentation) log
  pub few : length log.lines.items ≤ most_file

abbrev pub AreReadyIn : Logged → Type 0
AreReadyIn (Justified loaded log) =
    AreReady loaded.presentation loaded.acceptor loaded.multipliers.items log
AreReadyIn (Unjustified number why) = Unit {0}

-- What the check by the lines answers: the automata are the group's own, and the lines show it; the first
-- certificate, which the lines settle where it is of the last kind; the first count above the limit; or that the
-- lines don't settle it.
abbrev pub LinesSay : CheckGiven → Presentation → Log → Automaton → List Automaton → Axioms → Type 0
LinesSay given presentation log acceptor multipliers answers.Yes =
    PassesRelations (checked_by given presentation acceptor multipliers)
    × IsAutomaticStructure (own_structure (checked_by given presentation acceptor multipliers))
    × AgreeUpTo presentation (lines_of log) multipliers (length multipliers)
LinesSay given presentation log acceptor multipliers (answers.No cert) =
    IsFirstOfAll (checked_by given presentation acceptor multipliers) cert
    × IsSettledFor presentation log cert
LinesSay given presentation log acceptor multipliers (answers.TooManyStates which) =
    IsFirstCount (checked_by given presentation acceptor multipliers) which
LinesSay given presentation log acceptor multipliers (answers.Unresolved x state label other) =
    IsUnresolvedBy given presentation log acceptor multipliers x label other

-- this is found by the lines
abbrev pub IsFoundByLog : CheckGiven → Presentation → Log → Automaton → List Automaton → Finding
    → Type 0
IsFoundByLog given presentation log acceptor multipliers finding =
    FindsByLog given presentation log acceptor multipliers finding.status
    (texts_of finding.files.items) finding.line.items

-- this is found of what was loaded
abbrev pub IsFoundIn : CheckGiven → Logged → Finding → Type 0
IsFoundIn given (Justified loaded log) finding =
    IsFoundByLog given loaded.presentation log loaded.acceptor loaded.multipliers.items finding
IsFoundIn given (Unjustified number why) finding =
    HasParts (No (NotJustified number why)) [] (unjustified_line number why) finding
