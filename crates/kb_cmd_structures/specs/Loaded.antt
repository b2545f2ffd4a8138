-- The files of a group, of a word acceptor and of multipliers.
use Rattle.std.specs.Prelude.{◌≡◌, ℕ, suc, ◌<◌, List, length, Some}
use Rattle.kb_word.specs.Presentations.{parts_of}
use Rattle.kb_word.specs.declared.presentation.Presentation.{Presentation}
use Rattle.kb_word.specs.declared.word_order.WordOrder.TheVariants.{ShortLex}
use Rattle.kb_fsa.specs.declared.alphabet.Alphabet.TheVariants.{Plain, Pair}
use Rattle.kb_fsa.specs.Language.{Automaton}
use Rattle.kb_diff.specs.Groups.{EachInverts}
use Rattle.kb_structure.specs.StructureOf.{multiplier_of}
use Rattle.kb_axioms.specs.Truth.{AreMultipliers}
use Rattle.kb_task.specs.Automata.{HoldsAutomaton, IsSecondFault}
use Rattle.kb_task.specs.Loads.{Files, EndsAtLoad}
use Rattle.kb_task.specs.Presentations.{HoldsPresentation, IsGroupFault}
use Rattle.kb_task.specs.Refusals.{IsRefusedFor}
use Rattle.kb_task.specs.declared.loading.automata.Kind.TheVariants.{Words, Pairs}
use Rattle.kb_task.specs.declared.status.FileFault.{FileFault}
use Rattle.kb_task.specs.declared.status.Status.{Status}
use Rattle.kb_evidence.specs.Files.{acceptor_file, multiplier_file}

-- a group by shortlex: each generator has an inverse
pub record IsGroup (presentation : Presentation) : Type 0 where
  pub shortlex : presentation.order ≡ ShortLex
  pub inverses : EachInverts presentation.n presentation.inv

-- a word acceptor, and a multiplier for each generator, over a group's generators
pub record AreAutomataOver (presentation : Presentation) (acceptor : Automaton)
    (multipliers : List Automaton) : Type 0 where
  pub group : IsGroup presentation
  pub words : acceptor.alphabet ≡ Plain presentation.n
  pub pairs : AreMultipliers presentation.n multipliers

-- the file of a group holds this one
pub record HoldsGroup (files : Files) (file : List ℕ) (presentation : Presentation) : Type 0 where
  pub presents : HoldsPresentation files file (parts_of presentation)
  pub group : IsGroup presentation

-- the file of the word acceptor holds this one, over the presentation's generators
abbrev pub HoldsAcceptor : Files → List ℕ → Presentation → Automaton → Type 0
HoldsAcceptor files file presentation acceptor =
    HoldsAutomaton files (acceptor_file file) presentation.names acceptor
    × (acceptor.alphabet ≡ Plain presentation.n)

-- the file of the generator's multiplier holds this one, over the presentation's generators
abbrev pub HoldsMultiplier : Files → List ℕ → Presentation → ℕ → Automaton → Type 0
HoldsMultiplier files file presentation x multiplier =
    HoldsAutomaton files (multiplier_file file x) presentation.names multiplier
    × (multiplier.alphabet ≡ Pair presentation.n)

-- the files of the first multipliers hold these
abbrev pub HoldMultipliers : Files → List ℕ → Presentation → List Automaton → Type 0
HoldMultipliers files file presentation multipliers = (x : ℕ) (multiplier : Automaton)
    → multiplier_of multipliers x ≡ Some multiplier
    → HoldsMultiplier files file presentation x multiplier

-- the files hold this group, this word acceptor, and a multiplier for each generator
pub record HoldStructure (files : Files) (file : List ℕ) (presentation : Presentation)
    (acceptor : Automaton) (multipliers : List Automaton) : Type 0 where
  pub group : HoldsGroup files file presentation
  pub accepts : HoldsAcceptor files file presentation acceptor
  pub multiply : HoldMultipliers files file presentation multipliers
  pub one_each : length multipliers ≡ presentation.n

-- why the file of the word acceptor holds none over the presentation's generators
abbrev pub IsAcceptorFault : Files → List ℕ → Presentation → FileFault → Type 0
IsAcceptorFault files file presentation =
    IsSecondFault Words presentation.names (Plain presentation.n) files (acceptor_file file)

-- why the file of a generator's multiplier holds none over the presentation's generators
abbrev pub IsMultiplierFault : Files → List ℕ → Presentation → ℕ → FileFault → Type 0
IsMultiplierFault files file presentation x =
    IsSecondFault Pairs presentation.names (Pair presentation.n) files (multiplier_file file x)

-- the run ended at the file of the multiplier that is next after these, which the files before it hold
pub record EndsAtMultiplier (files : Files) (file : List ℕ) (presentation : Presentation)
    (status : Status) : Type 0 where
  pub earlier : List Automaton
  pub held : HoldMultipliers files file presentation earlier
  pub within : length earlier < presentation.n
  pub ends : EndsAtLoad (IsMultiplierFault files file presentation (suc (length earlier)))
      (multiplier_file file (suc (length earlier))) status

-- The run ended at the load of the word acceptor or of a multiplier over this group's generators; the files before it
-- hold what they have to.
pub data EndsAtAutomata (files : Files) (file : List ℕ) (presentation : Presentation)
    (status : Status) : Type 0 where
  at_acceptor : EndsAtLoad (IsAcceptorFault files file presentation) (acceptor_file file) status
      → EndsAtAutomata files file presentation status
  at_multiplier : {acceptor : Automaton} → HoldsAcceptor files file presentation acceptor
      → EndsAtMultiplier files file presentation status
      → EndsAtAutomata files file presentation status

-- The run ended at the load of a file: of the group's, or of one of the automata by the group that its file holds.
pub data EndsAtFile (files : Files) (file : List ℕ) (status : Status) : Type 0 where
  at_group : EndsAtLoad (IsGroupFault files file) file status → EndsAtFile files file status
  at_automata : {presentation : Presentation} → HoldsGroup files file presentation
      → EndsAtAutomata files file presentation status
      → EndsAtFile files file status

-- the file of the multiplier that is next after these, which the files before it hold, has a fault
pub record IsMultiplierRefused (files : Files) (file : List ℕ) (presentation : Presentation)
    (name : List ℕ) (fault : FileFault) : Type 0 where
  pub earlier : List Automaton
  pub held : HoldMultipliers files file presentation earlier
  pub within : length earlier < presentation.n
  pub refused : IsRefusedFor (IsMultiplierFault files file presentation (suc (length earlier)))
      (multiplier_file file (suc (length earlier))) name fault

-- The file of the word acceptor has a fault; or, where it holds one, that of a multiplier has, and those before it hold
-- what they have to.
pub data IsAutomatonRefused (files : Files) (file : List ℕ) (presentation : Presentation)
    (name : List ℕ) (fault : FileFault) : Type 0 where
  refused_acceptor : IsRefusedFor (IsAcceptorFault files file presentation) (acceptor_file file)
      name fault → IsAutomatonRefused files file presentation name fault
  refused_multiplier : {acceptor : Automaton} → HoldsAcceptor files file presentation acceptor
      → IsMultiplierRefused files file presentation name fault
      → IsAutomatonRefused files file presentation name fault

-- The file of the group has a fault; or, where it holds one, that of one of the automata has.
pub data IsStructureRefused (files : Files) (file name : List ℕ) (fault : FileFault) : Type 0 where
  refused_group : IsRefusedFor (IsGroupFault files file) file name fault
      → IsStructureRefused files file name fault
  refused_automata : {presentation : Presentation} → HoldsGroup files file presentation
      → IsAutomatonRefused files file presentation name fault
      → IsStructureRefused files file name fault
