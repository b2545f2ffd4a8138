-- A file is refused for one reason at most, and for none where it holds what is needed.
use Rattle.std.specs.Prelude.{◌≡◌, ℕ, List, length}
use Rattle.kb_word.specs.Presentations.{PresentationParts}
use Rattle.kb_word.specs.declared.word_order.WordOrder.TheVariants.{ShortLex}
use Rattle.kb_fsa.specs.Language.{Automaton}
use Rattle.kb_fsa.specs.declared.alphabet.Alphabet.{Alphabet}
use Rattle.kb_proof.specs.declared.log.Log.{Log}
use Rattle.kb_task.specs.Automata.{HoldsAutomaton, HasKind, IsAutomatonFault, IsSecondFault, IsUnrefused}
use Rattle.kb_task.specs.Loads.{Files}
use Rattle.kb_task.specs.Logs.{HoldsDerivations, HoldsLog, IsDerivationsFault, IsLogFault}
use Rattle.kb_task.specs.Presentations.{HoldsPresentation, HoldsGroup, IsPresentationFault, IsShortlexFault, IsGroupFault}
use Rattle.kb_task.specs.Subgroups.{HoldsMarkable, HoldsSubgroup, IsMarkableFault, IsSubgroupFault}
use Rattle.kb_task.specs.declared.loading.automata.Kind.{Kind}
use Rattle.kb_task.specs.declared.status.FileFault.{FileFault}

-- there is one fault at most, and none where what is needed is held
pub record HasOneReason (Holds : Type 0) (IsFault : FileFault → Type 0) : Type 0 where
  pub one : (fault other : FileFault) → IsFault fault → IsFault other → fault ≡ other
  pub none : Holds → IsUnrefused IsFault

-- the file holds a presentation by shortlex
abbrev pub HoldsShortlex : Files → List ℕ → PresentationParts → Type 0
HoldsShortlex files name parts = HoldsPresentation files name parts × (parts.order ≡ ShortLex)

-- the file holds an automaton of the kind, over letters with these names
abbrev pub HoldsOfKind : Kind → Files → List ℕ → (List (List ℕ) × Automaton) → Type 0
HoldsOfKind kind files name held =
    HoldsAutomaton files name held.0 held.1 × HasKind kind held.1.alphabet

-- the file holds an automaton of the kind, over letters with these names and over this alphabet
abbrev pub HoldsOver : Kind → List (List ℕ) → Alphabet → Files → List ℕ → Automaton → Type 0
HoldsOver kind names alphabet files name automaton =
    HoldsAutomaton files name names automaton × (automaton.alphabet ≡ alphabet)
    × HasKind kind automaton.alphabet

-- Each file has one fault at most, and none where it holds what it has to, whatever that is.
pub record HaveOneReason : Type 0 where
  pub presentation : (files : Files) (name : List ℕ)
      → HasOneReason ((parts : PresentationParts) × HoldsPresentation files name parts)
      (IsPresentationFault files name)
  pub shortlex : (files : Files) (name : List ℕ)
      → HasOneReason ((parts : PresentationParts) × HoldsShortlex files name parts)
      (IsShortlexFault files name)
  pub group : (files : Files) (name : List ℕ)
      → HasOneReason ((parts : PresentationParts) × HoldsGroup files name parts)
      (IsGroupFault files name)
  pub markable : (files : Files) (name : List ℕ)
      → HasOneReason ((parts : PresentationParts) × HoldsMarkable files name parts)
      (IsMarkableFault files name)
  pub subgroup : (parts : PresentationParts) (files : Files) (name : List ℕ)
      → HasOneReason ((generators : List (List ℕ)) × HoldsSubgroup parts files name generators)
      (IsSubgroupFault parts files name)
  pub automaton : (kind : Kind) (files : Files) (name : List ℕ)
      → HasOneReason ((held : (List (List ℕ) × Automaton)) × HoldsOfKind kind files name held)
      (IsAutomatonFault kind files name)
  pub second : (kind : Kind) (names : List (List ℕ)) (alphabet : Alphabet) (files : Files)
      (name : List ℕ)
      → HasOneReason ((automaton : Automaton) × HoldsOver kind names alphabet files name automaton)
      (IsSecondFault kind names alphabet files name)
  pub log : (files : Files) (file name : List ℕ) (parts : PresentationParts)
      → HoldsPresentation files file parts
      → HasOneReason ((log : Log) × HoldsLog files name parts.names log)
      (IsLogFault parts.names files name)
  pub derivations : (files : Files) (file name : List ℕ) (parts : PresentationParts)
      → HoldsPresentation files file parts
      → HasOneReason ((log : Log) × HoldsDerivations files name parts.names log)
      (IsDerivationsFault parts.names files name)
