-- What a run means that loads a group with automata, and stores and writes what is found of them.
use Rattle.std.specs.Prelude.{◌≡◌, ℕ, List, ◌++◌}
use Rattle.kb_io.specs.Bytes.{AppendsPrefix}
use Rattle.kb_io.specs.Outside.{Outside, IsUnchanged, IsUnread}
use Rattle.kb_word.specs.declared.presentation.Presentation.{Presentation}
use Rattle.kb_fsa.specs.Language.{Automaton}
use Rattle.kb_task.specs.Stores.{Text, HoldsTexts, StoresFirst, StopsAtText}
use Rattle.kb_task.specs.declared.status.Status.{Status}
use Rattle.kb_task.specs.declared.status.Status.TheVariants.{Memory, Fault}
use Rattle.kb_task.specs.declared.status.Which.TheVariants.{Store, Output}
use Rattle.kb_cmd_structures.specs.Loaded.{HoldStructure, EndsAtFile}

-- what may be found: the status, the files that are stored, and the line that is written
abbrev pub Found : Type 1
Found = Status → List Text → List ℕ → Type 0

-- what may be found of a group's automata
abbrev pub FoundOf : Type 1
FoundOf = Presentation → Automaton → List Automaton → Found

-- What each status means once the files have been read: what was found was stored and its line written; or the output
-- failed in the line, or the store of a file; or memory ran out before anything was done, or in the stores.
pub data ShowMeans (found : Found) (before after : Outside) : Status → Type 0 where
  shown : {status : Status} {texts : List Text} {line : List ℕ} → found status texts line
      → HoldsTexts texts before.shelf after.shelf → IsUnread before after
      → after.output.written ≡ before.output.written ++ line
      → ShowMeans found before after status
  output_failed : {status : Status} {texts : List Text} {line : List ℕ} → found status texts line
      → HoldsTexts texts before.shelf after.shelf → IsUnread before after
      → AppendsPrefix before.output.written after.output.written line
      → ShowMeans found before after (Fault Output)
  store_failed : {status : Status} {texts : List Text} {line : List ℕ} {name : List ℕ}
      → found status texts line → StopsAtText texts name before after
      → ShowMeans found before after (Fault (Store name))
  no_memory_stored : {status : Status} {texts : List Text} {line : List ℕ}
      → found status texts line → StoresFirst texts before after
      → ShowMeans found before after Memory
  no_memory : IsUnchanged before after → ShowMeans found before after Memory

-- What each status means: the run ended at the load of a file; or the files hold a group, a word acceptor and
-- multipliers, and it is what was found of them.
pub data StructureMeans (found : FoundOf) (file : List ℕ) (before after : Outside)
    (status : Status) : Type 0 where
  at_file : EndsAtFile before.shelf.holds file status → IsUnchanged before after
      → StructureMeans found file before after status
  loaded : {presentation : Presentation} {acceptor : Automaton} {multipliers : List Automaton}
      → HoldStructure before.shelf.holds file presentation acceptor multipliers
      → ShowMeans (found presentation acceptor multipliers) before after status
      → StructureMeans found file before after status
