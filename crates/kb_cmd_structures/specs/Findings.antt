-- What is found of automata, as the code has it.
use Rattle.std.specs.Prelude.{◌≡◌, ℕ, List}
use Rattle.kb_word.specs.declared.presentation.Presentation.{Presentation}
use Rattle.kb_fsa.specs.Language.{Automaton}
use Rattle.kb_task.specs.Stores.{Text, texts_of}
use Rattle.kb_task.specs.declared.status.Status.{Status}
use Rattle.kb_cmd_structures.specs.Given.{CheckGiven}
use Rattle.kb_cmd_structures.specs.Gpaxioms.{Finds}
use Rattle.kb_cmd_structures.specs.declared.finding.Finding.{Finding}

-- the finding has this status, these files and this line
pub record HasParts (status : Status) (texts : List Text) (line : List ℕ) (finding : Finding)
    : Type 0 where
  pub ends : finding.status ≡ status
  pub stores : texts_of finding.files.items ≡ texts
  pub writes : finding.line.items ≡ line

-- this is found
abbrev pub IsFound : CheckGiven → Presentation → Automaton → List Automaton → Finding → Type 0
IsFound given presentation acceptor multipliers finding =
    Finds given presentation acceptor multipliers finding.status (texts_of finding.files.items)
    finding.line.items
