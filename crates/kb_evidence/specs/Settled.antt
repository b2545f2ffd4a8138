-- The statuses that the file settles of a run that completes within limits what the file presents.
use Rattle.std.specs.Prelude.{List}
use Rattle.kb_word.specs.Words.{Pair}
use Rattle.kb_word.specs.Presentations.{PresentationParts}
use Rattle.kb_fsa.specs.Language.{Automaton}
use Rattle.kb_machine.specs.declared.line.Line.{Line}
use Rattle.kb_system.specs.Ended.{IsCompletionWithin}
use Rattle.kb_system.specs.Evidence.{Limits, IsTooLarge}
use Rattle.kb_task.specs.declared.status.Construction.TheVariants.{Acceptor}
use Rattle.kb_task.specs.declared.status.Limit.TheVariants.{States}
use Rattle.kb_task.specs.declared.status.Status.{Status}
use Rattle.kb_task.specs.declared.status.Status.TheVariants.{Yes, Undecided}

-- The run answered yes, or a construction would have too many states. Which of both it is doesn't depend on the course
-- of the completion; whether a limit of its log is reached may.
abbrev pub IsYesOrStates : Status → Type 0
IsYesOrStates Yes = Unit {0}
IsYesOrStates (Undecided (States construction)) = Unit {0}
IsYesOrStates _ = ⊥

-- the completion came to the reduced complete system, and this is the status: yes within the limits, or that the word
-- acceptor is too large for them
pub data CompletesAs (limits : Limits) (parts : PresentationParts) : Status → Type 0 where
  within_limits : {rules : List Pair} {acceptor : Automaton}
      → IsCompletionWithin limits parts rules acceptor → CompletesAs limits parts Yes
  too_many_states : {lines : List Line} {rules : List Pair}
      → IsTooLarge limits parts lines rules
      → CompletesAs limits parts (Undecided (States Acceptor))
