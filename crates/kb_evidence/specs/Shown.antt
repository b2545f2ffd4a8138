-- What shows that a completion reached a limit.
use Rattle.std.specs.Prelude.{ℕ, List}
use Rattle.kb_word.specs.Words.{Pair}
use Rattle.kb_word.specs.Presentations.{PresentationParts}
use Rattle.kb_machine.specs.declared.line.Line.{Line}
use Rattle.kb_system.specs.Evidence.{Limits, IsHalted, IsTooLarge}
use Rattle.kb_system.specs.declared.ending.Reached.{Reached}
use Rattle.kb_task.specs.Limits.{undecided_line, undecided_words_line}
use Rattle.kb_task.specs.Stores.{Text}
use Rattle.kb_task.specs.declared.status.Construction.TheVariants.{Acceptor}
use Rattle.kb_task.specs.declared.status.Limit.{Limit}
use Rattle.kb_task.specs.declared.status.Limit.TheVariants.{States}
use Rattle.kb_evidence.specs.Files.{halted_texts, too_large_texts, limit_of}

-- the files that show that the completion reached the limit, and the line that says so
pub data ShowsLimit (limits : Limits) (file : List ℕ) (parts : PresentationParts) : Limit
    → List Text → List ℕ → Type 0 where
  halted : {lines : List Line} {waiting : Line} {rules : List Pair} {reached : Reached}
      → IsHalted limits parts lines waiting rules reached
      → ShowsLimit limits file parts (limit_of reached)
      (halted_texts file parts lines waiting rules)
      (undecided_words_line parts.names (limit_of reached) waiting.left waiting.right)
  too_large : {lines : List Line} {rules : List Pair}
      → IsTooLarge limits parts lines rules
      → ShowsLimit limits file parts (States Acceptor) (too_large_texts file parts lines rules)
      (undecided_line parts.names (States Acceptor))
