-- Logs of completions, and logs that are read again.
use Rattle.std.specs.Prelude.{◌≡◌, ℕ, ◌^◌, ◌<◌, List, ◌++◌, length, option_to_list}
use Rattle.kb_word.specs.Words.{Pair, OneOf}
use Rattle.kb_word.specs.WordOrders.{Below}
use Rattle.kb_word.specs.Presentations.{PresentationParts}
use Rattle.kb_word.specs.Relations.{IsPresentation, relations_of}
use Rattle.kb_machine.specs.Justified.{IsJustified}
use Rattle.kb_machine.specs.declared.line.Line.{Line}
use Rattle.kb_proof.specs.Faults.{HasLogFault}
use Rattle.kb_proof.specs.Printable.{IsPrintable}
use Rattle.kb_proof.specs.Printed.{text_of_log}
use Rattle.kb_proof.specs.Same.{AreSameLogs}
use Rattle.kb_proof.specs.declared.error.LogError.{LogError}
use Rattle.kb_proof.specs.declared.error.LogError.TheVariants.{Memory}
use Rattle.kb_proof.specs.declared.log.Log.{Log}
use Rattle.kb_proof.specs.declared.log.Version.TheVariants.{Two}

-- There are fewer relations than 2^32, and no side has as many letters.
pub record AreShort (relations : List Pair) : Type 0 where
  pub few : length relations < 2 ^ 32
  pub sides : (pair : Pair) → OneOf relations pair
      → (length pair.0 < 2 ^ 32) × (length pair.1 < 2 ^ 32)

-- these are the parts of a presentation, whose relations are short
pub record AreShortParts (parts : PresentationParts) : Type 0 where
  pub presents : IsPresentation (length parts.names) parts.order parts.names parts.inverses
      parts.equations
  pub short : AreShort (relations_of parts.inverses parts.equations)

-- the lines of the log, and last that of the pair that waits
abbrev pub all_lines : Log → List Line
all_lines log = log.lines.items ++ option_to_list log.waiting

-- The log has derivations, and each line, that of the pair that waits too, follows from the relations and the lines
-- before it.
pub record IsOfCompletion (parts : PresentationParts) (log : Log) : Type 0 where
  pub with_derivations : log.version ≡ Two
  pub justified : IsJustified (Below parts.order) (relations_of parts.inverses parts.equations)
      (all_lines log)

-- the text of the log is the text of no other log, and has no fault
pub record IsReadAgain (names : List (List ℕ)) (log : Log) : Type 0 where
  pub printable : IsPrintable names log
  pub same : (other : Log) → IsPrintable names other
      → text_of_log names log ≡ text_of_log names other → AreSameLogs log other
  pub no_fault : (error : LogError) → HasLogFault names (text_of_log names log) error
      → error ≡ Memory
