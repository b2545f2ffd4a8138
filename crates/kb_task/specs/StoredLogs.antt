-- Logs of completions that are stored beside the presentation.
use Rattle.std.specs.Prelude.{◌≡◌, ℕ, List, ◌++◌, Option, option_to_list}
use Rattle.std.specs.List.{AllZip}
use Rattle.kb_word.specs.WordOrders.{Below}
use Rattle.kb_word.specs.Presentations.{PresentationParts}
use Rattle.kb_word.specs.Relations.{relations_of}
use Rattle.kb_machine.specs.Justified.{IsJustified}
use Rattle.kb_machine.specs.declared.line.Line.{Line}
use Rattle.kb_proof.specs.Printed.{header, text_of_body}
use Rattle.kb_proof.specs.Same.{AreSameLines, WaitSame}
use Rattle.kb_proof.specs.declared.log.Log.{Log}
use Rattle.kb_proof.specs.declared.log.Version.TheVariants.{Two}
use Rattle.kb_task.specs.Automata.{IsUnrefused}
use Rattle.kb_task.specs.Loads.{Files, IsHeld}
use Rattle.kb_task.specs.Logs.{HoldsLog, IsLogFault}
use Rattle.kb_task.specs.Presentations.{HoldsPresentation}

-- One file holds the presentation, and another, which isn't too long, the text of lines that are justified over it,
-- with their derivations, and of a pair that waits, if one does.
pub record StoresLog (files : Files) (file name : List ℕ) (parts : PresentationParts)
    (lines : List Line) (waiting : Option Line) : Type 0 where
  pub presents : HoldsPresentation files file parts
  pub held : IsHeld files name (header Two ++ text_of_body Two parts.names lines waiting)
  pub justified : IsJustified (Below parts.order) (relations_of parts.inverses parts.equations)
      (lines ++ option_to_list waiting)

-- the log has derivations, these lines, and this pair that waits
pub record SaysLines (lines : List Line) (waiting : Option Line) (log : Log) : Type 0 where
  pub with_derivations : log.version ≡ Two
  pub same : AllZip AreSameLines lines log.lines.items
  pub same_waiting : WaitSame waiting log.waiting

-- the file of this name isn't refused as a log, and the log that it holds has these lines and this pair that waits
pub record IsReadAsLog (files : Files) (name : List ℕ) (names : List (List ℕ)) (lines : List Line)
    (waiting : Option Line) : Type 0 where
  pub unrefused : IsUnrefused (IsLogFault names files name)
  pub says : (log : Log) → HoldsLog files name names log → SaysLines lines waiting log
