-- Logs that can be read again when they are printed.
use Rattle.std.specs.Prelude.{◌≡◌, ℕ, ◌^◌, ◌<◌, List, [], length, All, Contains, IfSome, codes}
use Rattle.kb_word.specs.Relations.{IsOver}
use Rattle.kb_lexing.specs.Spelling.{IsName}
use Rattle.kb_machine.specs.declared.line.Line.{Line}
use Rattle.kb_machine.specs.declared.line.LogStep.{LogStep}
use Rattle.kb_machine.specs.declared.origin.Origin.{Origin}
use Rattle.kb_machine.specs.declared.origin.Origin.TheVariants.{Relation, Overlap, Killed, Shortened}
use Rattle.kb_proof.specs.declared.log.Log.{Log}
use Rattle.kb_proof.specs.declared.log.Version.{Version}
use Rattle.kb_proof.specs.declared.log.Version.TheVariants.{One, Two}

-- each is a Name, and none is `IdWord`, which stands for the empty word
pub record AreReadableNames (names : List (List ℕ)) : Type 0 where
  pub spelled : All IsName names
  pub free : ¬ Contains names (codes "IdWord")

-- the numbers fit: those of lines and relations, and places
abbrev pub FitsOrigin : Origin → Type 0
FitsOrigin (Relation k) = k < 2 ^ 32
FitsOrigin (Overlap first second place) = (first < 2 ^ 32) × (second < 2 ^ 32) × (place < 2 ^ 32)
FitsOrigin (Killed k) = k < 2 ^ 32
FitsOrigin (Shortened k) = k < 2 ^ 32

pub record FitsStep (step : LogStep) : Type 0 where
  pub place : step.place < 2 ^ 32
  pub line : step.line < 2 ^ 32

-- the line is a line with another right side
abbrev pub IsShortening : Origin → Type 0
IsShortening (Shortened k) = Unit {0}
IsShortening _ = ⊥

-- version 1 prints no derivations, and a shortened line has only the first
abbrev pub HasPrintedSteps : Version → Line → Type 0
HasPrintedSteps One line = (line.first_steps.items ≡ []) × (line.second_steps.items ≡ [])
HasPrintedSteps Two line = IsShortening line.origin → line.second_steps.items ≡ []

-- the numbers fit, and each letter has a name
pub record FitsLine (names : List (List ℕ)) (line : Line) : Type 0 where
  pub origin : FitsOrigin line.origin
  pub left : IsOver (length names) line.left
  pub right : IsOver (length names) line.right
  pub first_steps : All FitsStep line.first_steps.items
  pub second_steps : All FitsStep line.second_steps.items

-- the line can be read again when it is printed
pub record IsPrintableLine (version : Version) (names : List (List ℕ)) (line : Line) : Type 0 where
  pub fits : FitsLine names line
  pub printed_steps : HasPrintedSteps version line

-- the log can be read again when it is printed
pub record IsPrintable (names : List (List ℕ)) (log : Log) : Type 0 where
  pub lines : All (IsPrintableLine log.version names) log.lines.items
  pub few : length log.lines.items < 2 ^ 64
  pub waiting : IfSome log.waiting (IsPrintableLine log.version names)
