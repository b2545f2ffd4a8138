-- How a completion ends whose log is kept.
use Rattle.std.specs.Prelude.{◌≡◌, List}
use Rattle.kb_word.specs.Congruence.{SameCongruence}
use Rattle.kb_word.specs.Overlap.{IsConfluent}
use Rattle.kb_word.specs.Presentations.{PresentationParts}
use Rattle.kb_machine.specs.Justified.{IsJustified}
use Rattle.kb_machine.specs.Lines.{rules_of}
use Rattle.kb_machine.specs.declared.line.Line.{Line}
use Rattle.kb_system.specs.Completed.{below, relations}
use Rattle.kb_system.specs.Ended.{IsCompletionWithin, ShowsHalt}
use Rattle.kb_system.specs.Evidence.{Limits, IsTooLarge}
use Rattle.kb_system.specs.declared.logged.LoggedEnding.{LoggedEnding}
use Rattle.kb_system.specs.declared.logged.LoggedEnding.TheVariants.{Completed, Halted, TooLarge}

-- The lines of a log certify the congruence of a presentation: each follows from the relations and the lines before it,
-- and their rules are confluent and generate the congruence of the relations.
pub record IsCertificate (parts : PresentationParts) (lines : List Line) : Type 0 where
  pub justified : IsJustified (below parts) (relations parts) lines
  pub confluent : IsConfluent (rules_of lines)
  pub same : SameCongruence (relations parts) (rules_of lines)

-- the presentation was completed within the limits, as its log certifies; or one was reached, as the log shows
abbrev pub EndsLogged : Limits → PresentationParts → LoggedEnding → Type 0
EndsLogged limits parts (Completed lines rules acceptor) =
    (rules.order ≡ parts.order) × IsCertificate parts lines.items
    × IsCompletionWithin limits parts rules.rules acceptor
EndsLogged limits parts (Halted halted) = ShowsHalt limits parts halted
EndsLogged limits parts (TooLarge lines rules) =
    (rules.order ≡ parts.order) × IsTooLarge limits parts lines.items rules.rules
