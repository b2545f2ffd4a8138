-- The machine's words for a presentation that is to be completed within limits, and for a limit that is reached.
use Rattle.kb_word.specs.Presentations.{PresentationParts}
use Rattle.kb_book.specs.declared.limits.Limits.{Limits as GivenLimits}
use Rattle.kb_book.specs.Problems.{problem_of as problem_within}
use Rattle.kb_machine.specs.States.{Problem}
use Rattle.kb_machine.specs.declared.halt.Halt.{Halt}
use Rattle.kb_machine.specs.declared.halt.Halt.TheVariants.{Rules, Length}
use Rattle.kb_system.specs.Evidence.{Limits}
use Rattle.kb_system.specs.declared.ending.Reached.{Reached}
use Rattle.kb_system.specs.declared.ending.Reached.TheVariants.{Lines, Letters}

-- the limits, without that of word differences
abbrev pub limits_of : GivenLimits → Limits
limits_of limits = record { lines = limits.rules; letters = limits.len; states = limits.states }

-- the presentation, to be completed within the limits
abbrev pub problem_of : Limits → PresentationParts → Problem
problem_of limits parts = problem_within parts limits.lines limits.letters

-- the limit that a halt names
abbrev pub reached_by : Halt → Reached
reached_by (Rules u v first_steps second_steps) = Lines
reached_by (Length u v first_steps second_steps) = Letters
