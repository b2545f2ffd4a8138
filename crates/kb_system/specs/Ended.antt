-- How a completion ends.
use Rattle.std.specs.Prelude.{◌≡◌, List}
use Rattle.kb_word.specs.Words.{Pair}
use Rattle.kb_word.specs.Presentations.{PresentationParts}
use Rattle.kb_fsa.specs.Language.{Automaton}
use Rattle.kb_wa.specs.Prefixes.{CountedPrefixes}
use Rattle.kb_system.specs.Completed.{IsCompletion}
use Rattle.kb_system.specs.Evidence.{Limits, IsHalted, IsTooLarge}
use Rattle.kb_system.specs.declared.ending.Halted.{Halted as HaltedParts}
use Rattle.kb_system.specs.declared.ending.Ending.{Ending}
use Rattle.kb_system.specs.declared.ending.Ending.TheVariants.{Completed, Halted, TooLarge}

-- A completion within the limits: the states of which the word acceptor is made, the empty word and the proper prefixes
-- of left sides, are no more than there may be.
pub record IsCompletionWithin (limits : Limits) (parts : PresentationParts) (rules : List Pair)
    (automaton : Automaton) : Type 0 where
  pub completion : IsCompletion parts rules automaton
  pub few : ¬ CountedPrefixes rules limits.states

-- a limit of the log was reached, as it shows
abbrev pub ShowsHalt : Limits → PresentationParts → HaltedParts → Type 0
ShowsHalt limits parts halted =
    (halted.rules.order ≡ parts.order)
    × IsHalted limits parts halted.lines.items halted.waiting halted.rules.rules halted.reached

-- the presentation was completed within the limits; or one was reached, as the log shows
abbrev pub EndsAs : Limits → PresentationParts → Ending → Type 0
EndsAs limits parts (Completed rules acceptor) =
    (rules.order ≡ parts.order) × IsCompletionWithin limits parts rules.rules acceptor
EndsAs limits parts (Halted halted) = ShowsHalt limits parts halted
EndsAs limits parts (TooLarge lines rules) =
    (rules.order ≡ parts.order) × IsTooLarge limits parts lines.items rules.rules
