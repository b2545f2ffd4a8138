-- The options of a completion on the command line, by clap's own definition of what a command takes.
use Rattle.std.specs.Prelude.{ℕ, List}
use Rattle.clap.specs.Words.{App, Row, with_rule}
use Rattle.kb_system.specs.Evidence.{Limits}
use Rattle.kb_commands.specs.Arguments.{GivesOption, option_rule}
use Rattle.kb_commands.specs.declared.arguments.NumberOption.TheVariants.{Workers, MaxRules, MaxLen, MaxDiffs, MaxStates}

-- the options of a completion: its workers and its limits
abbrev pub with_limits : App → App
with_limits app =
    with_rule
    (with_rule (with_rule (with_rule app (option_rule Workers)) (option_rule MaxRules))
    (option_rule MaxLen)) (option_rule MaxStates)

-- the same, and how many word differences may be kept
abbrev pub with_all_limits : App → App
with_all_limits app = with_rule (with_limits app) (option_rule MaxDiffs)

-- the options give the limits
pub record GivesLimits (rows : List Row) (limits : Limits) : Type 0 where
  pub lines : GivesOption rows MaxRules limits.lines
  pub letters : GivesOption rows MaxLen limits.letters
  pub states : GivesOption rows MaxStates limits.states

-- the options give the limits, and how many word differences may be kept
pub record GivesAllLimits (rows : List Row) (limits : Limits) (most : ℕ) : Type 0 where
  pub completion : GivesLimits rows limits
  pub differences : GivesOption rows MaxDiffs most
