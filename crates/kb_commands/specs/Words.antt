-- The command on the command line, by clap's own definition of what a command takes.
use Rattle.std.specs.Prelude.{List, codes, Option, Some, None}
use Rattle.clap.specs.Words.{App, Row, new_app, with_rule, with_subcommand}
use Rattle.kb_commands.specs.Arguments.{Entered, IsEntered, GivesFlag, GivesOption, GivesText, flag_rule, needed_rule, option_rule}
use Rattle.kb_commands.specs.declared.arguments.NumberOption.TheVariants.{Workers, Batch}
use Rattle.kb_cmd_words.specs.Given.{Given}

-- `wordreduce FILE` without its options
abbrev pub file_app : App
file_app = with_rule (new_app (codes "wordreduce")) (needed_rule (codes "file"))

-- a command with the options of `wordreduce` added
abbrev pub with_options : App → App
with_options app =
    with_rule (with_rule (with_rule app (option_rule Workers)) (option_rule Batch))
    (flag_rule (codes "log"))

-- `wordreduce FILE`
abbrev pub wordreduce_app : App
wordreduce_app = with_options file_app

-- a program with the command added
abbrev pub with_wordreduce : App → App
with_wordreduce app = with_subcommand app wordreduce_app.top

-- the argument and the options give the command
pub record GivesWordReduce (rows : List Row) (given : Given) : Type 0 where
  pub file : GivesText rows (codes "file") given.file
  pub workers : GivesOption rows Workers given.workers
  pub batch : GivesOption rows Batch given.batch
  pub by_log : GivesFlag rows (codes "log") given.by_log

-- the subcommand that was entered is the command
abbrev pub IsWordReduce : Entered → Given → Type 0
IsWordReduce entered given =
    IsEntered entered (codes "wordreduce") (λ rows. GivesWordReduce rows given)

-- what is read of the argument and the options: the command, or none where they give none
abbrev pub GivenAs : List Row → Option Given → Type 0
GivenAs rows (Some given) = GivesWordReduce rows given
GivenAs rows None = (given : Given) → ¬ GivesWordReduce rows given
