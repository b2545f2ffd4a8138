-- The commands of completion on the command line, by clap's own definition of what a command takes.
use Rattle.std.specs.Prelude.{◌≡◌, List, [], ◌∷◌, pos, Option, Some, None, codes}
use Rattle.clap.specs.Words.{App, Row, Rule, Text, new_app, with_rule, with_subcommand}
use Rattle.clap.specs.declared.builder.value_parser.ValueParser.TheVariants.{Signed}
use Rattle.kb_commands.specs.Arguments.{Entered, IsEntered, GivesNumber, GivesOption, GivesText, needed_rule, option_rule}
use Rattle.kb_commands.specs.declared.arguments.NumberOption.TheVariants.{Workers, Batch}
use Rattle.kb_commands.specs.Limits.{GivesLimits, with_limits}
use Rattle.kb_cmd_completion.specs.Given.{KbprogGiven, LogreadGiven, SelfTestGiven}
use Rattle.kb_commands.specs.declared.completion.name.Name.{Name}
use Rattle.kb_commands.specs.declared.completion.name.Name.TheVariants as names
use Rattle.kb_cmd_completion.specs.declared.task.CompletionTask.{CompletionTask}
use Rattle.kb_cmd_completion.specs.declared.task.CompletionTask.TheVariants as tasks

-- ---- what the commands are called

abbrev pub name_text : Name → Text
name_text names.Kbprog = codes "kbprog"
name_text names.Logread = codes "logread"
name_text names.SelfTest = codes "selftest"

-- the commands, in the order in which the program lists them
abbrev pub all_names : List Name
all_names = names.Kbprog ∷ names.Logread ∷ names.SelfTest ∷ []

-- ---- what the commands take

-- the file of a presentation
abbrev pub with_file : App → App
with_file app = with_rule app (needed_rule (codes "file"))

-- the rank of a free abelian group, from 1 to 40
abbrev pub rank_rule : Rule
rank_rule = record (needed_rule (codes "rank")) { parser = Some (Signed (pos 1) (pos 40)) }

-- `kbprog FILE`, `logread FILE` and `selftest N`
abbrev pub command_app : Name → App
command_app names.Kbprog =
    with_rule (with_limits (with_file (new_app (name_text names.Kbprog)))) (option_rule Batch)
command_app names.Logread = with_file (new_app (name_text names.Logread))
command_app names.SelfTest = with_limits (with_rule (new_app (name_text names.SelfTest)) rank_rule)

-- a program with commands added
abbrev pub with_commands : App → List Name → App
with_commands app [] = app
with_commands app (name ∷ others) =
    with_commands (with_subcommand app (command_app name).top) others

-- a program with all commands of completion added
abbrev pub with_completions : App → App
with_completions app = with_commands app all_names

-- ---- what is read of them

-- the arguments and options give the command
pub record GivesKbprog (rows : List Row) (given : KbprogGiven) : Type 0 where
  pub file : GivesText rows (codes "file") given.file
  pub workers : GivesOption rows Workers given.workers
  pub limits : GivesLimits rows given.limits
  pub batch : GivesOption rows Batch given.batch

pub record GivesLogread (rows : List Row) (given : LogreadGiven) : Type 0 where
  pub file : GivesText rows (codes "file") given.file

pub record GivesSelfTest (rows : List Row) (given : SelfTestGiven) : Type 0 where
  pub rank : GivesNumber rows (codes "rank") 1 40 given.rank
  pub workers : GivesOption rows Workers given.workers
  pub limits : GivesLimits rows given.limits

-- the name of a command, and what its arguments and options give
abbrev pub name_of_task : CompletionTask → Name
name_of_task (tasks.Kbprog task) = names.Kbprog
name_of_task (tasks.Logread task) = names.Logread
name_of_task (tasks.SelfTest task) = names.SelfTest

abbrev pub GivesTask : CompletionTask → List Row → Type 0
GivesTask (tasks.Kbprog task) rows = GivesKbprog rows task
GivesTask (tasks.Logread task) rows = GivesLogread rows task
GivesTask (tasks.SelfTest task) rows = GivesSelfTest rows task

-- the subcommand that clap entered, with its arguments and options, is the command
abbrev pub IsCompletionTask : Entered → CompletionTask → Type 0
IsCompletionTask entered task = IsEntered entered (name_text (name_of_task task)) (GivesTask task)

-- what is read of the arguments and options of the command of a name: the command that they give,
-- or none where they give none
abbrev pub IsRead : Name → List Row → Option CompletionTask → Type 0
IsRead name rows (Some task) = (name_of_task task ≡ name) × GivesTask task rows
IsRead name rows None = (task : CompletionTask) → name_of_task task ≡ name → ¬ GivesTask task rows
