-- The commands on automatic structures on the command line, by clap's own definition of what a command takes.
use Rattle.std.specs.Prelude.{◌≡◌, List, [], ◌∷◌, Option, Some, None, codes}
use Rattle.clap.specs.Words.{App, Row, Text, new_app, with_rule, with_subcommand}
use Rattle.kb_commands.specs.Arguments.{Entered, IsEntered, GivesFlag, GivesOption, GivesText, flag_rule, needed_rule, option_rule}
use Rattle.kb_commands.specs.declared.arguments.NumberOption.TheVariants.{Workers, Batch}
use Rattle.kb_commands.specs.Limits.{GivesAllLimits, GivesLimits, with_all_limits, with_limits}
use Rattle.kb_cmd_structures.specs.Given.{AutgroupGiven, CheckGiven, GpaxiomsGiven}
use Rattle.kb_commands.specs.declared.structures.name.Name.{Name}
use Rattle.kb_commands.specs.declared.structures.name.Name.TheVariants as names
use Rattle.kb_cmd_structures.specs.declared.task.StructuresTask.{StructuresTask}
use Rattle.kb_cmd_structures.specs.declared.task.StructuresTask.TheVariants as tasks

-- ---- what the commands are called

abbrev pub name_text : Name → Text
name_text names.Autgroup = codes "autgroup"
name_text names.Gpaxioms = codes "gpaxioms"
name_text names.Gpminkb = codes "gpminkb"

-- the commands, in the order in which the program lists them
abbrev pub all_names : List Name
all_names = names.Autgroup ∷ names.Gpaxioms ∷ names.Gpminkb ∷ []

-- ---- what the commands take

-- `autgroup FILE`, `gpaxioms FILE [--log]`, `gpminkb FILE`
abbrev pub command_app : Name → App
command_app names.Autgroup =
    with_rule
    (with_all_limits (with_rule (new_app (name_text names.Autgroup)) (needed_rule (codes "file"))))
    (option_rule Batch)
command_app names.Gpaxioms =
    with_rule
    (with_limits (with_rule (new_app (name_text names.Gpaxioms)) (needed_rule (codes "file"))))
    (flag_rule (codes "log"))
command_app names.Gpminkb =
    with_limits (with_rule (new_app (name_text names.Gpminkb)) (needed_rule (codes "file")))

-- a program with commands added
abbrev pub with_commands : App → List Name → App
with_commands app [] = app
with_commands app (name ∷ others) =
    with_commands (with_subcommand app (command_app name).top) others

-- a program with all commands of the family added
abbrev pub with_structures : App → App
with_structures app = with_commands app all_names

-- ---- what is read of them

-- the arguments and options give the command
pub record GivesAutgroup (rows : List Row) (given : AutgroupGiven) : Type 0 where
  pub file : GivesText rows (codes "file") given.file
  pub workers : GivesOption rows Workers given.workers
  pub limits : GivesAllLimits rows given.limits given.most
  pub batch : GivesOption rows Batch given.batch

-- a check of automata, by `gpaxioms` or by `gpminkb`
pub record GivesCheck (rows : List Row) (given : CheckGiven) : Type 0 where
  pub file : GivesText rows (codes "file") given.file
  pub workers : GivesOption rows Workers given.workers
  pub limits : GivesLimits rows given.limits

pub record GivesGpaxioms (rows : List Row) (given : GpaxiomsGiven) : Type 0 where
  pub check : GivesCheck rows given.check
  pub by_log : GivesFlag rows (codes "log") given.by_log

-- the name of a command, and what its arguments and options give
abbrev pub name_of_task : StructuresTask → Name
name_of_task (tasks.Autgroup task) = names.Autgroup
name_of_task (tasks.Gpaxioms task) = names.Gpaxioms
name_of_task (tasks.Gpminkb task) = names.Gpminkb

abbrev pub GivesTask : StructuresTask → List Row → Type 0
GivesTask (tasks.Autgroup task) rows = GivesAutgroup rows task
GivesTask (tasks.Gpaxioms task) rows = GivesGpaxioms rows task
GivesTask (tasks.Gpminkb task) rows = GivesCheck rows task

-- the subcommand that clap entered, with its arguments and options, is the command
abbrev pub IsStructuresTask : Entered → StructuresTask → Type 0
IsStructuresTask entered task = IsEntered entered (name_text (name_of_task task)) (GivesTask task)

-- what is read of the arguments and options of the command of a name: the command that they give,
-- or none where they give none
abbrev pub IsRead : Name → List Row → Option StructuresTask → Type 0
IsRead name rows (Some task) = (name_of_task task ≡ name) × GivesTask task rows
IsRead name rows None = (task : StructuresTask) → name_of_task task ≡ name → ¬ GivesTask task rows
