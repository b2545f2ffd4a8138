-- The commands of the family on the command line, by clap's own definition of what a command takes.
use Rattle.std.specs.Prelude.{◌≡◌, List, [], ◌∷◌, Option, Some, None, codes}
use Rattle.clap.specs.Words.{App, Row, Text, new_app, with_rule, with_subcommand}
use Rattle.kb_commands.specs.Arguments.{Entered, IsEntered, GivesNumber, GivesOption, GivesText, length_rule, needed_rule, option_rule}
use Rattle.kb_commands.specs.declared.arguments.NumberOption.TheVariants.{Workers, MaxRules, MaxLen}
use Rattle.kb_commands.specs.Limits.{GivesLimits, with_limits}
use Rattle.kb_cmd_elements.specs.Given.{BallGiven, KbcosGiven}
use Rattle.kb_commands.specs.declared.elements.name.Name.{Name}
use Rattle.kb_commands.specs.declared.elements.name.Name.TheVariants as names
use Rattle.kb_cmd_elements.specs.declared.task.ElementsTask.{ElementsTask}
use Rattle.kb_cmd_elements.specs.declared.task.ElementsTask.TheVariants as tasks

-- ---- what the commands are called

abbrev pub name_text : Name → Text
name_text names.Ball = codes "ball"
name_text names.Kbcos = codes "kbcos"

-- the commands, in the order in which the program lists them
abbrev pub all_names : List Name
all_names = names.Ball ∷ names.Kbcos ∷ []

-- ---- what the commands take

-- the file of a presentation
abbrev pub with_file : App → App
with_file app = with_rule app (needed_rule (codes "file"))

-- the options of a completion that makes no word acceptor
abbrev pub with_log_limits : App → App
with_log_limits app =
    with_rule (with_rule (with_rule app (option_rule Workers)) (option_rule MaxRules))
    (option_rule MaxLen)

-- `ball FILE R`, `kbcos FILE`
abbrev pub command_app : Name → App
command_app names.Ball =
    with_limits (with_rule (with_file (new_app (name_text names.Ball))) (length_rule (codes "radius")))
command_app names.Kbcos = with_log_limits (with_file (new_app (name_text names.Kbcos)))

-- a program with commands added
abbrev pub with_commands : App → List Name → App
with_commands app [] = app
with_commands app (name ∷ others) =
    with_commands (with_subcommand app (command_app name).top) others

-- a program with all commands of the family added
abbrev pub with_elements : App → App
with_elements app = with_commands app all_names

-- ---- what is read of them

-- the arguments and options give the command
pub record GivesBall (rows : List Row) (given : BallGiven) : Type 0 where
  pub file : GivesText rows (codes "file") given.file
  pub radius : GivesNumber rows (codes "radius") 0 65535 given.radius
  pub workers : GivesOption rows Workers given.workers
  pub limits : GivesLimits rows given.limits

pub record GivesKbcos (rows : List Row) (given : KbcosGiven) : Type 0 where
  pub file : GivesText rows (codes "file") given.file
  pub workers : GivesOption rows Workers given.workers
  pub lines : GivesOption rows MaxRules given.lines
  pub letters : GivesOption rows MaxLen given.letters

-- the name of a command, and what its arguments and options give
abbrev pub name_of_task : ElementsTask → Name
name_of_task (tasks.Ball task) = names.Ball
name_of_task (tasks.Kbcos task) = names.Kbcos

abbrev pub GivesTask : ElementsTask → List Row → Type 0
GivesTask (tasks.Ball task) rows = GivesBall rows task
GivesTask (tasks.Kbcos task) rows = GivesKbcos rows task

-- the subcommand that clap entered, with its arguments and options, is the command
abbrev pub IsElementsTask : Entered → ElementsTask → Type 0
IsElementsTask entered task = IsEntered entered (name_text (name_of_task task)) (GivesTask task)

-- what is read of the arguments and options of the command of a name: the command that they give,
-- or none where they give none
abbrev pub IsRead : Name → List Row → Option ElementsTask → Type 0
IsRead name rows (Some task) = (name_of_task task ≡ name) × GivesTask task rows
IsRead name rows None = (task : ElementsTask) → name_of_task task ≡ name → ¬ GivesTask task rows
