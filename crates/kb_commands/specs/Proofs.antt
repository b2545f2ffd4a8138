-- The commands about proofs on the command line, by clap's own definition of what a command takes.
use Rattle.std.specs.Prelude.{◌≡◌, List, [], ◌∷◌, Option, Some, None, codes}
use Rattle.clap.specs.Words.{App, Row, Rule, Text, new_app, with_rule, with_subcommand}
use Rattle.kb_commands.specs.Arguments.{Entered, IsEntered, GivesOption, GivesText, needed_rule, option_rule}
use Rattle.kb_commands.specs.declared.arguments.NumberOption.TheVariants.{Workers, MaxRules, MaxLen, MaxStates}
use Rattle.kb_commands.specs.Limits.{GivesLimits}
use Rattle.kb_cmd_proofs.specs.Given.{KbcertifyGiven, KbverifyGiven}
use Rattle.kb_commands.specs.declared.proofs.name.Name.{Name}
use Rattle.kb_commands.specs.declared.proofs.name.Name.TheVariants as names
use Rattle.kb_cmd_proofs.specs.declared.task.ProofsTask.{ProofsTask}
use Rattle.kb_cmd_proofs.specs.declared.task.ProofsTask.TheVariants as tasks

-- ---- what the commands are called

abbrev pub name_text : Name → Text
name_text names.Kbverify = codes "kbverify"
name_text names.Kbcertify = codes "kbcertify"

-- the commands, in the order in which the program lists them
abbrev pub all_names : List Name
all_names = names.Kbverify ∷ names.Kbcertify ∷ []

-- ---- what the commands take

-- the file of a presentation
abbrev pub with_file : App → App
with_file app = with_rule app (needed_rule (codes "file"))

-- how many workers complete: one, where it isn't given
abbrev pub workers_rule : Rule
workers_rule = record (option_rule Workers) { defaults = codes "1" ∷ [] }

-- the limits of a completion
abbrev pub with_bounds : App → App
with_bounds app =
    with_rule (with_rule (with_rule app (option_rule MaxRules)) (option_rule MaxLen))
    (option_rule MaxStates)

-- `kbverify FILE` and `kbcertify FILE`
abbrev pub command_app : Name → App
command_app names.Kbverify = with_file (new_app (name_text names.Kbverify))
command_app names.Kbcertify =
    with_bounds (with_rule (with_file (new_app (name_text names.Kbcertify))) workers_rule)

-- a program with commands added
abbrev pub with_commands : App → List Name → App
with_commands app [] = app
with_commands app (name ∷ others) =
    with_commands (with_subcommand app (command_app name).top) others

-- a program with all commands about proofs added
abbrev pub with_proofs : App → App
with_proofs app = with_commands app all_names

-- ---- what is read of them

-- the argument gives the command
pub record GivesKbverify (rows : List Row) (given : KbverifyGiven) : Type 0 where
  pub file : GivesText rows (codes "file") given.file

-- the argument and the options give the command
pub record GivesKbcertify (rows : List Row) (given : KbcertifyGiven) : Type 0 where
  pub file : GivesText rows (codes "file") given.file
  pub workers : GivesOption rows Workers given.workers
  pub limits : GivesLimits rows given.limits

-- the name of a command, and what its arguments and options give
abbrev pub name_of_task : ProofsTask → Name
name_of_task (tasks.Kbverify task) = names.Kbverify
name_of_task (tasks.Kbcertify task) = names.Kbcertify

abbrev pub GivesTask : ProofsTask → List Row → Type 0
GivesTask (tasks.Kbverify task) rows = GivesKbverify rows task
GivesTask (tasks.Kbcertify task) rows = GivesKbcertify rows task

-- the subcommand that clap entered, with its arguments and options, is the command
abbrev pub IsProofsTask : Entered → ProofsTask → Type 0
IsProofsTask entered task = IsEntered entered (name_text (name_of_task task)) (GivesTask task)

-- what is read of the arguments and options of the command of a name: the command that they give,
-- or none where they give none
abbrev pub IsRead : Name → List Row → Option ProofsTask → Type 0
IsRead name rows (Some task) = (name_of_task task ≡ name) × GivesTask task rows
IsRead name rows None = (task : ProofsTask) → name_of_task task ≡ name → ¬ GivesTask task rows
