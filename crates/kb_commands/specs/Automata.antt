-- The commands on automata on the command line, by clap's own definition of what a command takes.
use Rattle.std.specs.Prelude.{◌≡◌, List, [], ◌∷◌, Option, Some, None, codes}
use Rattle.clap.specs.Words.{App, Row, Text, new_app, with_rule, with_subcommand}
use Rattle.kb_commands.specs.Arguments.{Entered, IsEntered, GivesLengths, GivesNumber, GivesOption, GivesText, needed_rule, length_rule, lengths_rule, option_rule}
use Rattle.kb_commands.specs.declared.arguments.NumberOption.TheVariants.{MaxStates}
use Rattle.kb_cmd_automata.specs.declared.combine.Combination.TheVariants.{And, Or, Concat}
use Rattle.kb_cmd_automata.specs.declared.combine.Combine.{Combine}
use Rattle.kb_cmd_automata.specs.declared.compare.Compare.{Compare}
use Rattle.kb_cmd_automata.specs.declared.counting.CountAccepted.{CountAccepted}
use Rattle.kb_cmd_automata.specs.declared.enumerate.Enumerate.{Enumerate}
use Rattle.kb_cmd_automata.specs.declared.files.FileToOut.{FileToOut}
use Rattle.kb_commands.specs.declared.automata.name.Name.{Name}
use Rattle.kb_commands.specs.declared.automata.name.Name.TheVariants as names
use Rattle.kb_commands.specs.declared.automata.name.Unlimited.TheVariants.{Minimise}
use Rattle.kb_cmd_automata.specs.declared.task.AutomataTask.{AutomataTask}
use Rattle.kb_cmd_automata.specs.declared.task.AutomataTask.TheVariants as tasks
use Rattle.kb_cmd_automata.specs.declared.transform.Transform.{Transform}
use Rattle.kb_cmd_automata.specs.declared.transform.Transformation.TheVariants.{Not, Exists, Star, Reverse}

-- ---- what the commands are called

abbrev pub name_text : Name → Text
name_text (names.Combine And) = codes "fsaand"
name_text (names.Combine Or) = codes "fsaor"
name_text (names.Combine Concat) = codes "fsaconcat"
name_text (names.Transform Not) = codes "fsanot"
name_text (names.Transform Exists) = codes "fsaexists"
name_text (names.Transform Star) = codes "fsastar"
name_text (names.Transform Reverse) = codes "fsareverse"
name_text (names.Unlimited Minimise) = codes "fsamin"
name_text names.Compare = codes "fsalequal"
name_text names.Enumerate = codes "fsaenumerate"
name_text names.CountAccepted = codes "fsacount"

-- the commands, in the order in which the program lists them
abbrev pub all_names : List Name
all_names =
    names.Combine And ∷ names.Combine Or ∷ names.Transform Not ∷ names.Unlimited Minimise
    ∷ names.Compare ∷ names.Transform Exists ∷ names.Combine Concat ∷ names.Transform Star
    ∷ names.Transform Reverse ∷ names.Enumerate ∷ names.CountAccepted ∷ []

-- ---- what the commands take

-- the file of an automaton, the first where there are two; the second; and the file in which one is stored
abbrev pub with_first : App → App
with_first app = with_rule app (needed_rule (codes "first"))

abbrev pub with_second : App → App
with_second app = with_rule app (needed_rule (codes "second"))

abbrev pub with_out : App → App
with_out app = with_rule app (needed_rule (codes "out"))

-- `fsaand A B OUT`, `fsanot A OUT`, `fsamin A OUT`, `fsalequal A B`, `fsaenumerate MIN MAX A` and
-- `fsacount A`, and those that take the same
abbrev pub command_app : Name → App
command_app (names.Combine operation) =
    with_rule (with_out (with_second (with_first (new_app (name_text (names.Combine operation))))))
    (option_rule MaxStates)
command_app (names.Transform operation) =
    with_rule (with_out (with_first (new_app (name_text (names.Transform operation)))))
    (option_rule MaxStates)
command_app (names.Unlimited command) =
    with_out (with_first (new_app (name_text (names.Unlimited command))))
command_app names.Compare =
    with_rule (with_second (with_first (new_app (name_text names.Compare))))
    (option_rule MaxStates)
command_app names.Enumerate =
    with_first (with_rule
    (with_rule (new_app (name_text names.Enumerate)) (length_rule (codes "min")))
    (length_rule (codes "max")))
command_app names.CountAccepted =
    with_rule (with_first (new_app (name_text names.CountAccepted))) lengths_rule

-- a program with commands added
abbrev pub with_commands : App → List Name → App
with_commands app [] = app
with_commands app (name ∷ others) =
    with_commands (with_subcommand app (command_app name).top) others

-- a program with all commands on automata added
abbrev pub with_automata : App → App
with_automata app = with_commands app all_names

-- ---- what is read of them

-- the arguments give the files
pub record GivesFiles (rows : List Row) (files : FileToOut) : Type 0 where
  pub file : GivesText rows (codes "first") files.file
  pub out : GivesText rows (codes "out") files.out

-- the arguments and options give the command
pub record GivesCombine (rows : List Row) (task : Combine) : Type 0 where
  pub one : GivesText rows (codes "first") task.one
  pub two : GivesText rows (codes "second") task.two
  pub out : GivesText rows (codes "out") task.out
  pub max_states : GivesOption rows MaxStates task.max_states

pub record GivesTransform (rows : List Row) (task : Transform) : Type 0 where
  pub file : GivesText rows (codes "first") task.file
  pub out : GivesText rows (codes "out") task.out
  pub max_states : GivesOption rows MaxStates task.max_states

pub record GivesCompare (rows : List Row) (task : Compare) : Type 0 where
  pub one : GivesText rows (codes "first") task.one
  pub two : GivesText rows (codes "second") task.two
  pub max_states : GivesOption rows MaxStates task.max_states

pub record GivesEnumerate (rows : List Row) (task : Enumerate) : Type 0 where
  pub min : GivesNumber rows (codes "min") 0 65535 task.min
  pub max : GivesNumber rows (codes "max") 0 65535 task.max
  pub file : GivesText rows (codes "first") task.file

pub record GivesCount (rows : List Row) (task : CountAccepted) : Type 0 where
  pub file : GivesText rows (codes "first") task.file
  pub lengths : GivesLengths rows task.lengths

-- the name of a command, and what its arguments and options give
abbrev pub name_of_task : AutomataTask → Name
name_of_task (tasks.Combine task) = names.Combine task.operation
name_of_task (tasks.Transform task) = names.Transform task.operation
name_of_task (tasks.Minimise task) = names.Unlimited Minimise
name_of_task (tasks.Compare task) = names.Compare
name_of_task (tasks.Enumerate task) = names.Enumerate
name_of_task (tasks.CountAccepted task) = names.CountAccepted

abbrev pub GivesTask : AutomataTask → List Row → Type 0
GivesTask (tasks.Combine task) rows = GivesCombine rows task
GivesTask (tasks.Transform task) rows = GivesTransform rows task
GivesTask (tasks.Minimise task) rows = GivesFiles rows task.files
GivesTask (tasks.Compare task) rows = GivesCompare rows task
GivesTask (tasks.Enumerate task) rows = GivesEnumerate rows task
GivesTask (tasks.CountAccepted task) rows = GivesCount rows task

-- the subcommand that clap entered, with its arguments and options, is the command
abbrev pub IsAutomataTask : Entered → AutomataTask → Type 0
IsAutomataTask entered task = IsEntered entered (name_text (name_of_task task)) (GivesTask task)

-- what is read of the arguments and options of the command of a name: the command that they give,
-- or none where they give none
abbrev pub IsRead : Name → List Row → Option AutomataTask → Type 0
IsRead name rows (Some task) = (name_of_task task ≡ name) × GivesTask task rows
IsRead name rows None = (task : AutomataTask) → name_of_task task ≡ name → ¬ GivesTask task rows
