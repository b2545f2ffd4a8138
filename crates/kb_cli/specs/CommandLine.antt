-- The command line, by clap's own definition of what a command takes.
use Rattle.std.specs.Prelude.{◌≡◌, true, List, [], ⊤, codes}
use Rattle.clap.specs.Words.{App, Text, IsAmong, fault_of, new_app, subcommand_of}
use Rattle.clap.specs.declared.error.kind.ErrorKind.{ErrorKind}
use Rattle.clap.specs.declared.error.kind.ErrorKind.TheVariants.{ValueValidation}
use Rattle.kb_commands.specs.Arguments.{Entered}
use Rattle.kb_commands.specs.Words.{with_wordreduce, IsWordReduce}
use Rattle.kb_commands.specs.Automata.{with_automata, IsAutomataTask}
use Rattle.kb_commands.specs.Completion.{with_completions, IsCompletionTask}
use Rattle.kb_commands.specs.Elements.{with_elements, IsElementsTask}
use Rattle.kb_commands.specs.Structures.{with_structures, IsStructuresTask}
use Rattle.kb_commands.specs.Proofs.{with_proofs, IsProofsTask}
use Rattle.kb_cli.specs.declared.arguments.UsageError.{UsageError}
use Rattle.kb_cli.specs.declared.arguments.UsageError.TheVariants.{Usage, Memory}
use Rattle.kb_cli.specs.declared.command.Command.{Command}
use Rattle.kb_cli.specs.declared.command.Command.TheVariants.{WordReduce, Automata, Completion, Elements, Structures, Proofs}

-- the program without commands; the arguments begin after the program's name, and `--version` may be among them
abbrev pub bare_app : App
bare_app = record (new_app (codes "kb")) {
  top = record (new_app (codes "kb")).top {
    no_binary_name = true;
    has_version = true;
    subcommand_required = true;
    arg_required_else_help = true;
  };
}

-- the program with its commands
abbrev pub line_app : App
line_app =
    with_automata (with_proofs (with_elements (with_structures (with_completions (with_wordreduce bare_app)))))

-- the subcommand that was entered is the command
abbrev pub IsCommand : Entered → Command → Type 0
IsCommand entered (WordReduce task) = IsWordReduce entered task
IsCommand entered (Automata task) = IsAutomataTask entered task
IsCommand entered (Completion task) = IsCompletionTask entered task
IsCommand entered (Elements task) = IsElementsTask entered task
IsCommand entered (Structures task) = IsStructuresTask entered task
IsCommand entered (Proofs task) = IsProofsTask entered task

-- the arguments are the line of the command: clap finds no fault in them, and what they enter is the command
pub record IsLine (arguments : List Text) (command : Command) : Type 0 where
  pub faultless : fault_of line_app arguments ≡ []
  pub is : IsCommand (subcommand_of line_app arguments) command

-- The arguments are no line of the program: clap finds a fault of this kind, as which it also counts that they ask for
-- help or for the version, or finds none, but a number among them has a sign or a zero before another digit.
pub data IsNoLine (arguments : List Text) (kind : ErrorKind) : Type 0 where
  faulty : IsAmong kind (fault_of line_app arguments) → IsNoLine arguments kind
  no_number : fault_of line_app arguments ≡ []
      → ((command : Command) → ¬ IsCommand (subcommand_of line_app arguments) command)
      → kind ≡ ValueValidation → IsNoLine arguments kind

-- why the arguments are no command
abbrev pub Explains : List Text → UsageError → Type 0
Explains arguments (Usage kind text) = IsNoLine arguments kind
Explains arguments Memory = ⊤

-- the error is a faulty line of this kind
abbrev pub IsUsageOf : ErrorKind → UsageError → Type 0
IsUsageOf kind (Usage found text) = found ≡ kind
IsUsageOf kind Memory = ⊥
