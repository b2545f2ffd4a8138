-- The laws over all commands, from those of the commands.
use Rattle.std.proofs.Common.{◌≡◌, inr, ℕ, List, refl, subst}
use Rattle.kb_io.specs.Outside.{Outside}
use Rattle.kb_task.specs.OneReason.{HaveOneReason}
use Rattle.kb_task.specs.PromiseLaws.{yes-conclusive}
use Rattle.kb_task.specs.Promises.{Keeps}
use Rattle.kb_task.specs.Refusals.{IsLoadFault, IsRefusalOrMemory}
use Rattle.kb_task.specs.Runs.{IsRun, ReadsSame, HasSameEffect}
use Rattle.kb_task.specs.Statuses.{IsYes, IsConclusive, IsFaultless}
use Rattle.kb_task.specs.declared.status.FileFault.{FileFault}
use Rattle.kb_task.specs.declared.status.Refusal.TheVariants.{File}
use Rattle.kb_task.specs.declared.status.Status.{Status}
use Rattle.kb_task.specs.declared.status.Status.TheVariants.{Refused, Memory, Usage}
use Rattle.kb_cli.specs.CommandLaws.{commands_lawful}
use Rattle.kb_cli.specs.CommandLine.{IsLine}
use Rattle.kb_cli.specs.Commands.{command_promise}
use Rattle.kb_cli.specs.Headline.{Headline, ArgumentsStop, MayStore, no_command, a_command}
use Rattle.kb_cli.specs.declared.command.Command.{Command}
use Rattle.kb_cli.proofs.CommandLemmas.{one_command}
use Rattle.kb_cli.proofs.LineLemmas.{line_or_not}

-- arguments are the line of one command
pub one_line : (arguments : List (List ℕ)) (one other : Command) → IsLine arguments one → IsLine arguments other → one ≡ other
one_line arguments one other a b = one_command _ one other a.is b.is

-- where the arguments are a line, a run on them is that command's
memory_alone : (arguments : List (List ℕ)) (command : Command) (status : Status) → IsLine arguments command → ArgumentsStop arguments status
    → (command_promise command).answers status
memory_alone arguments command (Usage kind) line stop = absurd (line_or_not arguments command kind line stop)
memory_alone arguments command Memory line stop = (commands_lawful command).memory
memory_alone arguments command _ line stop = absurd stop

inconclusive : (arguments : List (List ℕ)) (status : Status) → ArgumentsStop arguments status → ¬ IsConclusive status
inconclusive arguments (Usage kind) stop conclusive = conclusive
inconclusive arguments Memory stop conclusive = conclusive
inconclusive arguments _ stop conclusive = stop

meant : (arguments : List (List ℕ)) (command : Command) (before after : Outside) (status : Status) → IsLine arguments command → IsConclusive status
    → Headline arguments before after status → (command_promise command).means before after status
meant arguments command before after status line conclusive (no_command stop unchanged) = absurd (inconclusive arguments status stop conclusive)
meant arguments command before after status line conclusive (a_command found is means) =
    subst (λ c. (command_promise c).means before after status) (one_line arguments found command is line) means

pub headline_answers : (arguments : List (List ℕ)) (command : Command) (before after : Outside) (status : Status) → IsLine arguments command
    → Headline arguments before after status → (command_promise command).is_unrefused before → IsFaultless status → (command_promise command).answers status
headline_answers arguments command before after status line (no_command stop unchanged) unrefused faultless =
    memory_alone arguments command status line stop
headline_answers arguments command before after status line (a_command found is means) unrefused faultless =
    (commands_lawful command).complete before after status
    (subst (λ c. (command_promise c).means before after status) (one_line arguments found command is line) means) unrefused faultless

-- before the command is known no file is refused
refused_or_memory : (arguments : List (List ℕ)) (command : Command) (status : Status) (name : List ℕ) (fault : FileFault) → IsLine arguments command
    → ArgumentsStop arguments status → IsRefusalOrMemory name fault status
refused_or_memory arguments command (Usage kind) name fault line stop = absurd (line_or_not arguments command kind line stop)
refused_or_memory arguments command Memory name fault line stop = inr refl
refused_or_memory arguments command _ name fault line stop = absurd stop

pub headline_refused : (arguments : List (List ℕ)) (command : Command) (before after : Outside) (name : List ℕ) (fault : FileFault) → IsLine arguments command
    → Headline arguments before after (Refused (File name fault)) → IsLoadFault fault → (command_promise command).refuses before name fault
headline_refused arguments command before after name fault line (no_command stop unchanged) at_load = absurd stop
headline_refused arguments command before after name fault line (a_command found is means) at_load =
    (commands_lawful command).refused before after name fault
    (subst (λ c. (command_promise c).means before after (Refused (File name fault))) (one_line arguments found command is line) means) at_load

pub headline_exact : HaveOneReason → (arguments : List (List ℕ)) (command : Command) (before after : Outside) (status : Status) (name : List ℕ)
    (fault : FileFault) → IsLine arguments command → Headline arguments before after status → (command_promise command).refuses before name fault
    → IsFaultless status → IsRefusalOrMemory name fault status
headline_exact have arguments command before after status name fault line (no_command stop unchanged) refuses faultless =
    refused_or_memory arguments command status name fault line stop
headline_exact have arguments command before after status name fault line (a_command found is means) refuses faultless =
    (commands_lawful command).exact have before after status name fault
    (subst (λ c. (command_promise c).means before after status) (one_line arguments found command is line) means) refuses faultless

pub headline_settled : (arguments : List (List ℕ)) (command : Command) (before after other_before other_after : Outside) (status other : Status)
    → IsLine arguments command → Headline arguments before after status → Headline arguments other_before other_after other
    → ReadsSame (command_promise command).reads before other_before → (command_promise command).settles status → (command_promise command).settles other → status ≡ other
headline_settled arguments command before after other_before other_after status other line one another same settled also =
    (commands_lawful command).settled before after other_before other_after status other
    (meant arguments command before after status line ((commands_lawful command).conclusive status settled) one)
    (meant arguments command other_before other_after other line ((commands_lawful command).conclusive other also) another) same settled also

pub headline_one_function : (arguments other_arguments : List (List ℕ)) (command other_command : Command)
    (before after other_before other_after : Outside) (status other : Status)
    → IsLine arguments command → IsLine other_arguments other_command → (command_promise command).differs_in_options other_command
    → Headline arguments before after status → Headline other_arguments other_before other_after other → IsYes status → IsYes other
    → ReadsSame (command_promise command).reads before other_before → before.input.left ≡ other_before.input.left
    → HasSameEffect (command_promise command).settled_stores before after other_before other_after
headline_one_function arguments other_arguments command other_command before after other_before other_after status other line also differ one another is_yes also_yes same input =
    (commands_lawful command).one_function other_command before after other_before other_after status other
    (meant arguments command before after status line (yes-conclusive status is_yes) one)
    (meant other_arguments other_command other_before other_after other also (yes-conclusive other also_yes) another)
    is_yes also_yes differ same input

-- a run of the command that the arguments are the line of is a run on them
pub run_of_command : (arguments : List (List ℕ)) (command : Command) (before after : Outside) (status : Status) → IsLine arguments command
    → Keeps (command_promise command) before after status → IsRun (Headline arguments) (MayStore arguments) before after status
run_of_command arguments command before after status line run = record {
  means = λ told. a_command command line (run.means told);
  fault = run.fault;
  goes_on = run.goes_on;
  files = λ name may_not. run.files name (λ stores. may_not (command, line, stores));
}
