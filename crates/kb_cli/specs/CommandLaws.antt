-- The laws of the commands, a line a family.
use Rattle.kb_task.specs.PromiseLaws.{in_family-lawful}
use Rattle.kb_task.specs.Promises.{IsLawful}
use Rattle.kb_cmd_words.specs.WordReduceLaws.{wordreduce_lawful}
use Rattle.kb_cmd_automata.specs.TaskLaws.{automata_lawful}
use Rattle.kb_cmd_completion.specs.TaskLaws.{completion_lawful}
use Rattle.kb_cmd_elements.specs.TaskLaws.{elements_lawful}
use Rattle.kb_cmd_structures.specs.TaskLaws.{structures_lawful}
use Rattle.kb_cmd_proofs.specs.TaskLaws.{proofs_lawful}
use Rattle.kb_cli.specs.Commands.{command_promise}
use Rattle.kb_cli.specs.declared.command.Command.{Command}
use Rattle.kb_cli.specs.declared.command.Command.TheVariants as commands

pub commands_lawful : (command : Command) → IsLawful command_promise (command_promise command)
commands_lawful (commands.WordReduce task) =
    in_family-lawful commands.WordReduce (λ t b a s means. means) (wordreduce_lawful task)
commands_lawful (commands.Automata task) =
    in_family-lawful commands.Automata (λ t b a s means. means) (automata_lawful task)
commands_lawful (commands.Completion task) =
    in_family-lawful commands.Completion (λ t b a s means. means) (completion_lawful task)
commands_lawful (commands.Elements task) =
    in_family-lawful commands.Elements (λ t b a s means. means) (elements_lawful task)
commands_lawful (commands.Structures task) =
    in_family-lawful commands.Structures (λ t b a s means. means) (structures_lawful task)
commands_lawful (commands.Proofs task) =
    in_family-lawful commands.Proofs (λ t b a s means. means) (proofs_lawful task)
