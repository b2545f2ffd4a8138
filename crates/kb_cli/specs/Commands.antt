-- The commands of the program: what each family's crate defines, a line a family.
use Rattle.kb_task.specs.Promises.{Promise, in_family}
use Rattle.kb_cmd_words.specs.WordReduce.{wordreduce_promise}
use Rattle.kb_cmd_automata.specs.Tasks.{automata_promise}
use Rattle.kb_cmd_completion.specs.Tasks.{completion_promise}
use Rattle.kb_cmd_elements.specs.Tasks.{elements_promise}
use Rattle.kb_cmd_structures.specs.Tasks.{structures_promise}
use Rattle.kb_cmd_proofs.specs.Tasks.{proofs_promise}
use Rattle.kb_cli.specs.declared.command.Command.{Command}
use Rattle.kb_cli.specs.declared.command.Command.TheVariants.{WordReduce, Automata, Completion, Elements, Structures, Proofs}

-- What the command promises: what its statuses mean, the names under which it may store, those of the files that it
-- reads, the first of them that has a fault, when nothing of that is refused, its answers, those that the files
-- settle, and which commands are the same but for options that change no answer.
abbrev pub command_promise : Command → Promise Command
command_promise (WordReduce task) = in_family WordReduce (wordreduce_promise task)
command_promise (Automata task) = in_family Automata (automata_promise task)
command_promise (Completion task) = in_family Completion (completion_promise task)
command_promise (Elements task) = in_family Elements (elements_promise task)
command_promise (Structures task) = in_family Structures (structures_promise task)
command_promise (Proofs task) = in_family Proofs (proofs_promise task)
