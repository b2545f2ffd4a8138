-- The commands of the families are apart, and what is read of what was entered.
use Rattle.std.proofs.Common.{◌≡◌, ◌∙◌, ℕ, List, Option, Some, option_map, sym, ap, arith}
use Rattle.clap.specs.Words.{Row, Text}
use Rattle.kb_commands.specs.Arguments.{Entered, IsEntered}
use Rattle.kb_cmd_words.specs.Given.{Given}
use Rattle.kb_commands.specs.Words.{IsWordReduce}
use Rattle.kb_commands.proofs.WordsLemmas.{one_wordreduce}
use Rattle.kb_commands.specs.Automata.{IsAutomataTask}
use Rattle.kb_cmd_automata.specs.declared.task.AutomataTask.{AutomataTask}
use Rattle.kb_commands.proofs.AutomataLemmas.{one_automata_task}
use Rattle.kb_commands.specs.Completion.{IsCompletionTask}
use Rattle.kb_cmd_completion.specs.declared.task.CompletionTask.{CompletionTask}
use Rattle.kb_commands.proofs.CompletionLemmas.{one_completion_task}
use Rattle.kb_commands.specs.Elements.{IsElementsTask}
use Rattle.kb_cmd_elements.specs.declared.task.ElementsTask.{ElementsTask}
use Rattle.kb_commands.proofs.ElementsLemmas.{one_elements_task}
use Rattle.kb_commands.specs.Structures.{IsStructuresTask}
use Rattle.kb_cmd_structures.specs.declared.task.StructuresTask.{StructuresTask}
use Rattle.kb_commands.proofs.StructuresLemmas.{one_structures_task}
use Rattle.kb_commands.specs.Proofs.{IsProofsTask}
use Rattle.kb_cmd_proofs.specs.declared.task.ProofsTask.{ProofsTask}
use Rattle.kb_commands.proofs.ProofsLemmas.{one_proofs_task}
use Rattle.kb_cli.proofs.NameLemmas.{command_name, family, family_by_name, family_named}
use Rattle.kb_cli.specs.CommandLine.{IsCommand}
use Rattle.kb_cli.specs.declared.command.Command.{Command}
use Rattle.kb_cli.specs.declared.command.Command.TheVariants.{WordReduce, Automata, Completion, Elements, Structures, Proofs}

entered_name : Entered → Option Text
entered_name entered = option_map (λ (p : Text × List Row). p.0) entered

named : (entered : Entered) (name : Text) (AreSo : List Row → Type 0) → IsEntered entered name AreSo → entered_name entered ≡ Some name
unfolding entered_name
named entered name AreSo is = ap (option_map (λ (p : Text × List Row). p.0)) is.is

-- the name that was entered is that of the command
own_name : (entered : Entered) (command : Command) → IsCommand entered command → entered_name entered ≡ Some (command_name command)
own_name entered (WordReduce task) is = named entered _ _ is
own_name entered (Automata task) is = named entered _ _ is
own_name entered (Completion task) is = named entered _ _ is
own_name entered (Elements task) is = named entered _ _ is
own_name entered (Structures task) is = named entered _ _ is
own_name entered (Proofs task) is = named entered _ _ is

-- an entered subcommand is a command of one family at most
one_family : (entered : Entered) (one other : Command) → IsCommand entered one → IsCommand entered other → family one ≡ family other
one_family entered one other a b =
    let both : Some (command_name one) ≡ Some (command_name other) = sym (own_name entered one a) ∙ own_name entered other b in
    let name : command_name one ≡ command_name other = cc in
    sym (family_by_name one) ∙ (ap family_named name ∙ family_by_name other)

-- one entered subcommand is one command at most
pub one_command : (entered : Entered) (one other : Command) → IsCommand entered one → IsCommand entered other → one ≡ other
one_command entered (WordReduce task) (WordReduce other) a b = ap WordReduce (one_wordreduce entered task other a b)
one_command entered (Automata task) (Automata other) a b = ap Automata (one_automata_task entered task other a b)
one_command entered (Completion task) (Completion other) a b = ap Completion (one_completion_task entered task other a b)
one_command entered (Elements task) (Elements other) a b = ap Elements (one_elements_task entered task other a b)
one_command entered (Structures task) (Structures other) a b = ap Structures (one_structures_task entered task other a b)
one_command entered (Proofs task) (Proofs other) a b = ap Proofs (one_proofs_task entered task other a b)
one_command entered (WordReduce task) (Automata other) a b = absurd (omega (arith, one_family entered (WordReduce task) (Automata other) a b))
one_command entered (WordReduce task) (Completion other) a b = absurd (omega (arith, one_family entered (WordReduce task) (Completion other) a b))
one_command entered (WordReduce task) (Elements other) a b = absurd (omega (arith, one_family entered (WordReduce task) (Elements other) a b))
one_command entered (WordReduce task) (Structures other) a b = absurd (omega (arith, one_family entered (WordReduce task) (Structures other) a b))
one_command entered (WordReduce task) (Proofs other) a b = absurd (omega (arith, one_family entered (WordReduce task) (Proofs other) a b))
one_command entered (Automata task) (WordReduce other) a b = absurd (omega (arith, one_family entered (Automata task) (WordReduce other) a b))
one_command entered (Automata task) (Completion other) a b = absurd (omega (arith, one_family entered (Automata task) (Completion other) a b))
one_command entered (Automata task) (Elements other) a b = absurd (omega (arith, one_family entered (Automata task) (Elements other) a b))
one_command entered (Automata task) (Structures other) a b = absurd (omega (arith, one_family entered (Automata task) (Structures other) a b))
one_command entered (Automata task) (Proofs other) a b = absurd (omega (arith, one_family entered (Automata task) (Proofs other) a b))
one_command entered (Completion task) (WordReduce other) a b = absurd (omega (arith, one_family entered (Completion task) (WordReduce other) a b))
one_command entered (Completion task) (Automata other) a b = absurd (omega (arith, one_family entered (Completion task) (Automata other) a b))
one_command entered (Completion task) (Elements other) a b = absurd (omega (arith, one_family entered (Completion task) (Elements other) a b))
one_command entered (Completion task) (Structures other) a b = absurd (omega (arith, one_family entered (Completion task) (Structures other) a b))
one_command entered (Completion task) (Proofs other) a b = absurd (omega (arith, one_family entered (Completion task) (Proofs other) a b))
one_command entered (Elements task) (WordReduce other) a b = absurd (omega (arith, one_family entered (Elements task) (WordReduce other) a b))
one_command entered (Elements task) (Automata other) a b = absurd (omega (arith, one_family entered (Elements task) (Automata other) a b))
one_command entered (Elements task) (Completion other) a b = absurd (omega (arith, one_family entered (Elements task) (Completion other) a b))
one_command entered (Elements task) (Structures other) a b = absurd (omega (arith, one_family entered (Elements task) (Structures other) a b))
one_command entered (Elements task) (Proofs other) a b = absurd (omega (arith, one_family entered (Elements task) (Proofs other) a b))
one_command entered (Structures task) (WordReduce other) a b = absurd (omega (arith, one_family entered (Structures task) (WordReduce other) a b))
one_command entered (Structures task) (Automata other) a b = absurd (omega (arith, one_family entered (Structures task) (Automata other) a b))
one_command entered (Structures task) (Completion other) a b = absurd (omega (arith, one_family entered (Structures task) (Completion other) a b))
one_command entered (Structures task) (Elements other) a b = absurd (omega (arith, one_family entered (Structures task) (Elements other) a b))
one_command entered (Structures task) (Proofs other) a b = absurd (omega (arith, one_family entered (Structures task) (Proofs other) a b))
one_command entered (Proofs task) (WordReduce other) a b = absurd (omega (arith, one_family entered (Proofs task) (WordReduce other) a b))
one_command entered (Proofs task) (Automata other) a b = absurd (omega (arith, one_family entered (Proofs task) (Automata other) a b))
one_command entered (Proofs task) (Completion other) a b = absurd (omega (arith, one_family entered (Proofs task) (Completion other) a b))
one_command entered (Proofs task) (Elements other) a b = absurd (omega (arith, one_family entered (Proofs task) (Elements other) a b))
one_command entered (Proofs task) (Structures other) a b = absurd (omega (arith, one_family entered (Proofs task) (Structures other) a b))

-- where no family's command was entered there is none
pub no_command : (entered : Entered) → ((given : Given) → ¬ IsWordReduce entered given) → ((task : AutomataTask) → ¬ IsAutomataTask entered task)
    → ((task : CompletionTask) → ¬ IsCompletionTask entered task) → ((task : ElementsTask) → ¬ IsElementsTask entered task)
    → ((task : StructuresTask) → ¬ IsStructuresTask entered task) → ((task : ProofsTask) → ¬ IsProofsTask entered task)
    → (command : Command) → ¬ IsCommand entered command
no_command entered no_wordreduce no_task no_completion no_elements no_structures no_proofs (WordReduce task) = no_wordreduce task
no_command entered no_wordreduce no_task no_completion no_elements no_structures no_proofs (Automata task) = no_task task
no_command entered no_wordreduce no_task no_completion no_elements no_structures no_proofs (Completion task) = no_completion task
no_command entered no_wordreduce no_task no_completion no_elements no_structures no_proofs (Elements task) = no_elements task
no_command entered no_wordreduce no_task no_completion no_elements no_structures no_proofs (Structures task) = no_structures task
no_command entered no_wordreduce no_task no_completion no_elements no_structures no_proofs (Proofs task) = no_proofs task
