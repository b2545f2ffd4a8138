-- A command's name tells its family.
use Rattle.std.proofs.Common.{◌≡◌, ℕ, Bool, true, false, List, [], ◌∷◌, if◌then◌else◌, refl, codes}
use Rattle.std.specs.Str.{bytes_eq}
use Rattle.clap.specs.Words.{Text}
use Rattle.kb_commands.specs.Automata.{name_text as automata_text, name_of_task as automata_name}
use Rattle.kb_cmd_automata.specs.declared.combine.Combination.{Combination}
use Rattle.kb_cmd_automata.specs.declared.combine.Combination.TheVariants.{And, Or, Concat}
use Rattle.kb_cmd_automata.specs.declared.combine.Combine.{Combine}
use Rattle.kb_cmd_automata.specs.declared.task.AutomataTask.{AutomataTask}
use Rattle.kb_cmd_automata.specs.declared.task.AutomataTask.TheVariants as automata
use Rattle.kb_cmd_automata.specs.declared.transform.Transform.{Transform}
use Rattle.kb_cmd_automata.specs.declared.transform.Transformation.{Transformation}
use Rattle.kb_cmd_automata.specs.declared.transform.Transformation.TheVariants.{Not, Exists, Star, Reverse}
use Rattle.kb_commands.specs.Completion.{name_text as completion_text, name_of_task as completion_name}
use Rattle.kb_cmd_completion.specs.declared.task.CompletionTask.TheVariants.{Kbprog, Logread, SelfTest}
use Rattle.kb_commands.specs.Elements.{name_text as elements_text, name_of_task as elements_name}
use Rattle.kb_cmd_elements.specs.declared.task.ElementsTask.TheVariants.{Ball, Kbcos}
use Rattle.kb_commands.specs.Structures.{name_text as structures_text, name_of_task as structures_name}
use Rattle.kb_cmd_structures.specs.declared.task.StructuresTask.TheVariants.{Autgroup, Gpaxioms, Gpminkb}
use Rattle.kb_commands.specs.Proofs.{name_text as proofs_text, name_of_task as proofs_name}
use Rattle.kb_cmd_proofs.specs.declared.task.ProofsTask.TheVariants.{Kbcertify, Kbverify}
use Rattle.kb_cli.specs.declared.command.Command.{Command}
use Rattle.kb_cli.specs.declared.command.Command.TheVariants.{WordReduce, Automata, Completion, Elements, Structures, Proofs}

-- the number of a command's family
abbrev pub family : Command → ℕ
family (WordReduce task) = 0
family (Automata task) = 1
family (Completion task) = 2
family (Elements task) = 3
family (Structures task) = 4
family (Proofs task) = 5

abbrev pub command_name : Command → Text
command_name (WordReduce task) = codes "wordreduce"
command_name (Automata task) = automata_text (automata_name task)
command_name (Completion task) = completion_text (completion_name task)
command_name (Elements task) = elements_text (elements_name task)
command_name (Structures task) = structures_text (structures_name task)
command_name (Proofs task) = proofs_text (proofs_name task)

is_among : Text → List Text → Bool
is_among name [] = false
is_among name (other ∷ rest) = if bytes_eq name other then true else is_among name rest

-- the number of the family that a name belongs to
pub family_named : Text → ℕ
family_named name =
    if is_among name (codes "wordreduce" ∷ []) then 0
    else (if is_among name (codes "kbprog" ∷ codes "logread" ∷ codes "selftest" ∷ []) then 2
    else (if is_among name (codes "ball" ∷ codes "kbcos" ∷ []) then 3
    else (if is_among name (codes "autgroup" ∷ codes "gpaxioms" ∷ codes "gpminkb" ∷ []) then 4
    else (if is_among name (codes "kbverify" ∷ codes "kbcertify" ∷ []) then 5
    else 1))))

combined : (task : Combine) (operation : Combination)
    → family_named (automata_text (automata_name (automata.Combine (record task { operation = operation })))) ≡ 1
unfolding family_named is_among
combined task And = refl
combined task Or = refl
combined task Concat = refl

transformed : (task : Transform) (operation : Transformation)
    → family_named (automata_text (automata_name (automata.Transform (record task { operation = operation })))) ≡ 1
unfolding family_named is_among
transformed task Not = refl
transformed task Exists = refl
transformed task Star = refl
transformed task Reverse = refl

automata_family : (task : AutomataTask) → family_named (automata_text (automata_name task)) ≡ 1
unfolding family_named is_among
automata_family (automata.Combine task) = combined task task.operation
automata_family (automata.Transform task) = transformed task task.operation
automata_family (automata.Minimise task) = refl
automata_family (automata.Compare task) = refl
automata_family (automata.Enumerate task) = refl
automata_family (automata.CountAccepted task) = refl

pub family_by_name : (command : Command) → family_named (command_name command) ≡ family command
unfolding family_named is_among
family_by_name (WordReduce task) = refl
family_by_name (Automata task) = automata_family task
family_by_name (Completion (Kbprog task)) = refl
family_by_name (Completion (Logread task)) = refl
family_by_name (Completion (SelfTest task)) = refl
family_by_name (Elements (Ball task)) = refl
family_by_name (Elements (Kbcos task)) = refl
family_by_name (Structures (Autgroup task)) = refl
family_by_name (Structures (Gpaxioms task)) = refl
family_by_name (Structures (Gpminkb task)) = refl
family_by_name (Proofs (Kbverify task)) = refl
family_by_name (Proofs (Kbcertify task)) = refl
