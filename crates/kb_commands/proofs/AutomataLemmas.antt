-- The command that is read of a subcommand's arguments and options.
use Rattle.std.proofs.Common.{◌≡◌, ◌∙◌, ℕ, Option, Some, None, List, [], ◌∷◌, length, sym, ap, refl, codes, if◌then◌else◌, suc, ◌+◌, ◌<◌, ◌≤◌, get_or, drop, false, arith}
use Rattle.std.proofs.Math.Seq.{drop-cons}
use Rattle.std.proofs.lemmas.List.{drop_all}
use Rattle.std.specs.Str.{bytes_eq}
use Rattle.clap.specs.Words.{AddsSubcommand, App, Row, Text, app_of, with_subcommand}
use Rattle.clap.specs.declared.builder.command.Command.{Command}
use Rattle.clap.specs.declared.builder.command.Command.TheViews.{out-Command}
use Rattle.kb_commands.specs.Arguments.{Entered, GivesLengths, GivesNumber, GivesOption, ReadsAs}
use Rattle.kb_commands.specs.declared.arguments.NumberOption.TheVariants.{MaxStates}
use Rattle.kb_commands.proofs.ArgumentLemmas.{added, text_given-at, number_given-at, option_given-at, own_name, own_rows}
use Rattle.kb_commands.specs.Automata.{name_text, command_app, with_commands, all_names, name_of_task, GivesTask, GivesCombine, GivesTransform, GivesFiles, GivesCompare, GivesCount, GivesEnumerate, IsAutomataTask, IsRead}
use Rattle.kb_cmd_automata.specs.declared.combine.Combination.{Combination}
use Rattle.kb_cmd_automata.specs.declared.combine.Combination.TheVariants.{And, Or, Concat}
use Rattle.kb_cmd_automata.specs.declared.combine.Combine.{Combine}
use Rattle.kb_cmd_automata.specs.declared.compare.Compare.{Compare}
use Rattle.kb_cmd_automata.specs.declared.counting.CountAccepted.{CountAccepted}
use Rattle.kb_cmd_automata.specs.declared.enumerate.Enumerate.{Enumerate}
use Rattle.kb_cmd_automata.specs.declared.files.FileToOut.{FileToOut}
use Rattle.kb_commands.specs.declared.automata.name.Name.{Name}
use Rattle.kb_commands.specs.declared.automata.name.Name.TheVariants as names
use Rattle.kb_commands.specs.declared.automata.name.Unlimited.TheVariants.{Minimise}
use Rattle.kb_cmd_automata.specs.declared.task.AutomataTask.{AutomataTask}
use Rattle.kb_cmd_automata.specs.declared.task.AutomataTask.TheVariants as tasks
use Rattle.kb_cmd_automata.specs.declared.transform.Transform.{Transform}
use Rattle.kb_cmd_automata.specs.declared.transform.Transformation.{Transformation}
use Rattle.kb_cmd_automata.specs.declared.transform.Transformation.TheVariants.{Not, Exists, Star, Reverse}

-- ---- names

-- the first of the commands that is called so
first_named : List Name → Text → Name
first_named [] text = names.Enumerate
first_named (name ∷ others) text = if bytes_eq text (name_text name) then name else first_named others text

named : Text → Name
named = first_named all_names

named_by_name : (name : Name) → named (name_text name) ≡ name
unfolding named first_named
named_by_name (names.Combine And) = refl
named_by_name (names.Combine Or) = refl
named_by_name (names.Combine Concat) = refl
named_by_name (names.Transform Not) = refl
named_by_name (names.Transform Exists) = refl
named_by_name (names.Transform Star) = refl
named_by_name (names.Transform Reverse) = refl
named_by_name (names.Unlimited Minimise) = refl
named_by_name names.Compare = refl
named_by_name names.Enumerate = refl
named_by_name names.CountAccepted = refl

-- two commands have two names
pub one_name : (name other : Name) → name_text name ≡ name_text other → name ≡ other
one_name name other is = sym (named_by_name name) ∙ ap named is ∙ named_by_name other

-- ---- one subcommand is one command at most

same_combine : (rows : List Row) (task other : Combine) → task.operation ≡ other.operation → GivesCombine rows task → GivesCombine rows other → task ≡ other
same_combine rows task other same a b =
    let ones : task.one ≡ other.one = text_given-at rows (codes "first") task.one a.one ∙ sym (text_given-at rows (codes "first") other.one b.one) in
    let twos : task.two ≡ other.two = text_given-at rows (codes "second") task.two a.two ∙ sym (text_given-at rows (codes "second") other.two b.two) in
    let outs : task.out ≡ other.out = text_given-at rows (codes "out") task.out a.out ∙ sym (text_given-at rows (codes "out") other.out b.out) in
    let mosts : task.max_states ≡ other.max_states =
    option_given-at rows MaxStates task.max_states a.max_states
    ∙ sym (option_given-at rows MaxStates other.max_states b.max_states) in
    λ i. record { operation = same i; one = ones i; two = twos i; out = outs i; max_states = mosts i }

same_transform : (rows : List Row) (task other : Transform) → task.operation ≡ other.operation → GivesTransform rows task → GivesTransform rows other → task ≡ other
same_transform rows task other same a b =
    let files : task.file ≡ other.file = text_given-at rows (codes "first") task.file a.file ∙ sym (text_given-at rows (codes "first") other.file b.file) in
    let outs : task.out ≡ other.out = text_given-at rows (codes "out") task.out a.out ∙ sym (text_given-at rows (codes "out") other.out b.out) in
    let mosts : task.max_states ≡ other.max_states =
    option_given-at rows MaxStates task.max_states a.max_states
    ∙ sym (option_given-at rows MaxStates other.max_states b.max_states) in
    λ i. record { operation = same i; file = files i; out = outs i; max_states = mosts i }

same_files : (rows : List Row) (files other : FileToOut) → GivesFiles rows files → GivesFiles rows other → files ≡ other
same_files rows files other a b =
    let ones : files.file ≡ other.file = text_given-at rows (codes "first") files.file a.file ∙ sym (text_given-at rows (codes "first") other.file b.file) in
    let outs : files.out ≡ other.out = text_given-at rows (codes "out") files.out a.out ∙ sym (text_given-at rows (codes "out") other.out b.out) in
    λ i. record { file = ones i; out = outs i }

same_compare : (rows : List Row) (task other : Compare) → GivesCompare rows task → GivesCompare rows other → task ≡ other
same_compare rows task other a b =
    let ones : task.one ≡ other.one = text_given-at rows (codes "first") task.one a.one ∙ sym (text_given-at rows (codes "first") other.one b.one) in
    let twos : task.two ≡ other.two = text_given-at rows (codes "second") task.two a.two ∙ sym (text_given-at rows (codes "second") other.two b.two) in
    let mosts : task.max_states ≡ other.max_states =
    option_given-at rows MaxStates task.max_states a.max_states
    ∙ sym (option_given-at rows MaxStates other.max_states b.max_states) in
    λ i. record { one = ones i; two = twos i; max_states = mosts i }

same_enumerate : (rows : List Row) (task other : Enumerate) → GivesEnumerate rows task → GivesEnumerate rows other → task ≡ other
same_enumerate rows task other a b =
    let leasts : task.min ≡ other.min =
    number_given-at rows (codes "min") 0 65535 task.min a.min ∙ sym (number_given-at rows (codes "min") 0 65535 other.min b.min) in
    let mosts : task.max ≡ other.max =
    number_given-at rows (codes "max") 0 65535 task.max a.max ∙ sym (number_given-at rows (codes "max") 0 65535 other.max b.max) in
    let files : task.file ≡ other.file = text_given-at rows (codes "first") task.file a.file ∙ sym (text_given-at rows (codes "first") other.file b.file) in
    λ i. record { min = leasts i; max = mosts i; file = files i }

same_lengths : (rows : List Row) (lengths other : Option ℕ) → GivesLengths rows lengths → GivesLengths rows other → lengths ≡ other
same_lengths rows None None a b = refl
same_lengths rows None (Some most) a b = let no = sym a ∙ b.given in cc
same_lengths rows (Some most) None a b = let no = sym b ∙ a.given in cc
same_lengths rows (Some most) (Some other) a b =
    ap Some (number_given-at rows (codes "lengths") 0 65535 most a ∙ sym (number_given-at rows (codes "lengths") 0 65535 other b))

same_count : (rows : List Row) (task other : CountAccepted) → GivesCount rows task → GivesCount rows other → task ≡ other
same_count rows task other a b =
    let files : task.file ≡ other.file = text_given-at rows (codes "first") task.file a.file ∙ sym (text_given-at rows (codes "first") other.file b.file) in
    let lengths : task.lengths ≡ other.lengths = same_lengths rows task.lengths other.lengths a.lengths b.lengths in
    λ i. record { file = files i; lengths = lengths i }

same_operation : (task other : Combine) → names.Combine task.operation ≡ names.Combine other.operation → task.operation ≡ other.operation
same_operation task other is = cc

same_transformation : (task other : Transform) → names.Transform task.operation ≡ names.Transform other.operation → task.operation ≡ other.operation
same_transformation task other is = cc

same_task : (rows : List Row) (task other : AutomataTask) → name_of_task task ≡ name_of_task other → GivesTask task rows → GivesTask other rows → task ≡ other
same_task rows (tasks.Combine task) (tasks.Combine other) is a b = ap tasks.Combine (same_combine rows task other (same_operation task other is) a b)
same_task rows (tasks.Transform task) (tasks.Transform other) is a b =
    ap tasks.Transform (same_transform rows task other (same_transformation task other is) a b)
same_task rows (tasks.Minimise task) (tasks.Minimise other) is a b = ap (λ f. tasks.Minimise (record { files = f })) (same_files rows task.files other.files a b)
same_task rows (tasks.Compare task) (tasks.Compare other) is a b = ap tasks.Compare (same_compare rows task other a b)
same_task rows (tasks.Enumerate task) (tasks.Enumerate other) is a b = ap tasks.Enumerate (same_enumerate rows task other a b)
same_task rows (tasks.CountAccepted task) (tasks.CountAccepted other) is a b = ap tasks.CountAccepted (same_count rows task other a b)
same_task rows _ _ is a b = cc

-- one command at most is entered
pub one_automata_task : (entered : Entered) (task other : AutomataTask) → IsAutomataTask entered task → IsAutomataTask entered other → task ≡ other
one_automata_task entered task other a b =
    let named_alike = own_name entered (name_text (name_of_task task)) (name_text (name_of_task other)) a.rows (GivesTask other) a.is b in
    let own = own_rows entered (name_text (name_of_task task)) (name_text (name_of_task other)) a.rows (GivesTask other) a.is b in
    same_task a.rows task other (one_name (name_of_task task) (name_of_task other) named_alike) a.so own

-- ---- what is read of what was entered

-- what is read of the arguments and options of a subcommand is read of it
pub read-entered : (entered : Entered) (name : Name) (rows : List Row) (read : Option AutomataTask) → entered ≡ Some (name_text name, rows)
    → IsRead name rows read → ReadsAs IsAutomataTask entered read
read-entered entered name rows (Some task) is reads =
    record { rows = rows; is = is ∙ ap (λ n. Some (name_text n, rows)) (sym reads.0); so = reads.1 }
read-entered entered name rows None is reads = λ task entered_task.
    let same = own_name entered (name_text name) (name_text (name_of_task task)) rows (GivesTask task) is entered_task in
    reads task (sym (one_name name (name_of_task task) same))
    (own_rows entered (name_text name) (name_text (name_of_task task)) rows (GivesTask task) is entered_task)

-- ---- arguments that give no command

pub no_combine : (operation : Combination) (rows : List Row) → ((n : ℕ) → ¬ GivesOption rows MaxStates n)
    → (task : AutomataTask) → name_of_task task ≡ names.Combine operation → ¬ GivesTask task rows
no_combine operation rows none (tasks.Combine task) is gives = none task.max_states gives.max_states
no_combine operation rows none _ is gives = cc

pub no_transform : (operation : Transformation) (rows : List Row) → ((n : ℕ) → ¬ GivesOption rows MaxStates n)
    → (task : AutomataTask) → name_of_task task ≡ names.Transform operation → ¬ GivesTask task rows
no_transform operation rows none (tasks.Transform task) is gives = none task.max_states gives.max_states
no_transform operation rows none _ is gives = cc

pub no_compare : (rows : List Row) → ((n : ℕ) → ¬ GivesOption rows MaxStates n)
    → (task : AutomataTask) → name_of_task task ≡ names.Compare → ¬ GivesTask task rows
no_compare rows none (tasks.Compare task) is gives = none task.max_states gives.max_states
no_compare rows none _ is gives = cc

pub no_least : (rows : List Row) → ((n : ℕ) → ¬ GivesNumber rows (codes "min") 0 65535 n)
    → (task : AutomataTask) → name_of_task task ≡ names.Enumerate → ¬ GivesTask task rows
no_least rows none (tasks.Enumerate task) is gives = none task.min gives.min
no_least rows none _ is gives = cc

pub no_most : (rows : List Row) → ((n : ℕ) → ¬ GivesNumber rows (codes "max") 0 65535 n)
    → (task : AutomataTask) → name_of_task task ≡ names.Enumerate → ¬ GivesTask task rows
no_most rows none (tasks.Enumerate task) is gives = none task.max gives.max
no_most rows none _ is gives = cc

pub no_lengths : (rows : List Row) → ((lengths : Option ℕ) → ¬ GivesLengths rows lengths)
    → (task : AutomataTask) → name_of_task task ≡ names.CountAccepted → ¬ GivesTask task rows
no_lengths rows none (tasks.CountAccepted task) is gives = none task.lengths gives.lengths
no_lengths rows none _ is gives = cc

-- ---- commands that are added one after another

-- one more command is added
pub one_added : (index : ℕ) (program sub next : Command) (whole : App) → index < length all_names
    → AddsSubcommand program sub next → (out-Command sub).has_globals ≡ false → app_of sub ≡ command_app (get_or all_names index (names.Combine And))
    → with_commands (app_of program) (drop index all_names) ≡ whole → with_commands (app_of next) (drop (index + 1) all_names) ≡ whole
one_added index program sub next whole within adds local is_app rest =
    let name : Name = get_or all_names index (names.Combine And) in
    let split : drop index all_names ≡ name ∷ drop (suc index) all_names = drop-cons all_names index (names.Combine And) within in
    let first : with_commands (with_subcommand (app_of program) (command_app name).top) (drop (suc index) all_names) ≡ whole =
    sym (ap (with_commands (app_of program)) split) ∙ rest in
    let after : index + 1 ≡ suc index = omega arith in
    ap (λ k. with_commands (app_of next) (drop k all_names)) after
    ∙ ap (λ app. with_commands app (drop (suc index) all_names)) (added program sub next (app_of program) (command_app name) adds local is_app refl) ∙ first

-- all commands are added
pub all_added : (index : ℕ) (program : Command) (whole : App) → length all_names ≤ index → with_commands (app_of program) (drop index all_names) ≡ whole
    → app_of program ≡ whole
all_added index program whole past rest = sym (ap (with_commands (app_of program)) (drop_all index all_names past)) ∙ rest
