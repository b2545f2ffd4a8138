-- The command that is read of a subcommand's arguments and options.
use Rattle.std.proofs.Common.{◌≡◌, ◌∙◌, ℕ, Option, Some, None, List, ◌∷◌, sym, ap, refl, if◌then◌else◌, suc, ◌+◌, ◌<◌, ◌≤◌, get_or, drop, false, codes, arith}
use Rattle.std.specs.Str.{bytes_eq}
use Rattle.std.proofs.Math.Seq.{drop-cons}
use Rattle.std.proofs.lemmas.List.{drop_all}
use Rattle.clap.specs.Words.{AddsSubcommand, App, Row, Text, app_of, with_subcommand}
use Rattle.clap.specs.declared.builder.command.Command.{Command}
use Rattle.clap.specs.declared.builder.command.Command.TheViews.{out-Command}
use Rattle.kb_system.specs.Evidence.{Limits}
use Rattle.kb_commands.specs.Arguments.{Entered, GivesOption, GivesText, ReadsAs}
use Rattle.kb_commands.specs.declared.arguments.NumberOption.TheVariants.{Workers, Batch}
use Rattle.kb_commands.proofs.ArgumentLemmas.{added, flag_given-at, text_given-at, own_name, own_rows}
use Rattle.kb_commands.specs.Limits.{GivesAllLimits, GivesLimits}
use Rattle.kb_commands.proofs.LimitLemmas.{same_all_limits, same_batch, same_limits, same_most, same_workers}
use Rattle.kb_cmd_structures.specs.Given.{AutgroupGiven, CheckGiven, GpaxiomsGiven}
use Rattle.kb_commands.specs.Structures.{name_text, command_app, with_commands, all_names, name_of_task, GivesTask, GivesAutgroup, GivesCheck, GivesGpaxioms, IsStructuresTask, IsRead}
use Rattle.kb_commands.specs.declared.structures.name.Name.{Name}
use Rattle.kb_commands.specs.declared.structures.name.Name.TheVariants as names
use Rattle.kb_cmd_structures.specs.declared.task.StructuresTask.{StructuresTask}
use Rattle.kb_cmd_structures.specs.declared.task.StructuresTask.TheVariants as tasks

-- ---- names

-- the command of a name
named : Text → Name
named name = if bytes_eq name (codes "autgroup") then names.Autgroup
    else if bytes_eq name (codes "gpaxioms") then names.Gpaxioms else names.Gpminkb

named_by_name : (name : Name) → named (name_text name) ≡ name
unfolding named
named_by_name names.Autgroup = refl
named_by_name names.Gpaxioms = refl
named_by_name names.Gpminkb = refl

-- two commands have two names
pub one_name : (name other : Name) → name_text name ≡ name_text other → name ≡ other
one_name name other is = sym (named_by_name name) ∙ ap named is ∙ named_by_name other

-- ---- one subcommand is one command at most

same_file : (rows : List Row) (file other : Text) → GivesText rows (codes "file") file → GivesText rows (codes "file") other → file ≡ other
same_file rows file other a b = text_given-at rows (codes "file") file a ∙ sym (text_given-at rows (codes "file") other b)

same_autgroup : (rows : List Row) (given other : AutgroupGiven) → GivesAutgroup rows given → GivesAutgroup rows other → given ≡ other
same_autgroup rows given other a b =
    let files : given.file ≡ other.file = same_file rows given.file other.file a.file b.file in
    let threads : given.workers ≡ other.workers = same_workers rows given.workers other.workers a.workers b.workers in
    let bounds : given.limits ≡ other.limits =
    same_all_limits rows given.limits other.limits given.most other.most a.limits b.limits in
    let kept : given.most ≡ other.most = same_most rows given.limits other.limits given.most other.most a.limits b.limits in
    let words : given.batch ≡ other.batch = same_batch rows given.batch other.batch a.batch b.batch in
    λ i. record { file = files i; workers = threads i; limits = bounds i; most = kept i; batch = words i }

same_check : (rows : List Row) (given other : CheckGiven) → GivesCheck rows given → GivesCheck rows other → given ≡ other
same_check rows given other a b =
    let files : given.file ≡ other.file = same_file rows given.file other.file a.file b.file in
    let threads : given.workers ≡ other.workers = same_workers rows given.workers other.workers a.workers b.workers in
    let bounds : given.limits ≡ other.limits = same_limits rows given.limits other.limits a.limits b.limits in
    λ i. record { file = files i; workers = threads i; limits = bounds i }

same_gpaxioms : (rows : List Row) (given other : GpaxiomsGiven) → GivesGpaxioms rows given → GivesGpaxioms rows other → given ≡ other
same_gpaxioms rows given other a b =
    let check : given.check ≡ other.check = same_check rows given.check other.check a.check b.check in
    let by_log : given.by_log ≡ other.by_log = flag_given-at rows (codes "log") given.by_log other.by_log a.by_log b.by_log in
    λ i. record { check = check i; by_log = by_log i }

same_task : (rows : List Row) (task other : StructuresTask) → name_of_task task ≡ name_of_task other → GivesTask task rows → GivesTask other rows → task ≡ other
same_task rows (tasks.Autgroup task) (tasks.Autgroup other) is a b = ap tasks.Autgroup (same_autgroup rows task other a b)
same_task rows (tasks.Gpaxioms task) (tasks.Gpaxioms other) is a b = ap tasks.Gpaxioms (same_gpaxioms rows task other a b)
same_task rows (tasks.Gpminkb task) (tasks.Gpminkb other) is a b = ap tasks.Gpminkb (same_check rows task other a b)
same_task rows _ _ is a b = cc

-- one command at most is entered
pub one_structures_task : (entered : Entered) (task other : StructuresTask) → IsStructuresTask entered task → IsStructuresTask entered other
    → task ≡ other
one_structures_task entered task other a b =
    let named_alike = own_name entered (name_text (name_of_task task)) (name_text (name_of_task other)) a.rows (GivesTask other) a.is b in
    let own = own_rows entered (name_text (name_of_task task)) (name_text (name_of_task other)) a.rows (GivesTask other) a.is b in
    same_task a.rows task other (one_name (name_of_task task) (name_of_task other) named_alike) a.so own

-- ---- what is read of what was entered

-- what is read of the arguments and options of a subcommand is read of it
pub read-entered : (entered : Entered) (name : Name) (rows : List Row) (read : Option StructuresTask) → entered ≡ Some (name_text name, rows)
    → IsRead name rows read → ReadsAs IsStructuresTask entered read
read-entered entered name rows (Some task) is reads =
    record { rows = rows; is = is ∙ ap (λ n. Some (name_text n, rows)) (sym reads.0); so = reads.1 }
read-entered entered name rows None is reads = λ task entered_task.
    let same = own_name entered (name_text name) (name_text (name_of_task task)) rows (GivesTask task) is entered_task in
    reads task (sym (one_name name (name_of_task task) same))
    (own_rows entered (name_text name) (name_text (name_of_task task)) rows (GivesTask task) is entered_task)

-- ---- arguments that give no command

pub no_workers : (rows : List Row) → ((n : ℕ) → ¬ GivesOption rows Workers n) → (name : Name) (task : StructuresTask)
    → name_of_task task ≡ name → ¬ GivesTask task rows
no_workers rows none name (tasks.Autgroup task) is gives = none task.workers gives.workers
no_workers rows none name (tasks.Gpaxioms task) is gives = none task.check.workers gives.check.workers
no_workers rows none name (tasks.Gpminkb task) is gives = none task.workers gives.workers

pub no_limits : (rows : List Row) → ((limits : Limits) → ¬ GivesLimits rows limits)
    → (task : StructuresTask) → name_of_task task ≡ names.Gpaxioms → ¬ GivesTask task rows
no_limits rows none (tasks.Gpaxioms task) is gives = none task.check.limits gives.check.limits
no_limits rows none _ is gives = cc

pub no_system_limits : (rows : List Row) → ((limits : Limits) → ¬ GivesLimits rows limits)
    → (task : StructuresTask) → name_of_task task ≡ names.Gpminkb → ¬ GivesTask task rows
no_system_limits rows none (tasks.Gpminkb task) is gives = none task.limits gives.limits
no_system_limits rows none _ is gives = cc

pub no_bounds : (rows : List Row) → ((limits : Limits) (most : ℕ) → ¬ GivesAllLimits rows limits most)
    → (task : StructuresTask) → name_of_task task ≡ names.Autgroup → ¬ GivesTask task rows
no_bounds rows none (tasks.Autgroup task) is gives = none task.limits task.most gives.limits
no_bounds rows none _ is gives = cc

pub no_batch : (rows : List Row) → ((n : ℕ) → ¬ GivesOption rows Batch n)
    → (task : StructuresTask) → name_of_task task ≡ names.Autgroup → ¬ GivesTask task rows
no_batch rows none (tasks.Autgroup task) is gives = none task.batch gives.batch
no_batch rows none _ is gives = cc

-- ---- commands that are added one after another

-- one more command is added
pub one_added : (index : ℕ) (program sub next : Command) (whole : App) → index < 3
    → AddsSubcommand program sub next → (out-Command sub).has_globals ≡ false → app_of sub ≡ command_app (get_or all_names index names.Autgroup)
    → with_commands (app_of program) (drop index all_names) ≡ whole → with_commands (app_of next) (drop (index + 1) all_names) ≡ whole
one_added index program sub next whole within adds local is_app rest =
    let name : Name = get_or all_names index names.Autgroup in
    let split : drop index all_names ≡ name ∷ drop (suc index) all_names = drop-cons all_names index names.Autgroup within in
    let first : with_commands (with_subcommand (app_of program) (command_app name).top) (drop (suc index) all_names) ≡ whole =
    sym (ap (with_commands (app_of program)) split) ∙ rest in
    let after : index + 1 ≡ suc index = omega arith in
    ap (λ k. with_commands (app_of next) (drop k all_names)) after
    ∙ ap (λ app. with_commands app (drop (suc index) all_names)) (added program sub next (app_of program) (command_app name) adds local is_app refl) ∙ first

-- all commands are added
pub all_added : (index : ℕ) (program : Command) (whole : App) → 3 ≤ index → with_commands (app_of program) (drop index all_names) ≡ whole
    → app_of program ≡ whole
all_added index program whole past rest = sym (ap (with_commands (app_of program)) (drop_all index all_names past)) ∙ rest
