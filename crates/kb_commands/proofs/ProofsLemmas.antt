-- The command that is read of a subcommand's arguments.
use Rattle.std.proofs.Common.{◌≡◌, ◌∙◌, ℕ, Option, Some, None, List, ◌∷◌, sym, ap, refl, codes, if◌then◌else◌, suc, ◌+◌, ◌<◌, ◌≤◌, get_or, drop, false, arith}
use Rattle.std.proofs.Math.Seq.{drop-cons}
use Rattle.std.proofs.lemmas.List.{drop_all}
use Rattle.std.specs.Str.{bytes_eq}
use Rattle.clap.specs.Words.{AddsSubcommand, App, Row, Text, app_of, with_subcommand}
use Rattle.clap.specs.declared.builder.command.Command.{Command}
use Rattle.clap.specs.declared.builder.command.Command.TheViews.{out-Command}
use Rattle.kb_system.specs.Evidence.{Limits}
use Rattle.kb_commands.specs.Arguments.{Entered, GivesOption, ReadsAs}
use Rattle.kb_commands.specs.declared.arguments.NumberOption.TheVariants.{Workers}
use Rattle.kb_commands.proofs.ArgumentLemmas.{added, text_given-at, own_name, own_rows}
use Rattle.kb_commands.specs.Limits.{GivesLimits}
use Rattle.kb_commands.proofs.LimitLemmas.{same_limits, same_workers}
use Rattle.kb_cmd_proofs.specs.Given.{KbcertifyGiven, KbverifyGiven}
use Rattle.kb_commands.specs.Proofs.{name_text, command_app, with_commands, all_names, name_of_task, GivesTask, GivesKbcertify, GivesKbverify, IsProofsTask, IsRead}
use Rattle.kb_commands.specs.declared.proofs.name.Name.{Name}
use Rattle.kb_commands.specs.declared.proofs.name.Name.TheVariants as names
use Rattle.kb_cmd_proofs.specs.declared.task.ProofsTask.{ProofsTask}
use Rattle.kb_cmd_proofs.specs.declared.task.ProofsTask.TheVariants as tasks

-- ---- names

-- the command of a name
named : Text → Name
named name = if bytes_eq name (codes "kbverify") then names.Kbverify else names.Kbcertify

named_by_name : (name : Name) → named (name_text name) ≡ name
unfolding named
named_by_name names.Kbverify = refl
named_by_name names.Kbcertify = refl

-- two commands have two names
pub one_name : (name other : Name) → name_text name ≡ name_text other → name ≡ other
one_name name other is = sym (named_by_name name) ∙ ap named is ∙ named_by_name other

-- ---- one subcommand is one command at most

same_kbverify : (rows : List Row) (given other : KbverifyGiven) → GivesKbverify rows given → GivesKbverify rows other → given ≡ other
same_kbverify rows given other a b =
    let files : given.file ≡ other.file =
    text_given-at rows (codes "file") given.file a.file ∙ sym (text_given-at rows (codes "file") other.file b.file) in
    λ i. record { file = files i }

same_kbcertify : (rows : List Row) (given other : KbcertifyGiven) → GivesKbcertify rows given → GivesKbcertify rows other → given ≡ other
same_kbcertify rows given other a b =
    let files : given.file ≡ other.file =
    text_given-at rows (codes "file") given.file a.file ∙ sym (text_given-at rows (codes "file") other.file b.file) in
    let threads : given.workers ≡ other.workers = same_workers rows given.workers other.workers a.workers b.workers in
    let bounds : given.limits ≡ other.limits = same_limits rows given.limits other.limits a.limits b.limits in
    λ i. record { file = files i; workers = threads i; limits = bounds i }

same_task : (rows : List Row) (task other : ProofsTask) → name_of_task task ≡ name_of_task other → GivesTask task rows → GivesTask other rows
    → task ≡ other
same_task rows (tasks.Kbverify task) (tasks.Kbverify other) is a b = ap tasks.Kbverify (same_kbverify rows task other a b)
same_task rows (tasks.Kbcertify task) (tasks.Kbcertify other) is a b = ap tasks.Kbcertify (same_kbcertify rows task other a b)
same_task rows _ _ is a b = cc

-- one command at most is entered
pub one_proofs_task : (entered : Entered) (task other : ProofsTask) → IsProofsTask entered task → IsProofsTask entered other → task ≡ other
one_proofs_task entered task other a b =
    let named_alike = own_name entered (name_text (name_of_task task)) (name_text (name_of_task other)) a.rows (GivesTask other) a.is b in
    let own = own_rows entered (name_text (name_of_task task)) (name_text (name_of_task other)) a.rows (GivesTask other) a.is b in
    same_task a.rows task other (one_name (name_of_task task) (name_of_task other) named_alike) a.so own

-- ---- what is read of what was entered

-- what is read of the arguments and options of a subcommand is read of it
pub read-entered : (entered : Entered) (name : Name) (rows : List Row) (read : Option ProofsTask) → entered ≡ Some (name_text name, rows)
    → IsRead name rows read → ReadsAs IsProofsTask entered read
read-entered entered name rows (Some task) is reads =
    record { rows = rows; is = is ∙ ap (λ n. Some (name_text n, rows)) (sym reads.0); so = reads.1 }
read-entered entered name rows None is reads = λ task entered_task.
    let same = own_name entered (name_text name) (name_text (name_of_task task)) rows (GivesTask task) is entered_task in
    reads task (sym (one_name name (name_of_task task) same))
    (own_rows entered (name_text name) (name_text (name_of_task task)) rows (GivesTask task) is entered_task)

-- ---- options that give no command

pub no_workers : (rows : List Row) → ((n : ℕ) → ¬ GivesOption rows Workers n)
    → (task : ProofsTask) → name_of_task task ≡ names.Kbcertify → ¬ GivesTask task rows
no_workers rows none (tasks.Kbcertify task) is gives = none task.workers gives.workers
no_workers rows none _ is gives = cc

pub no_limits : (rows : List Row) → ((limits : Limits) → ¬ GivesLimits rows limits)
    → (task : ProofsTask) → name_of_task task ≡ names.Kbcertify → ¬ GivesTask task rows
no_limits rows none (tasks.Kbcertify task) is gives = none task.limits gives.limits
no_limits rows none _ is gives = cc

-- ---- commands that are added one after another

-- one more command is added
pub one_added : (index : ℕ) (program sub next : Command) (whole : App) → index < 2
    → AddsSubcommand program sub next → (out-Command sub).has_globals ≡ false → app_of sub ≡ command_app (get_or all_names index names.Kbverify)
    → with_commands (app_of program) (drop index all_names) ≡ whole → with_commands (app_of next) (drop (index + 1) all_names) ≡ whole
one_added index program sub next whole within adds local is_app rest =
    let name : Name = get_or all_names index names.Kbverify in
    let split : drop index all_names ≡ name ∷ drop (suc index) all_names = drop-cons all_names index names.Kbverify within in
    let first : with_commands (with_subcommand (app_of program) (command_app name).top) (drop (suc index) all_names) ≡ whole =
    sym (ap (with_commands (app_of program)) split) ∙ rest in
    let after : index + 1 ≡ suc index = omega arith in
    ap (λ k. with_commands (app_of next) (drop k all_names)) after
    ∙ ap (λ app. with_commands app (drop (suc index) all_names)) (added program sub next (app_of program) (command_app name) adds local is_app refl) ∙ first

-- all commands are added
pub all_added : (index : ℕ) (program : Command) (whole : App) → 2 ≤ index → with_commands (app_of program) (drop index all_names) ≡ whole
    → app_of program ≡ whole
all_added index program whole past rest = sym (ap (with_commands (app_of program)) (drop_all index all_names past)) ∙ rest
