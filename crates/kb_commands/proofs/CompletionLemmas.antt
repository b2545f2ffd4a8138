-- The command that is read of a subcommand's arguments and options.
use Rattle.std.proofs.Common.{◌≡◌, ◌∙◌, ℕ, Option, Some, None, List, ◌∷◌, sym, ap, refl, subst, codes, if◌then◌else◌, suc, ◌+◌, ◌<◌, ◌≤◌, get_or, drop, false, arith}
use Rattle.std.proofs.Math.Seq.{drop-cons}
use Rattle.std.proofs.lemmas.List.{drop_all}
use Rattle.std.specs.Str.{bytes_eq}
use Rattle.clap.specs.Words.{AddsSubcommand, App, Row, Text, app_of, with_subcommand}
use Rattle.clap.specs.declared.builder.command.Command.{Command}
use Rattle.clap.specs.declared.builder.command.Command.TheViews.{out-Command}
use Rattle.kb_system.specs.Evidence.{Limits}
use Rattle.kb_commands.specs.Arguments.{Entered, GivesNumber, GivesOption, ReadsAs}
use Rattle.kb_commands.specs.declared.arguments.NumberOption.TheVariants.{Workers, Batch}
use Rattle.kb_commands.proofs.ArgumentLemmas.{added, text_given-at, number_given-at, own_name, own_rows}
use Rattle.kb_commands.specs.Limits.{GivesLimits}
use Rattle.kb_commands.proofs.LimitLemmas.{same_batch, same_limits, same_workers}
use Rattle.kb_cmd_completion.specs.Given.{KbprogGiven, LogreadGiven, SelfTestGiven}
use Rattle.kb_commands.specs.Completion.{name_text, command_app, with_commands, all_names, name_of_task, GivesTask, GivesKbprog, GivesLogread, GivesSelfTest, IsCompletionTask, IsRead}
use Rattle.kb_commands.specs.declared.completion.name.Name.{Name}
use Rattle.kb_commands.specs.declared.completion.name.Name.TheVariants as names
use Rattle.kb_cmd_completion.specs.declared.task.CompletionTask.{CompletionTask}
use Rattle.kb_cmd_completion.specs.declared.task.CompletionTask.TheVariants as tasks

-- ---- names

-- the command of a name
named : Text → Name
named name =
    if bytes_eq name (codes "kbprog") then names.Kbprog
    else (if bytes_eq name (codes "logread") then names.Logread
    else names.SelfTest)

named_by_name : (name : Name) → named (name_text name) ≡ name
unfolding named
named_by_name names.Kbprog = refl
named_by_name names.Logread = refl
named_by_name names.SelfTest = refl

-- two commands have two names
pub one_name : (name other : Name) → name_text name ≡ name_text other → name ≡ other
one_name name other is = sym (named_by_name name) ∙ ap named is ∙ named_by_name other

-- ---- one subcommand is one command at most

same_file : (rows : List Row) (file other : Text) → GivesLogread rows (record { file = file }) → GivesLogread rows (record { file = other }) → file ≡ other
same_file rows file other a b = text_given-at rows (codes "file") file a.file ∙ sym (text_given-at rows (codes "file") other b.file)

same_kbprog : (rows : List Row) (given other : KbprogGiven) → GivesKbprog rows given → GivesKbprog rows other → given ≡ other
same_kbprog rows given other a b =
    let files : given.file ≡ other.file = same_file rows given.file other.file (record { file = a.file }) (record { file = b.file }) in
    let threads : given.workers ≡ other.workers = same_workers rows given.workers other.workers a.workers b.workers in
    let bounds : given.limits ≡ other.limits = same_limits rows given.limits other.limits a.limits b.limits in
    let words : given.batch ≡ other.batch = same_batch rows given.batch other.batch a.batch b.batch in
    λ i. record { file = files i; workers = threads i; limits = bounds i; batch = words i }

same_logread : (rows : List Row) (given other : LogreadGiven) → GivesLogread rows given → GivesLogread rows other → given ≡ other
same_logread rows given other a b =
    let files : given.file ≡ other.file = same_file rows given.file other.file a b in λ i. record { file = files i }

same_selftest : (rows : List Row) (given other : SelfTestGiven) → GivesSelfTest rows given → GivesSelfTest rows other → given ≡ other
same_selftest rows given other a b =
    let ranks : given.rank ≡ other.rank =
    number_given-at rows (codes "rank") 1 40 given.rank a.rank ∙ sym (number_given-at rows (codes "rank") 1 40 other.rank b.rank) in
    let threads : given.workers ≡ other.workers = same_workers rows given.workers other.workers a.workers b.workers in
    let bounds : given.limits ≡ other.limits = same_limits rows given.limits other.limits a.limits b.limits in
    λ i. record { rank = ranks i; workers = threads i; limits = bounds i }

same_task : (rows : List Row) (task other : CompletionTask) → name_of_task task ≡ name_of_task other → GivesTask task rows → GivesTask other rows → task ≡ other
same_task rows (tasks.Kbprog task) (tasks.Kbprog other) is a b = ap tasks.Kbprog (same_kbprog rows task other a b)
same_task rows (tasks.Logread task) (tasks.Logread other) is a b = ap tasks.Logread (same_logread rows task other a b)
same_task rows (tasks.SelfTest task) (tasks.SelfTest other) is a b = ap tasks.SelfTest (same_selftest rows task other a b)
same_task rows _ _ is a b = cc

-- one command at most is entered
pub one_completion_task : (entered : Entered) (task other : CompletionTask) → IsCompletionTask entered task → IsCompletionTask entered other → task ≡ other
one_completion_task entered task other a b =
    let named_alike = own_name entered (name_text (name_of_task task)) (name_text (name_of_task other)) a.rows (GivesTask other) a.is b in
    let own = own_rows entered (name_text (name_of_task task)) (name_text (name_of_task other)) a.rows (GivesTask other) a.is b in
    same_task a.rows task other (one_name (name_of_task task) (name_of_task other) named_alike) a.so own

-- ---- what is read of what was entered

-- what is read of the arguments and options of a subcommand is read of it
pub read-entered : (entered : Entered) (name : Name) (rows : List Row) (read : Option CompletionTask) → entered ≡ Some (name_text name, rows)
    → IsRead name rows read → ReadsAs IsCompletionTask entered read
read-entered entered name rows (Some task) is reads =
    record { rows = rows; is = is ∙ ap (λ n. Some (name_text n, rows)) (sym reads.0); so = reads.1 }
read-entered entered name rows None is reads = λ task entered_task.
    let same = own_name entered (name_text name) (name_text (name_of_task task)) rows (GivesTask task) is entered_task in
    reads task (sym (one_name name (name_of_task task) same))
    (own_rows entered (name_text name) (name_text (name_of_task task)) rows (GivesTask task) is entered_task)

-- ---- arguments that give no command

pub no_workers : (rows : List Row) → ((n : ℕ) → ¬ GivesOption rows Workers n)
    → (task : CompletionTask) → name_of_task task ≡ names.Kbprog → ¬ GivesTask task rows
no_workers rows none (tasks.Kbprog task) is gives = none task.workers gives.workers
no_workers rows none _ is gives = cc

pub no_limits : (rows : List Row) → ((limits : Limits) → ¬ GivesLimits rows limits)
    → (task : CompletionTask) → name_of_task task ≡ names.Kbprog → ¬ GivesTask task rows
no_limits rows none (tasks.Kbprog task) is gives = none task.limits gives.limits
no_limits rows none _ is gives = cc

pub no_batch : (rows : List Row) → ((n : ℕ) → ¬ GivesOption rows Batch n)
    → (task : CompletionTask) → name_of_task task ≡ names.Kbprog → ¬ GivesTask task rows
no_batch rows none (tasks.Kbprog task) is gives = none task.batch gives.batch
no_batch rows none _ is gives = cc

-- ---- arguments that give no `selftest`

module _ (rows : List Row) (read : Option CompletionTask) (is : read ≡ None) where
  reads_none : ((task : CompletionTask) → name_of_task task ≡ names.SelfTest → ¬ GivesTask task rows) → IsRead names.SelfTest rows read
  reads_none none = subst (IsRead names.SelfTest rows) (sym is) none

  pub no_rank : ((n : ℕ) → ¬ GivesNumber rows (codes "rank") 1 40 n) → IsRead names.SelfTest rows read
  no_rank none = reads_none without
    where
      without : (task : CompletionTask) → name_of_task task ≡ names.SelfTest → ¬ GivesTask task rows
      without (tasks.SelfTest task) named gives = none task.rank gives.rank
      without _ named gives = cc

  pub no_threads : ((n : ℕ) → ¬ GivesOption rows Workers n) → IsRead names.SelfTest rows read
  no_threads none = reads_none without
    where
      without : (task : CompletionTask) → name_of_task task ≡ names.SelfTest → ¬ GivesTask task rows
      without (tasks.SelfTest task) named gives = none task.workers gives.workers
      without _ named gives = cc

  pub no_bounds : ((limits : Limits) → ¬ GivesLimits rows limits) → IsRead names.SelfTest rows read
  no_bounds none = reads_none without
    where
      without : (task : CompletionTask) → name_of_task task ≡ names.SelfTest → ¬ GivesTask task rows
      without (tasks.SelfTest task) named gives = none task.limits gives.limits
      without _ named gives = cc

-- ---- commands that are added one after another

-- one more command is added
pub one_added : (index : ℕ) (program sub next : Command) (whole : App) → index < 3
    → AddsSubcommand program sub next → (out-Command sub).has_globals ≡ false → app_of sub ≡ command_app (get_or all_names index names.Kbprog)
    → with_commands (app_of program) (drop index all_names) ≡ whole → with_commands (app_of next) (drop (index + 1) all_names) ≡ whole
one_added index program sub next whole within adds local is_app rest =
    let name : Name = get_or all_names index names.Kbprog in
    let split : drop index all_names ≡ name ∷ drop (suc index) all_names = drop-cons all_names index names.Kbprog within in
    let first : with_commands (with_subcommand (app_of program) (command_app name).top) (drop (suc index) all_names) ≡ whole =
    sym (ap (with_commands (app_of program)) split) ∙ rest in
    let after : index + 1 ≡ suc index = omega arith in
    ap (λ k. with_commands (app_of next) (drop k all_names)) after
    ∙ ap (λ app. with_commands app (drop (suc index) all_names)) (added program sub next (app_of program) (command_app name) adds local is_app refl) ∙ first

-- all commands are added
pub all_added : (index : ℕ) (program : Command) (whole : App) → 3 ≤ index → with_commands (app_of program) (drop index all_names) ≡ whole
    → app_of program ≡ whole
all_added index program whole past rest = sym (ap (with_commands (app_of program)) (drop_all index all_names past)) ∙ rest
