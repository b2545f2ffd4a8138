-- What is read of the command line.
use Rattle.std.proofs.Common.{◌≡◌, ◌∙◌, Option, Some, None, List, sym, codes}
use Rattle.clap.specs.Words.{Row}
use Rattle.kb_commands.specs.Arguments.{Entered, ReadsAs}
use Rattle.kb_commands.specs.declared.arguments.NumberOption.TheVariants.{Workers, Batch}
use Rattle.kb_commands.proofs.ArgumentLemmas.{flag_given-at, text_given-at, option_given-at, own_rows}
use Rattle.kb_cmd_words.specs.Given.{Given}
use Rattle.kb_commands.specs.Words.{GivesWordReduce, GivenAs, IsWordReduce}

same_given : (rows : List Row) (one other : Given) → GivesWordReduce rows one → GivesWordReduce rows other → one ≡ other
same_given rows one other a b =
    let files : one.file ≡ other.file = text_given-at rows (codes "file") one.file a.file ∙ sym (text_given-at rows (codes "file") other.file b.file) in
    let workers : one.workers ≡ other.workers =
    option_given-at rows Workers one.workers a.workers ∙ sym (option_given-at rows Workers other.workers b.workers) in
    let batches : one.batch ≡ other.batch =
    option_given-at rows Batch one.batch a.batch ∙ sym (option_given-at rows Batch other.batch b.batch) in
    let by_log : one.by_log ≡ other.by_log = flag_given-at rows (codes "log") one.by_log other.by_log a.by_log b.by_log in
    λ i. record { file = files i; workers = workers i; batch = batches i; by_log = by_log i }

-- one entered subcommand is one command at most
pub one_wordreduce : (entered : Entered) (one other : Given) → IsWordReduce entered one → IsWordReduce entered other → one ≡ other
one_wordreduce entered one other a b =
    same_given a.rows one other a.so
    (own_rows entered (codes "wordreduce") (codes "wordreduce") a.rows (λ rows. GivesWordReduce rows other) a.is b)

-- what is read of the arguments and options of the subcommand is read of it
pub read_rows : (entered : Entered) (rows : List Row) (read : Option Given) → entered ≡ Some (codes "wordreduce", rows) → GivenAs rows read
    → ReadsAs IsWordReduce entered read
read_rows entered rows (Some given) is gives = record { rows = rows; is = is; so = gives }
read_rows entered rows None is none = λ given is_command.
    none given (own_rows entered (codes "wordreduce") (codes "wordreduce") rows (λ r. GivesWordReduce r given) is is_command)
