-- From what clap says of a parse to the lines of the program.
use Rattle.std.proofs.Common.{◌≡◌, ◌≢◌, ◌∙◌, true, List, [], inl, inr, refl, sym, ap, subst}
use Rattle.clap.specs.Words.{App, Text, HasKind, HasMatchesOf, IsAmong, fault_of, is_simple, is_simple_and_free, kind_of, subcommand_of, subcommand_rows_of}
use Rattle.clap.specs.declared.error.Error.{Error}
use Rattle.clap.specs.declared.error.kind.ErrorKind.{ErrorKind}
use Rattle.clap.specs.declared.error.kind.ErrorKind.TheVariants.{OutOfMemory}
use Rattle.clap.specs.declared.parser.matches.ArgMatches.{ArgMatches}
use Rattle.clap.proofs.OnLiterals.{clap_on_literals}
use Rattle.kb_cli.specs.CommandLine.{line_app, Explains, IsLine, IsNoLine, IsUsageOf, faulty, no_number}
use Rattle.kb_cli.specs.declared.command.Command.{Command}
use Rattle.kb_cli.specs.declared.arguments.UsageError.{UsageError}
use Rattle.kb_cli.specs.declared.arguments.UsageError.TheVariants.{Usage, Memory}

-- clap's definition speaks of this program
pub line_is_simple : is_simple line_app ≡ true
unfolding clap_on_literals
line_is_simple = refl

pub line_is_free : is_simple_and_free line_app ≡ true
unfolding clap_on_literals
line_is_free = refl

-- an error of the kind explains words that are no line of that kind
pub explained : (words : List Text) (kind : ErrorKind) (answer : UsageError) → IsUsageOf kind answer → IsNoLine words kind → Explains words answer
explained words kind (Usage found text) is wrong = subst (IsNoLine words) (sym is) wrong
explained words kind Memory is wrong = absurd is

-- what clap refuses is no line
pub refused : (app : App) (words : List Text) (e : Error) (answer : UsageError) → app ≡ line_app
    → (is_simple_and_free app ≡ true → HasKind (fault_of app words) e)
    → IsUsageOf (kind_of e) answer → kind_of e ≢ OutOfMemory → Explains words answer
refused app words e answer is kinds usage no_memory =
    let kind = subst (λ a. HasKind (fault_of a words) e) is (kinds (ap is_simple_and_free is ∙ line_is_free)) in
    explained words (kind_of e) answer usage (elim kind [
      | inl memory ↦ absurd (no_memory memory)
      | inr among ↦ faulty among
    ])

-- what clap takes has no fault, and its matches are those of the definition
pub faultless_line : (app : App) (words : List Text) → app ≡ line_app → (is_simple_and_free app ≡ true → fault_of app words ≡ []) → fault_of line_app words ≡ []
faultless_line app words is kinds = ap (λ a. fault_of a words) (sym is) ∙ kinds (ap is_simple_and_free is ∙ line_is_free)

pub entered_line : (app : App) (words : List Text) (m : ArgMatches) → app ≡ line_app → HasMatchesOf app words m → subcommand_rows_of m ≡ subcommand_of line_app words
entered_line app words m is matches = (matches (ap is_simple is ∙ line_is_simple)).1 ∙ ap (λ a. subcommand_of a words) is

-- no words are a line and no line
pub line_or_not : (words : List Text) (command : Command) (kind : ErrorKind) → IsLine words command → ¬ IsNoLine words kind
line_or_not words command kind line (faulty among) = subst (IsAmong kind) line.faultless among
line_or_not words command kind line (no_number faultless unsaid is) = unsaid command line.is
