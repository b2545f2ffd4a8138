-- Arguments and options of commands, by clap's own definition of what a command takes.
use Rattle.std.specs.Prelude.{◌≡◌, ◌↔◌, ◌≤◌, ℕ, pos, Bool, true, IsTrue, List, [], ◌∷◌, Option, Some, None, codes, slice_get}
use Rattle.std.specs.Str.Parse.{IsNumeral, digits_value}
use Rattle.clap.specs.Words.{Row, Rule, Text, first_of, new_rule}
use Rattle.clap.specs.declared.builder.action.ArgAction.TheVariants.{Set, SetTrue}
use Rattle.clap.specs.declared.builder.value_parser.ValueParser.TheVariants.{Signed}
use Rattle.kb_commands.specs.declared.arguments.NumberOption.{NumberOption}
use Rattle.kb_commands.specs.declared.arguments.NumberOption.TheVariants.{Workers, Batch, MaxRules, MaxLen, MaxDiffs, MaxStates}

-- an argument that must be there
abbrev pub needed_rule : Text → Rule
needed_rule name = record (new_rule name) { value_names = 1; required = true; action = Some Set }

-- an option's name, the greatest number that it takes, and the number where it isn't given; the least is 1
abbrev pub option_name : NumberOption → Text
option_name Workers = codes "workers"
option_name Batch = codes "batch"
option_name MaxRules = codes "max-rules"
option_name MaxLen = codes "max-len"
option_name MaxDiffs = codes "max-diffs"
option_name MaxStates = codes "max-states"

abbrev pub option_most : NumberOption → ℕ
option_most Workers = 64
option_most Batch = 4096
option_most MaxRules = 1000000
option_most MaxLen = 65535
option_most MaxDiffs = 65535
option_most MaxStates = 4000000

abbrev pub option_default : NumberOption → Text
option_default Workers = codes "4"
option_default Batch = codes "1"
option_default MaxRules = codes "32767"
option_default MaxLen = codes "1024"
option_default MaxDiffs = codes "2048"
option_default MaxStates = codes "262144"

-- an option as a command takes it
abbrev pub option_rule : NumberOption → Rule
option_rule option = record (new_rule (option_name option)) {
  long = Some (option_name option);
  value_names = 1;
  defaults = option_default option ∷ [];
  action = Some Set;
  parser = Some (Signed (pos 1) (pos (option_most option)));
}

-- an option without a value
abbrev pub flag_rule : Text → Rule
flag_rule name = record (new_rule name) { long = Some name; action = Some SetTrue }

-- an argument that is a length of words, from 0 to 65,535
abbrev pub length_rule : Text → Rule
length_rule name = record (needed_rule name) { parser = Some (Signed (pos 0) (pos 65535)) }

-- the option `--lengths`, which takes such a length and may be absent
abbrev pub lengths_rule : Rule
lengths_rule = record (new_rule (codes "lengths")) {
  long = Some (codes "lengths");
  value_names = 1;
  action = Some Set;
  parser = Some (Signed (pos 0) (pos 65535));
}

-- a number as the command line takes it: decimal digits, no sign, no zero before another digit
pub record IsNumber (text : Text) (n : ℕ) : Type 0 where
  pub digits : IsNumeral 10 text
  pub value : digits_value 10 text ≡ n
  pub plain : slice_get text 0 ≡ Some 48 → text ≡ 48 ∷ []

-- a number within bounds
pub record IsNumberWithin (text : Text) (low high n : ℕ) : Type 0 where
  pub number : IsNumber text n
  pub least : low ≤ n
  pub most : n ≤ high

-- a number within bounds is given under the name
pub record GivesNumber (rows : List Row) (name : Text) (low high n : ℕ) : Type 0 where
  pub digits : Text
  pub given : first_of name rows ≡ Some digits
  pub within : IsNumberWithin digits low high n

-- the text is given under the name
abbrev pub GivesText : List Row → Text → Text → Type 0
GivesText rows name text = first_of name rows ≡ Some text

-- the option of this name, which takes no value, is given, or it is not
abbrev pub GivesFlag : List Row → Text → Bool → Type 0
GivesFlag rows name flag = IsTrue flag ↔ (first_of name rows ≡ Some (codes "true"))

-- the option gives this number
abbrev pub GivesOption : List Row → NumberOption → ℕ → Type 0
GivesOption rows option n = GivesNumber rows (option_name option) 1 (option_most option) n

-- the option `--lengths` gives this length, or none is given
abbrev pub GivesLengths : List Row → Option ℕ → Type 0
GivesLengths rows None = first_of (codes "lengths") rows ≡ None
GivesLengths rows (Some most) = GivesNumber rows (codes "lengths") 0 65535 most

-- the subcommand that clap entered, with what its arguments and options give
abbrev pub Entered : Type 0
Entered = Option (Text × List Row)

-- the subcommand of this name was entered, and its arguments and options are so
pub record IsEntered (entered : Entered) (name : Text) (AreSo : List Row → Type 0) : Type 0 where
  pub rows : List Row
  pub is : entered ≡ Some (name, rows)
  pub so : AreSo rows

-- what is read of the subcommand that was entered: the command that it is, or none where it is none of these
abbrev pub ReadsAs : {Task : Type 0} → (Entered → Task → Type 0) → Entered → Option Task → Type 0
ReadsAs IsCommand entered (Some task) = IsCommand entered task
ReadsAs {Task} IsCommand entered None = (task : Task) → ¬ IsCommand entered task
