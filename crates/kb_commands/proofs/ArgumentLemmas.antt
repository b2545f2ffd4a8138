-- What is given under the names of a subcommand's arguments and options, and a program with one more subcommand.
use Rattle.std.proofs.Common.{◌≡◌, ◌∙◌, ℕ, Option, Some, None, List, [], refl, sym, ap, ap₂, subst, option_map, unwrap_or}
use Rattle.std.specs.Prelude.{◌↔◌, Bool, true, false, IsTrue, codes}
use Rattle.std.specs.Str.Parse.{digits_value}
use Rattle.std.proofs.lemmas.Option.{none-some, same_Some}
use Rattle.clap.specs.Words.{AddsSubcommand, App, Row, Text, app_of, first_of, subcommand_name_of, subcommand_rows_of, with_subcommand}
use Rattle.clap.specs.declared.builder.command.Command.{Command}
use Rattle.clap.specs.declared.builder.command.Command.TheViews.{out-Command}
use Rattle.clap.specs.declared.parser.matches.ArgMatches.{ArgMatches}
use Rattle.clap.specs.declared.parser.matches.ArgMatches.TheViews.{out-ArgMatches}
use Rattle.kb_commands.specs.Arguments.{Entered, GivesFlag, GivesNumber, GivesOption, GivesText, IsEntered, option_most, option_name}
use Rattle.kb_commands.specs.declared.arguments.NumberOption.{NumberOption}

-- ---- what is given under a name

-- the text and the number under a name
pub text_at : List Row → Text → Text
text_at rows name = unwrap_or (first_of name rows) []

pub number_at : List Row → Text → ℕ
number_at rows name = digits_value 10 (text_at rows name)

-- a text that is given is the one under the name
pub text_given-at : (rows : List Row) (name text : Text) → GivesText rows name text → text ≡ text_at rows name
unfolding text_at
text_given-at rows name text given = sym (ap (λ found. unwrap_or found []) given)

-- so is a number
pub number_given-at : (rows : List Row) (name : Text) (low high n : ℕ) → GivesNumber rows name low high n → n ≡ number_at rows name
unfolding number_at
number_given-at rows name low high n given =
    sym given.within.number.value ∙ ap (digits_value 10) (text_given-at rows name given.digits given.given)

-- and so is the number of an option
pub option_given-at : (rows : List Row) (option : NumberOption) (n : ℕ) → GivesOption rows option n → n ≡ number_at rows (option_name option)
option_given-at rows option n given = number_given-at rows (option_name option) 1 (option_most option) n given

-- an option without a value is given or not
pub flag_given-at : (rows : List Row) (name : Text) (one other : Bool) → GivesFlag rows name one → GivesFlag rows name other → one ≡ other
flag_given-at rows name true true a b = refl
flag_given-at rows name false false a b = refl
flag_given-at rows name true false a b = let bad : false ≡ true = b.1 (a.0 refl) in cc
flag_given-at rows name false true a b = let bad : false ≡ true = a.1 (b.0 refl) in cc

-- it is given where the text under its name is `true`
pub flag-some : (rows : List Row) (name text : Text) (flag : Bool) → first_of name rows ≡ Some text → (IsTrue flag ↔ (text ≡ codes "true"))
    → GivesFlag rows name flag
flag-some rows name text flag given is =
    (λ holds. given ∙ ap Some (is.0 holds), λ so. is.1 (same_Some text (codes "true") (sym given ∙ so)))

-- and it isn't where there is none
pub flag-none : (rows : List Row) (name : Text) → first_of name rows ≡ None → GivesFlag rows name false
flag-none rows name none =
    (λ holds. let bad : false ≡ true = holds in cc, λ so. absurd (none-some (codes "true") (sym none ∙ so)))

-- ---- the subcommand that was entered

same_name : (name other : Text) (rows others : List Row) → ◌≡◌ {A = Entered} (Some (name, rows)) (Some (other, others)) → name ≡ other
same_name name other rows others is = let inner : Some name ≡ Some other = ap (option_map (λ (p : Text × List Row). p.0)) is in cc

same_rows : (name other : Text) (rows others : List Row) → ◌≡◌ {A = Entered} (Some (name, rows)) (Some (other, others)) → rows ≡ others
same_rows name other rows others is = let inner : Some rows ≡ Some others = ap (option_map (λ (p : Text × List Row). p.1)) is in cc

-- a subcommand has one name
pub own_name : (entered : Entered) (name other : Text) (rows : List Row) (AreSo : List Row → Type 0) → entered ≡ Some (name, rows)
    → IsEntered entered other AreSo → name ≡ other
own_name entered name other rows AreSo is also = same_name name other rows also.rows (sym is ∙ also.is)

-- what is so of a subcommand's arguments and options is so of its own
pub own_rows : (entered : Entered) (name other : Text) (rows : List Row) (AreSo : List Row → Type 0) → entered ≡ Some (name, rows)
    → IsEntered entered other AreSo → AreSo rows
own_rows entered name other rows AreSo is also =
    subst AreSo (sym (same_rows name other rows also.rows (sym is ∙ also.is))) also.so

module _ {X A B : Type 0} where
  map_first : (o : Option X) (f : X → A) (g : X → B) → option_map (λ (p : A × B). p.0) (option_map (λ x. (f x, g x)) o) ≡ option_map f o
  map_first None f g = refl
  map_first (Some x) f g = refl

whole_pair : (entered : Entered) (name : Text) (rows : List Row)
    → option_map (λ p. p.0) entered ≡ Some name → option_map (λ p. p.1) entered ≡ Some rows → entered ≡ Some (name, rows)
whole_pair None name rows named rowed = cc
whole_pair (Some p) name rows named rowed =
    let names : p.0 ≡ name = cc in
    let others : p.1 ≡ rows = cc in
    ap₂ (λ n r. Some (n, r)) names others

-- the subcommand that the matches name, with its arguments and options, is the one that was entered
pub entered_with : (m : ArgMatches) (name : Text) (rows : List Row) → subcommand_name_of m ≡ Some name
    → option_map (λ p. p.1) (subcommand_rows_of m) ≡ Some rows → subcommand_rows_of m ≡ Some (name, rows)
entered_with m name rows named rowed =
    whole_pair (subcommand_rows_of m) name rows (map_first (out-ArgMatches m).subcommand _ _ ∙ named) rowed

-- ---- a program with one more subcommand

-- a subcommand that is added to a program, each as it is defined
pub added : (old sub new : Command) (above app : App) → AddsSubcommand old sub new → (out-Command sub).has_globals ≡ false → app_of sub ≡ app
    → app_of old ≡ above → app_of new ≡ with_subcommand above app.top
added old sub new above app adds local is over =
    adds.shape local ∙ ap₂ (λ (a b : App). with_subcommand a b.top) over is
