-- Options give one list of limits at most.
use Rattle.std.proofs.Common.{◌≡◌, ◌∙◌, ℕ, List, sym}
use Rattle.clap.specs.Words.{Row}
use Rattle.kb_system.specs.Evidence.{Limits}
use Rattle.kb_commands.specs.Arguments.{GivesOption}
use Rattle.kb_commands.specs.declared.arguments.NumberOption.TheVariants.{Workers, Batch, MaxRules, MaxLen, MaxDiffs, MaxStates}
use Rattle.kb_commands.proofs.ArgumentLemmas.{option_given-at}
use Rattle.kb_commands.specs.Limits.{GivesAllLimits, GivesLimits}

pub same_limits : (rows : List Row) (limits other : Limits) → GivesLimits rows limits → GivesLimits rows other → limits ≡ other
same_limits rows limits other a b =
    let most_lines : limits.lines ≡ other.lines =
    option_given-at rows MaxRules limits.lines a.lines
    ∙ sym (option_given-at rows MaxRules other.lines b.lines) in
    let most_letters : limits.letters ≡ other.letters =
    option_given-at rows MaxLen limits.letters a.letters
    ∙ sym (option_given-at rows MaxLen other.letters b.letters) in
    let most_states : limits.states ≡ other.states =
    option_given-at rows MaxStates limits.states a.states
    ∙ sym (option_given-at rows MaxStates other.states b.states) in
    λ i. record { lines = most_lines i; letters = most_letters i; states = most_states i }

-- the same with how many word differences may be kept
module _ (rows : List Row) (limits other : Limits) (most others : ℕ) (a : GivesAllLimits rows limits most)
    (b : GivesAllLimits rows other others) where
  pub same_all_limits : limits ≡ other
  same_all_limits = same_limits rows limits other a.completion b.completion

  pub same_most : most ≡ others
  same_most = option_given-at rows MaxDiffs most a.differences ∙ sym (option_given-at rows MaxDiffs others b.differences)

pub same_workers : (rows : List Row) (workers other : ℕ) → GivesOption rows Workers workers
    → GivesOption rows Workers other → workers ≡ other
same_workers rows workers other a b =
    option_given-at rows Workers workers a ∙ sym (option_given-at rows Workers other b)

pub same_batch : (rows : List Row) (batch other : ℕ) → GivesOption rows Batch batch
    → GivesOption rows Batch other → batch ≡ other
same_batch rows batch other a b =
    option_given-at rows Batch batch a ∙ sym (option_given-at rows Batch other b)
