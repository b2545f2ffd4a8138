-- Rounds by one list of rules after another.
-- Epstein et al., Word Processing in Groups, chapter 6; Holt, Eick, O'Brien, Handbook of Computational Group Theory,
-- chapter 13.
use Rattle.std.specs.Prelude.{◌≡◌, ℕ, ◌*◌, ◌≤◌, List, [], ◌∷◌, ◌++◌, length, Bool, true, false, Option, None}
use Rattle.kb_word.specs.Words.{OneOf}
use Rattle.kb_word.specs.Presentations.{parts_of}
use Rattle.kb_word.specs.Rewriting.{IsIrreducible}
use Rattle.kb_diff.specs.Differences.{HaveDifferences}
use Rattle.kb_diff.specs.Groups.{group_of}
use Rattle.kb_diff.specs.Keeping.{Adds}
use Rattle.kb_diff.specs.Kept.{KeptDifferences}
use Rattle.kb_diff.specs.declared.grow.Grow.{Grow}
use Rattle.kb_diff.specs.declared.grow.Grow.TheVariants.{Grew, Full}
use Rattle.kb_kept.specs.declared.equality.Equality.{Equality}
use Rattle.kb_word.specs.declared.presentation.Presentation.{Presentation}
use Rattle.kb_machine.specs.Course.{Course}
use Rattle.kb_machine.specs.declared.line.Line.{Line}
use Rattle.kb_complete.specs.declared.answers.Grown.{Grown}
use Rattle.kb_complete.specs.declared.answers.Grown.TheVariants as grown
use Rattle.kb_round.specs.Rounds.{IsOwnStructure}
use Rattle.kb_system.specs.Completed.{IsReducedSystem}
use Rattle.kb_system.specs.Evidence.{Limits}
use Rattle.kb_auto.specs.Autgroup.{AreRulesOfLog, IsShort, IsTooLarge, IsTriedAtHalt, tried_by}
use Rattle.kb_auto.specs.Kept.{KeepsRounds, KeepsRules, NeedsMore, Tried}
use Rattle.kb_auto.specs.declared.gathering.Gathered.{Gathered}
use Rattle.kb_auto.specs.declared.gathering.Gathering.{Gathering}
use Rattle.kb_auto.specs.declared.gathering.Gathering.TheVariants as gatherings
use Rattle.kb_auto.specs.declared.searching.LiveTrial.{LiveTrial}
use Rattle.kb_auto.specs.declared.searching.LiveTrial.TheVariants as lives
use Rattle.kb_auto.specs.declared.outcomes.LastRound.{LastRound}
use Rattle.kb_auto.specs.declared.outcomes.LastRound.TheVariants as last
use Rattle.kb_auto.specs.declared.trying.Trial.{Trial}
use Rattle.kb_auto.specs.declared.trying.Trial.TheVariants as trials

-- the log has at least twice as many lines as before, unless the completion is at its end
abbrev pub IsTwofold : {R : Type 0} → Course → Grown R → Type 0
IsTwofold before (grown.More after) =
    2 * length before.state.lines ≤ length after.course.state.lines
IsTwofold before (grown.Confluent rules after) = Unit {0}
IsTwofold before (grown.Halted after) = Unit {0}

-- the equality's differences were added to those that are kept, with this answer, and its words are irreducible
pub record AddsRound (before : Gathered) (equality : Equality) (answer : Grow)
    (after : Gathered) : Type 0 where
  pub group : after.differences.group ≡ before.differences.group
  pub most : after.differences.most ≡ before.differences.most
  pub first : IsIrreducible (OneOf before.differences.group.rules) equality.u
  pub second : IsIrreducible (OneOf before.differences.group.rules) equality.v
  pub adds : Adds before.differences.group before.differences.most equality.u equality.v
      before.differences.words after.differences.words answer
  pub rounds : after.rounds.items ≡ before.rounds.items ++ equality ∷ []

-- a word of the equality is reducible, or its differences are kept already
abbrev pub BringsNothing : Gathered → Equality → Type 0
BringsNothing before equality =
    IsIrreducible (OneOf before.differences.group.rules) equality.u
    → IsIrreducible (OneOf before.differences.group.rules) equality.v
    → HaveDifferences before.differences.group before.differences.words equality.u equality.v

-- what comes of a round's equality
abbrev pub GatheringSays : Gathered → Gathered → Equality → Gathering → Type 0
GatheringSays before after equality gatherings.More = AddsRound before equality Grew after
GatheringSays before after equality gatherings.NoRoom =
    (needed : List ℕ) × (place : ℕ) × AddsRound before equality (Full needed place) after
GatheringSays before after equality gatherings.Nothing = BringsNothing before equality

-- the differences are those of the rules and of failed rounds
pub record Gathers (tried : Tried) (gathered : Gathered) : Type 0 where
  pub group : gathered.differences.group ≡ group_of tried.presentation tried.rules
  pub most : gathered.differences.most ≡ tried.most
  pub keeps : KeepsRounds tried gathered.rounds.items gathered.differences.words

-- the same, up to the first one for which there is no room
pub record LacksRoom (tried : Tried) (gathered : Gathered) : Type 0 where
  pub group : gathered.differences.group ≡ group_of tried.presentation tried.rules
  pub most : gathered.differences.most ≡ tried.most
  pub needs : NeedsMore tried gathered.rounds.items gathered.differences.words

-- the differences are those of the rules alone, up to the first for which there is no room, where that is said
pub record GathersRules (tried : Tried) (full : Bool) (gathered : Gathered) : Type 0 where
  pub lacks : full ≡ true → LacksRoom tried gathered
  pub gathers : full ≡ false → Gathers tried gathered

-- What rounds by rules come to. They are stuck only where they have a budget, or where the rules aren't the reduced
-- complete system.
abbrev pub TrialSays : Tried → Option ℕ → Trial → Type 0
TrialSays tried budget (trials.Own structure) = IsOwnStructure tried.presentation tried.states
    structure.acceptor structure.multipliers.items
TrialSays tried budget (trials.NoRoom listing) = IsShort tried listing
TrialSays tried budget (trials.Counted which listing) = IsTooLarge tried listing which
TrialSays tried budget trials.Stuck =
    budget ≡ None → ¬ IsReducedSystem (parts_of tried.presentation) tried.rules

-- What the trial of the live rules of a log comes to.
abbrev pub LiveTrialSays : Limits → ℕ → Presentation → List Line → LiveTrial → Type 0
LiveTrialSays limits most presentation lines (lives.Own structure) =
    IsOwnStructure presentation limits.states structure.acceptor structure.multipliers.items
LiveTrialSays limits most presentation lines (lives.NoRoom rules listing) =
    (rules.order ≡ presentation.order)
    × AreRulesOfLog (parts_of presentation) lines rules.rules false
    × IsShort (tried_by limits most presentation rules.rules) listing
LiveTrialSays limits most presentation lines lives.Open = Unit {0}

-- the differences of the rules are kept, as far as there is room
pub record KeepsDifferences (tried : Tried) (differences : KeptDifferences) : Type 0 where
  pub group : differences.group ≡ group_of tried.presentation tried.rules
  pub most : differences.most ≡ tried.most
  pub answer : Grow
  pub keeps : KeepsRules tried differences.words answer

-- what the last round of a halted completion comes to
abbrev pub LastRoundSays : Tried → LastRound → Type 0
LastRoundSays tried (last.Own structure) = IsOwnStructure tried.presentation tried.states
    structure.acceptor structure.multipliers.items
LastRoundSays tried (last.Failed listing) = IsTriedAtHalt tried listing
