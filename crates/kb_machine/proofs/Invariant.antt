-- What is kept along every course: what soundness says, and where origins stand.
use Rattle.std.proofs.Common.{◌≡◌, ◌⊎◌, ℕ, ◌<◌, ◌≤◌, List, ◌++◌, length, All, Some}
use Rattle.std.specs.Prelude.{map, IfSome}
use Rattle.std.specs.List.{AllPairs, Contains}
use Rattle.kb_word.specs.Words.{Pair, OneOf, IsFactor}
use Rattle.kb_word.specs.Congruence.{Congruent}
use Rattle.kb_word.proofs.PathLemmas.{congruent_sides, congruent_covered}
use Rattle.kb_machine.specs.Lines.{rules_of, replaced}
use Rattle.kb_machine.specs.Justified.{HasAnotherFactor, IsJustified}
use Rattle.kb_machine.specs.declared.line.Line.{Line}
use Rattle.kb_machine.specs.declared.origin.Origin.{Origin}
use Rattle.kb_machine.specs.declared.origin.Origin.TheVariants.{Relation, Overlap, Killed, Shortened}
use Rattle.kb_machine.specs.States.{Problem, State, below, IsLiveRule, IsPendingPair}
use Rattle.kb_machine.specs.Course.{HaltSays}

-- the pair is a live rule or a pending pair
abbrev pub IsKnown : Problem → State → Pair → Type 0
IsKnown problem state pair = IsLiveRule state pair ⊎ IsPendingPair problem state pair

-- the sides of the pair are congruent by live rules and pending pairs
abbrev pub IsKept : Problem → State → Pair → Type 0
IsKept problem state pair = Congruent (IsKnown problem state) pair.0 pair.1

-- a live left side is a factor of the word
abbrev pub HasLiveFactor : State → List ℕ → Type 0
HasLiveFactor state w = (rule : Pair) × IsLiveRule state rule × IsFactor w rule.0

-- the origins use one relation, or replace one line
abbrev pub Clash : Origin → Origin → Type 0
Clash one other =
    (k : ℕ) × (((one ≡ Relation k) × (other ≡ Relation k)) ⊎ ((replaced one ≡ Some k) × (replaced other ≡ Some k)))

abbrev pub AreApart : Origin → Origin → Type 0
AreApart one other = ¬ Clash one other

-- the origins of lines, and those that are pending
abbrev pub origins : List Line → List Origin → List Origin
origins lines pending = map (λ line. line.origin) lines ++ pending

-- a line with this number stands and isn't live
abbrev pub IsGone : List Line → List ℕ → ℕ → Type 0
IsGone lines live k = (k ≤ length lines) × (¬ Contains live k)

-- what a pending origin says of the line that it replaces
abbrev pub MayBePending : List Pair → Origin → Type 0
MayBePending rules (Relation k) = Unit {0}
MayBePending rules (Overlap i j place) = Unit {0}
MayBePending rules (Killed k) = HasAnotherFactor rules k
MayBePending rules (Shortened k) = ⊥

-- what is kept
pub record Invariant (problem : Problem) (state : State) : Type 0 where
  pub kept : (pair : Pair) → OneOf problem.relations pair → IsKept problem state pair
  pub justified : IsJustified (below problem) problem.relations state.lines
  pub factors : (pair : Pair) → OneOf (rules_of state.lines) pair → HasLiveFactor state pair.0
  pub few : length state.lines ≤ problem.most_lines
  pub ascending : AllPairs (λ one other. one < other) state.live
  pub numbers : All (λ k. (0 < k) × (k ≤ length state.lines)) state.live
  pub waiting : (origin : Origin) → Contains state.pending origin → MayBePending (rules_of state.lines) origin
  pub apart : AllPairs AreApart (origins state.lines state.pending)
  pub gone : (origin : Origin) (k : ℕ) → Contains (origins state.lines state.pending) origin → replaced origin ≡ Some k
      → IsGone state.lines state.live k
  pub halted : IfSome state.halt (HaltSays problem state)

-- the sides of what is known are congruent
pub known_kept : (problem : Problem) (state : State) (pair : Pair) → IsKnown problem state pair
    → IsKept problem state pair
known_kept problem state pair known = congruent_sides {allowed = IsKnown problem state} pair known

-- What is congruent by live rules and pending pairs stays so, where the sides of each of them do.
pub kept_through : (problem : Problem) (before after : State)
    → ((pair : Pair) → IsKnown problem before pair → IsKept problem after pair)
    → (pair : Pair) → IsKept problem before pair → IsKept problem after pair
kept_through problem before after known pair kept =
    congruent_covered {allowed = IsKnown problem before} {others = IsKnown problem after} known kept
