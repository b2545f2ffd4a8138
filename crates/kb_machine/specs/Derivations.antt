-- Derivations: steps of rewriting by numbered rules.
use Rattle.std.specs.Prelude.{◌≡◌, ℕ, ◌⊎◌, List, ◌++◌, length, Some}
use Rattle.kb_word.specs.Words.{Pair}
use Rattle.kb_rules.specs.Steps.{Leads}
use Rattle.kb_machine.specs.Lines.{numbered}
use Rattle.kb_machine.specs.declared.line.LogStep.{LogStep}

-- The step leads from u to v by a rule whose number is allowed: at its place in u stands the left
-- side of that rule, and in v the right side.
pub record IsStepBy (allowed : ℕ → Type 0) (rules : List Pair) (u : List ℕ) (step : LogStep)
    (v : List ℕ) : Type 0 where
  pub before : List ℕ
  pub rule : Pair
  pub after : List ℕ
  pub is_allowed : allowed step.line
  pub is_rule : numbered rules step.line ≡ Some rule
  pub at : length before ≡ step.place
  pub from : u ≡ before ++ rule.0 ++ after
  pub to : v ≡ before ++ rule.1 ++ after

-- the steps, one after another, lead from u to v by allowed rules
abbrev pub Derives : (ℕ → Type 0) → List Pair → List ℕ → List LogStep → List ℕ → Type 0
Derives allowed rules = Leads (IsStepBy allowed rules)

-- every number is allowed
abbrev pub Any : ℕ → Type 0
Any k = Unit {0}

-- derivations lead from the words of the pair to u and v, in one order or the other
pub record DerivesBoth (allowed : ℕ → Type 0) (rules : List Pair) (pair : Pair)
    (first_steps second_steps : List LogStep)
    (u v : List ℕ) : Type 0 where
  pub one : List ℕ
  pub other : List ℕ
  pub first : Derives allowed rules pair.0 first_steps one
  pub second : Derives allowed rules pair.1 second_steps other
  pub ends : ((one ≡ u) × (other ≡ v)) ⊎ ((one ≡ v) × (other ≡ u))
