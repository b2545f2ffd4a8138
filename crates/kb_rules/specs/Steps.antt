-- Steps of rewriting, as they are written down.
use Rattle.std.specs.Prelude.{◌≡◌, ℕ, List, [], ◌∷◌, ◌++◌, length, slice_get, Some}
use Rattle.kb_word.specs.Words.{Pair}
use Rattle.kb_word.specs.Rewriting.{FirstRewrite}
use Rattle.kb_rules.specs.declared.trace.Step.{Step}

-- the step leads from u to v: at its place in u stands the left side of its rule, and in v the right side
pub record IsStep (rules : List Pair) (u : List ℕ) (step : Step) (v : List ℕ) : Type 0 where
  pub before : List ℕ
  pub rule : Pair
  pub after : List ℕ
  pub is_rule : slice_get rules step.rule ≡ Some rule
  pub at : length before ≡ step.place
  pub from : u ≡ before ++ rule.0 ++ after
  pub to : v ≡ before ++ rule.1 ++ after

-- the step is the first rewrite of u, which gives v
pub record IsFirstStep (rules : List Pair) (u : List ℕ) (step : Step) (v : List ℕ) : Type 0 where
  pub rewrite : FirstRewrite rules u v
  pub by : rewrite.index ≡ step.rule
  pub at : length rewrite.before ≡ step.place

-- the steps, one after another, lead from x to y, each being one of those that are allowed
abbrev pub Leads : {X Step : Type 0} → (X → Step → X → Type 0) → X → List Step → X → Type 0
Leads allowed x [] y = x ≡ y
Leads {X = X} allowed x (step ∷ rest) y =
    (next : X) × allowed x step next × Leads allowed next rest y
