-- Paths: a list of any length leads from one thing to another, neighbours being related.
use Rattle.std.specs.Prelude.{◌≡◌, List, [], ◌∷◌}

-- each of x, the things between, y is related to the next; with none between x and y are the same
abbrev pub Linked : {X : Type 0} → (X → X → Type 0) → X → List X → X → Type 0
Linked related x [] y = x ≡ y
Linked related x (next ∷ rest) y = related x next × Linked related next rest y

-- some list leads from x to y
pub record Path {X : Type 0} (related : X → X → Type 0) (x y : X) : Type 0 where
  pub steps : List X
  pub linked : Linked related x steps y
