-- What a search finds.
use Rattle.std.specs.Prelude.{ℕ, ◌<◌}

-- each of so many places lacks what is searched
abbrev pub AllLack : ℕ → (ℕ → Type 0) → Type 0
AllLack places Lacks = (place : ℕ) → place < places → Lacks place

-- this is what the first of so many places has that has something: each place before it lacks it
pub record IsFirstFound {Found : Type 0} (places : ℕ) (Has : ℕ → Found → Type 0)
    (Lacks : ℕ → Type 0) (found : Found) : Type 0 where
  pub place : ℕ
  pub within : place < places
  pub has : Has place found
  pub earlier : AllLack place Lacks
