-- What contracts know of the outside at one moment, and how it goes on.
use Rattle.std.specs.Prelude.{◌≡◌, ◌≢◌, ℕ, ◌≤◌, List, Bool, Option}

-- a source: whether it tells its bytes, those that are left to be read, and how many reads have failed
pub record SourceState : Type 0 where
  pub told : Bool
  pub left : List ℕ
  pub faults : ℕ

-- a sink: whether it tells its bytes, those that were written, and how many writes have failed
pub record SinkState : Type 0 where
  pub told : Bool
  pub written : List ℕ
  pub faults : ℕ

-- a shelf: whether it tells its bytes, those under each name, and how many loads and stores have failed
pub record ShelfState : Type 0 where
  pub told : Bool
  pub holds : List ℕ → Option (List ℕ)
  pub load_faults : ℕ
  pub store_faults : ℕ

-- a later state of the same source: it tells as before, and no failure is uncounted
pub record SourceGoesOn (before after : SourceState) : Type 0 where
  pub told : after.told ≡ before.told
  pub faults : before.faults ≤ after.faults

-- a later state of the same sink
pub record SinkGoesOn (before after : SinkState) : Type 0 where
  pub told : after.told ≡ before.told
  pub faults : before.faults ≤ after.faults

-- a later state of the same shelf
pub record ShelfGoesOn (before after : ShelfState) : Type 0 where
  pub told : after.told ≡ before.told
  pub load_faults : before.load_faults ≤ after.load_faults
  pub store_faults : before.store_faults ≤ after.store_faults

-- the shelf holds the same under each name
abbrev pub HoldsSame : ShelfState → ShelfState → Type 0
HoldsSame before after = (name : List ℕ) → after.holds name ≡ before.holds name

-- the shelf holds the same under each name but this one
abbrev pub HoldsSameBut : List ℕ → ShelfState → ShelfState → Type 0
HoldsSameBut stored before after =
    (name : List ℕ) → name ≢ stored → after.holds name ≡ before.holds name
