-- What workers made, each with its place.
use Rattle.std.specs.Prelude.{◌≡◌, ℕ, ◌<◌, List, All, length, slice_get, Some}
use Rattle.std.specs.List.{Contains}
use Rattle.kb_draw.specs.declared.making_share.Placed.{Placed}
use Rattle.kb_draw.specs.declared.making_share.MakingShare.{MakingShare}

-- all places are less than this
abbrev pub AreWithin : {Made : Type 0} → ℕ → List (Placed Made) → Type 0
AreWithin places all = All (λ one. one.place < places) all

-- what the worker made is what belongs at its place
abbrev pub IsSound : {Made : Type 0} → ℕ → (ℕ → Made → Type 0) → MakingShare Made → Type 0
IsSound places Is share = All (λ one. (one.place < places) × Is one.place one.made) share.made.items

-- this was made for this place
abbrev pub IsAmong : {Made : Type 0} → List (Placed Made) → ℕ → Made → Type 0
IsAmong all place made = Contains all (record { place = place; made = made })

-- the worker made something for the place
abbrev pub HasMade : {Made : Type 0} → MakingShare Made → ℕ → Type 0
HasMade {Made} share place = (made : Made) × IsAmong share.made.items place made

-- one of the workers made this for this place
pub record IsMadeBy {Made : Type 0} (shares : List (MakingShare Made)) (place : ℕ)
    (made : Made) : Type 0 where
  pub share : MakingShare Made
  pub worker : Contains shares share
  pub among : IsAmong share.made.items place made

-- the list has one for each of so many places, in their order, and each was made for its place
pub record AreInOrder {Made : Type 0} (places : ℕ) (shares : List (MakingShare Made))
    (list : List Made) : Type 0 where
  pub count : length list ≡ places
  pub each : (place : ℕ) (one : Made) → slice_get list place ≡ Some one → IsMadeBy shares place one
