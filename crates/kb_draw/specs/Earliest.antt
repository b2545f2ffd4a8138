-- What a worker found, and the earliest that all workers found.
use Rattle.std.specs.Prelude.{◌≡◌, ℕ, ◌<◌, ◌≤◌, ◌⊎◌, List, All, Option, Some, None}
use Rattle.std.specs.List.{Contains}
use Rattle.kb_draw.specs.declared.search_share.SearchShare.{SearchShare}

-- what was found at the place, or nothing, and then the place is the end
abbrev pub FoundAt : {Found : Type 0} → ℕ → (ℕ → Found → Type 0) → ℕ → Option Found → Type 0
FoundAt places Has place None = place ≡ places
FoundAt places Has place (Some found) = (place < places) × Has place found

-- of two shares the one with the earlier place
abbrev pub IsEarlier : {Found : Type 0} → SearchShare Found → SearchShare Found → SearchShare Found → Type 0
IsEarlier one other chosen = ((chosen ≡ one) × (one.place ≤ other.place))
    ⊎ ((chosen ≡ other) × (other.place ≤ one.place))

-- one of the shares, or one with nothing, and none has an earlier place
pub record IsEarliestOf {Found : Type 0} (places : ℕ) (shares : List (SearchShare Found))
    (earliest : SearchShare Found) : Type 0 where
  pub among : ((earliest.place ≡ places) × (earliest.found ≡ None))
      ⊎ ((share : SearchShare Found) × Contains shares share × (earliest ≡ share))
  pub first : All (λ share. earliest.place ≤ share.place) shares
