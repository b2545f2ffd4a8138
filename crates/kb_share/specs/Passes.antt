-- Passes: what a worker enters into a book.
use Rattle.std.specs.Prelude.{◌≡◌, ◌≢◌, ℕ, ◌<◌, ◌⊎◌, List, [], ◌++◌, length, map}
use Rattle.std.specs.List.{All, AllPairs, Contains}
use Rattle.kb_word.specs.Words.{Pair}
use Rattle.kb_word.specs.Overlap.{IsUnresolved, critical_pair}
use Rattle.kb_machine.specs.declared.origin.Origin.{Origin}
use Rattle.kb_machine.specs.declared.origin.Origin.TheVariants as origins
use Rattle.kb_machine.specs.States.{State}
use Rattle.kb_machine.specs.Course.{Course}
use Rattle.kb_machine.specs.declared.event.Event.{Event}
use Rattle.kb_machine.specs.declared.event.Event.TheVariants.{Entered}
use Rattle.kb_book.specs.Answers.{HasOverlap}
use Rattle.kb_share.specs.Versions.{VersionParts, version_of, OverlapOfLines}
use Rattle.kb_share.specs.declared.found.Found.{Found}

-- an overlap of two of the version's lines whose critical pair has different normal forms by the version's rules
pub record IsApart (version : VersionParts) (one : Found) : Type 0 where
  pub first : Pair
  pub second : Pair
  pub overlap : OverlapOfLines version one.first one.second one.place first second
  pub u : List ℕ
  pub v : List ℕ
  pub parts : IsUnresolved version.rules (critical_pair first second one.place) u v

-- overlaps come in the order of their first lines, then of their second lines, then of their places
abbrev pub IsBefore : Found → Found → Type 0
IsBefore one other = (one.first < other.first)
    ⊎ ((one.first ≡ other.first) × ((one.second < other.second)
    ⊎ ((one.second ≡ other.second) × (one.place < other.place))))

-- these are exactly the overlaps of the version's lines that are apart, strictly ascending
pub record AreAllApart (version : VersionParts) (found : List Found) : Type 0 where
  pub each : All (IsApart version) found
  pub all : (one : Found) → IsApart version one → Contains found one
  pub ascending : AllPairs IsBefore found

-- the two numbers are those of lines that overlap at the place, so that it may be entered
abbrev pub IsOverlapOfLines : State → Found → Type 0
IsOverlapOfLines state one = HasOverlap state one.first one.second one.place

-- the origin that an overlap has when it is pending
abbrev pub origin_of : Found → Origin
origin_of one = origins.Overlap one.first one.second one.place

-- the event that a worker entered an overlap
abbrev pub entry_of : ℕ → Found → Event
entry_of worker one = Entered worker one.place one.first one.second

-- the state after these overlaps were entered, one after another
abbrev pub state_entered : State → List Found → State
state_entered state found = record {
  lines = state.lines;
  live = state.live;
  pending = state.pending ++ map origin_of found;
  versions = state.versions;
  halt = state.halt;
}

-- the completion after a worker entered them
abbrev pub entered : ℕ → Course → List Found → Course
entered worker course found = record {
  problem = course.problem;
  state = state_entered course.state found;
  journal = course.journal ++ map (entry_of worker) found;
}

-- overlaps of live lines that are apart by the live rules were entered, at least one, and nothing else happened
pub record EntersApart (before after : Course) : Type 0 where
  pub found : List Found
  pub some : found ≢ []
  pub are_apart : All (IsApart (version_of before.state)) found
  pub problem : after.problem ≡ before.problem
  pub state : after.state ≡ state_entered before.state found

-- the first worker entered just those overlaps of live lines that are apart by the live rules
pub record EntersAllApart (before after : Course) : Type 0 where
  pub found : List Found
  pub are_apart : AreAllApart (version_of before.state) found
  pub enters : after ≡ entered 1 before found

-- and there were so many
pub record EntersSoMany (before after : Course) (count : ℕ) : Type 0 where
  pub all : EntersAllApart before after
  pub number : length all.found ≡ count
