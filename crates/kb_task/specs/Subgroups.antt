-- Files of a subgroup's generators, and of groups to which a marker of its cosets can be added.
use Rattle.std.specs.Prelude.{◌≡◌, ◌≢◌, ℕ, ◌<◌, ◌≤◌, List, length, codes, Contains}
use Rattle.kb_word.specs.Presentations.{PresentationParts}
use Rattle.kb_fields.specs.Generators.{most_generators}
use Rattle.kb_subfile.specs.Holds.{GeneratorsOf}
use Rattle.kb_subfile.specs.Faults.{HasSubFault}
use Rattle.kb_subfile.specs.declared.error.SubError.TheVariants as sub_errors
use Rattle.kb_task.specs.Loads.{Files, IsHeld, IsNoText}
use Rattle.kb_task.specs.Presentations.{HoldsGroup, IsGroupFault}
use Rattle.kb_task.specs.declared.status.FileFault.{FileFault}
use Rattle.kb_task.specs.declared.status.FileFault.TheVariants.{Missing, TooLong, Subgroup, NoRoom, MarkerTaken}

-- the file of this name holds these generators, words of the presentation
pub record HoldsSubgroup (parts : PresentationParts) (files : Files) (name : List ℕ)
    (generators : List (List ℕ)) : Type 0 where
  pub bytes : List ℕ
  pub held : IsHeld files name bytes
  pub says : GeneratorsOf bytes parts generators

-- why the file of this name holds no generators: it isn't there, is too long, or has the fault that is named
abbrev pub IsSubgroupFault : PresentationParts → Files → List ℕ → FileFault → Type 0
IsSubgroupFault parts files name Missing = IsNoText files name Missing
IsSubgroupFault parts files name TooLong = IsNoText files name TooLong
IsSubgroupFault parts files name (Subgroup fault) =
    (bytes : List ℕ) × IsHeld files name bytes × HasSubFault parts bytes fault
    × (fault ≢ sub_errors.Memory)
IsSubgroupFault parts files name _ = ⊥

-- the marker's name
abbrev pub marker_name : List ℕ
marker_name = codes "_H"

-- the file holds a group by shortlex to which the marker can be added: there is room, and its name is free
pub record HoldsMarkable (files : Files) (name : List ℕ) (parts : PresentationParts) : Type 0 where
  pub group : HoldsGroup files name parts
  pub room : length parts.names < most_generators
  pub free : ¬ Contains parts.names marker_name

-- the file holds a group by shortlex with as many generators as there may be
pub record HasNoRoom (files : Files) (name : List ℕ) : Type 0 where
  pub parts : PresentationParts
  pub group : HoldsGroup files name parts
  pub full : most_generators ≤ length parts.names

-- the file holds a group by shortlex with fewer generators, of which one has the marker's name
pub record HasMarker (files : Files) (name : List ℕ) : Type 0 where
  pub parts : PresentationParts
  pub group : HoldsGroup files name parts
  pub room : length parts.names < most_generators
  pub taken : Contains parts.names marker_name

-- why the file of this name holds no group by shortlex to which the marker can be added
abbrev pub IsMarkableFault : Files → List ℕ → FileFault → Type 0
IsMarkableFault files name NoRoom = HasNoRoom files name
IsMarkableFault files name MarkerTaken = HasMarker files name
IsMarkableFault files name fault = IsGroupFault files name fault
