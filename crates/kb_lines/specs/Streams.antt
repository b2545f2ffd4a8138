-- The input and the output of word lines at one moment.
use Rattle.std.specs.Prelude.{◌≡◌, ℕ, List, ◌++◌, IsTrue}
use Rattle.kb_io.specs.States.{SourceState, SinkState, SourceGoesOn, SinkGoesOn}

pub record Streams : Type 0 where
  pub input : SourceState
  pub output : SinkState

abbrev pub streams : SourceState → SinkState → Streams
streams input output = record { input = input; output = output }

-- both tell their bytes
pub record AreTold (before : Streams) : Type 0 where
  pub input : IsTrue before.input.told
  pub output : IsTrue before.output.told

-- a later moment of the same streams
pub record StreamsGoOn (before after : Streams) : Type 0 where
  pub input : SourceGoesOn before.input after.input
  pub output : SinkGoesOn before.output after.output

-- these bytes of the input were taken
abbrev pub Takes : List ℕ → Streams → Streams → Type 0
Takes taken before after = before.input.left ≡ taken ++ after.input.left

-- these bytes were sent
abbrev pub Sends : List ℕ → Streams → Streams → Type 0
Sends sent before after = after.output.written ≡ before.output.written ++ sent
