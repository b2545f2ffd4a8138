-- Versions of a book by their lines, and what changes from one to the next.
use Rattle.std.specs.Prelude.{ℕ, List, [], ◌∷◌, ◌++◌, length, map}
use Rattle.std.specs.List.{remove}
use Rattle.kb_word.specs.Words.{Pair}
use Rattle.kb_machine.specs.States.{State, rule_numbered}
use Rattle.kb_publish.specs.Versions.{counted}
use Rattle.kb_publish.specs.declared.edition.Lines.{Lines}
use Rattle.kb_publish.specs.declared.change.Change.{Change}
use Rattle.kb_publish.specs.declared.change.Change.TheVariants.{Gone, Live, Published}

-- the version with this number of the lines with these numbers, each of which has its rule
abbrev pub lines_by : (ℕ → Pair) → ℕ → List ℕ → Lines
lines_by rule number numbers =
    record { version = number; numbers = numbers; rules = map rule numbers }

-- the version of a state's live lines that has this number
abbrev pub version_of : ℕ → State → Lines
version_of number state = lines_by (rule_numbered state.lines) number state.live

-- the version of a state's live lines that has the number of the last version published
abbrev pub edition_of : State → Lines
edition_of state = version_of (length state.versions) state

-- the lines after a change
abbrev pub changed : {N : Type 0} → Lines → Change N → Lines
changed lines (Gone place) = record {
  version = lines.version;
  numbers = remove lines.numbers place;
  rules = remove lines.rules place;
}
changed lines (Live line) = record {
  version = lines.version;
  numbers = lines.numbers ++ line.number ∷ [];
  rules = lines.rules ++ line.rule ∷ [];
}
changed lines Published =
    record { version = counted lines.version; numbers = lines.numbers; rules = lines.rules }
