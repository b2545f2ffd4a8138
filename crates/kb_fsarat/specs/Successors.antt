-- The least accepted text of a length, and the next one after a text.
use Rattle.std.specs.Prelude.{◌≡◌, ℕ, ◌<◌, ◌≤◌, List, length, get_or, take, ◌++◌}
use Rattle.kb_word.specs.Words.{IsEarlier}
use Rattle.kb_fsa.specs.Table.{Table, AcceptsFrom, state_after}
use Rattle.kb_fsarat.specs.Layers.{HasText}

-- of the texts of length k that lead from the state to acceptance the text is the earliest
pub record IsLeastFrom (table : Table) (k state : ℕ) (text : List ℕ) : Type 0 where
  pub long : length text ≡ k
  pub accepts : AcceptsFrom table state text
  pub least : (other : List ℕ) → length other ≡ k → AcceptsFrom table state other
      → ¬ IsEarlier other text

-- the text is the front, and then the least
pub record IsCompleted (table : Table) (k state : ℕ) (front text : List ℕ) : Type 0 where
  pub back : List ℕ
  pub whole : text ≡ front ++ back
  pub least : IsLeastFrom table k state back

-- no text as long leads from the state to acceptance and is later
abbrev pub NoneLater : Table → ℕ → List ℕ → Type 0
NoneLater table state text =
    (other : List ℕ) → length other ≡ length text → AcceptsFrom table state other
    → ¬ IsEarlier text other

-- of the later texts, as long, that lead from the state to acceptance the next one is the earliest
pub record IsNextFrom (table : Table) (state : ℕ) (text next : List ℕ) : Type 0 where
  pub long : length next ≡ length text
  pub accepts : AcceptsFrom table state next
  pub later : IsEarlier text next
  pub earliest : (other : List ℕ) → length other ≡ length text → AcceptsFrom table state other
      → IsEarlier text other
      → ¬ IsEarlier other next

-- the states are those before each letter of the text
pub record AreStatesAlong (table : Table) (text states : List ℕ) : Type 0 where
  pub within : length states ≤ length text
  pub reached : (k d : ℕ) → k < length states → get_or states k d ≡ state_after table (take k text)

-- no accepted text is of a length from the first to below the second
abbrev pub NoneOfLength : Table → ℕ → ℕ → Type 0
NoneOfLength table low high = (k : ℕ) → low ≤ k → k < high → ¬ HasText table k table.initial

-- the text is the least accepted one of a length in the range
pub record IsFirstOfLength (table : Table) (low high : ℕ) (text : List ℕ) : Type 0 where
  pub least_length : low ≤ length text
  pub most_length : length text ≤ high
  pub none_shorter : NoneOfLength table low (length text)
  pub least : IsLeastFrom table (length text) table.initial text
