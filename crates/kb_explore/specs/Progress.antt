-- An exploration on its way: what is known of the states that are seen so far.
use Rattle.std.specs.Prelude.{◌≡◌, ℕ, suc, ◌<◌, ◌≤◌, List, [], ◌∷◌, ◌++◌, length, slice_get, All, Some}
use Rattle.std.specs.List.{AllZip}
use Rattle.kb_word.specs.Words.{Less}
use Rattle.kb_fsa.specs.Table.{Moves}
use Rattle.kb_explore.specs.Machine.{Machine, AreMovesOf, leads}
use Rattle.kb_explore.specs.Exploration.{numbered, IsTraced, AreFromEarlier}
use Rattle.kb_explore.specs.declared.seen.Seen.{Seen}

-- each state stands at one place of the list
abbrev pub AreDistinct : {S : Type 0} → List S → Type 0
AreDistinct {S} states =
    (place other : ℕ) (state : S) → slice_get states place ≡ Some state
    → slice_get states other ≡ Some state
    → place ≡ other

-- The state has the number. Where it wasn't seen before it is added, with its origin.
pub data Numbers {S : Type 0} (states : List S) (origins : List (ℕ × ℕ))
    (state : S) (origin : ℕ × ℕ)
    (states' : List S) (origins' : List (ℕ × ℕ)) (number : ℕ) : Type 0 where
  known : states' ≡ states → origins' ≡ origins → numbered states number ≡ Some state
      → Numbers states origins state origin states' origins' number
  added : states' ≡ states ++ state ∷ [] → origins' ≡ origins ++ origin ∷ []
      → number ≡ suc (length states)
      → Numbers states origins state origin states' origins' number

-- the state isn't among the others, and is one more than the limit
pub record IsOneTooMany {S : Type 0} (limit : ℕ) (states : List S) (state : S) : Type 0 where
  pub distinct : AreDistinct (states ++ state ∷ [])
  pub more : limit < length (states ++ state ∷ [])

-- each word leads to the state beside it
pub record LeadTo {S : Type 0} (machine : Machine S) (words : List (List ℕ))
    (states : List S) : Type 0 where
  pub one_word_each : length words ≡ length states
  pub leads_there : (place : ℕ) (word : List ℕ) (state : S) → slice_get words place ≡ Some word
      → slice_get states place ≡ Some state
      → leads machine word ≡ Some state

-- The states are seen, each first by its word: the words ascend from the empty one, and the origins trace them.
pub record AreSeen {S : Type 0} (machine : Machine S) (states : List S) (origins : List (ℕ × ℕ))
    (words : List (List ℕ)) : Type 0 where
  pub words_lead : LeadTo machine words states
  pub one_origin_each : length origins ≡ length states
  pub distinct : AreDistinct states
  pub start : slice_get states 0 ≡ machine.start
  pub empty_first : (word : List ℕ) → slice_get words 0 ≡ Some word → word ≡ []
  pub traced : (place : ℕ) (word : List ℕ) → slice_get words place ≡ Some word
      → IsTraced origins (suc place) word
  pub from_earlier : AreFromEarlier origins
  pub ascending : (p q : ℕ) (word other : List ℕ) → p < q → slice_get words p ≡ Some word
      → slice_get words q ≡ Some other → Less word other

-- The move leads to the number of the state to which the machine's move leads. The state's word is no greater than
-- the word from which the move leads, with the move's symbol.
pub record IsNumbered {S : Type 0} (states : List S) (words : List (List ℕ))
    (word : List ℕ) (move : ℕ × ℕ)
    (original : ℕ × S) : Type 0 where
  pub symbol : move.0 ≡ original.0
  pub state : numbered states move.1 ≡ Some original.1
  pub not_less : (other : List ℕ) → numbered words move.1 ≡ Some other
      → ¬ Less (word ++ move.0 ∷ []) other

-- the row has the moves of the state at the place, by numbers
pub record IsRowOf {S : Type 0} (machine : Machine S) (k : ℕ) (states : List S)
    (words : List (List ℕ))
    (place : ℕ) (row : Moves) : Type 0 where
  pub state : S
  pub word : List ℕ
  pub is_state : slice_get states place ≡ Some state
  pub is_word : slice_get words place ≡ Some word
  pub moves : List (ℕ × S)
  pub are_moves : AreMovesOf machine k state moves
  pub are_numbered : AllZip (IsNumbered states words word) row moves

-- each row is that of the state at its place
abbrev pub AreRows : {S : Type 0} → Machine S → ℕ → List S → List (List ℕ) → List Moves → Type 0
AreRows machine k states words rows =
    (place : ℕ) (row : Moves) → slice_get rows place ≡ Some row
    → IsRowOf machine k states words place row

-- each of the words is less than this one with the symbol
abbrev pub Precede : List (List ℕ) → List ℕ → ℕ → Type 0
Precede words word symbol =
    (place : ℕ) (other : List ℕ) → slice_get words place ≡ Some other
    → Less other (word ++ symbol ∷ [])

-- so many rows are done, and the next will number what is seen from the next word on
pub record Progress {S : Type 0} (machine : Machine S) (k : ℕ) (states : List S)
    (origins : List (ℕ × ℕ))
    (rows : List Moves) : Type 0 where
  pub words : List (List ℕ)
  pub seen : AreSeen machine states origins words
  pub within : length rows ≤ length states
  pub done : AreRows machine k states words rows
  pub next : (word : List ℕ) (symbol : ℕ) → slice_get words (length rows) ≡ Some word
      → Precede words word symbol

-- after those rows, the moves of the next one that are passed are numbered
pub record Partway {S : Type 0} (machine : Machine S) (k : ℕ) (states : List S)
    (origins : List (ℕ × ℕ))
    (rows : List Moves)
    (state : S) (passed : List (ℕ × S)) (row : Moves) : Type 0 where
  pub words : List (List ℕ)
  pub word : List ℕ
  pub seen : AreSeen machine states origins words
  pub done : AreRows machine k states words rows
  pub is_state : slice_get states (length rows) ≡ Some state
  pub is_word : slice_get words (length rows) ≡ Some word
  pub are_numbered : AllZip (IsNumbered states words word) row passed
  pub next : (symbol : ℕ) → All (λ move. move.0 < symbol) passed → Precede words word symbol

-- ---- the same of the states that are seen

-- how many are seen
abbrev pub seen_count : {S : Type 0} → Seen S → ℕ
seen_count seen = length seen.states.keys

-- so many rows are done
abbrev pub IsUnderWay : {S : Type 0} → Machine S → ℕ → Seen S → List Moves → Type 0
IsUnderWay machine k seen rows = Progress machine k seen.states.keys seen.origins.items rows

-- The state has the number among those that are seen after. Where it wasn't seen before it is added, with its origin.
abbrev pub HasNumber : {S : Type 0} → Seen S → S → ℕ × ℕ → Seen S → ℕ → Type 0
HasNumber before state origin after number =
    Numbers before.states.keys before.origins.items state origin after.states.keys
    after.origins.items number
