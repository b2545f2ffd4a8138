-- Comparing label words with labels, and which of them is the first that differs.
use Rattle.std.specs.Prelude.{◌≡◌, ◌≢◌, ◌⊎◌, ℕ, ◌<◌, IsTrue, List, [], ◌∷◌, length, get_or, slice_get, Option, Some, None}
use Rattle.kb_word.specs.WordOrders.{Below}
use Rattle.kb_word.specs.Rewriting.{NormalForm}
use Rattle.kb_word.specs.declared.word_order.WordOrder.{WordOrder}
use Rattle.kb_fsa.specs.Table.{is_accepting, Table}
use Rattle.kb_fsa.specs.Graphs.{source, end}
use Rattle.kb_diff.specs.Groups.{Group}
use Rattle.kb_labels.specs.Labels.{Turns}
use Rattle.kb_labels.specs.Places.{label_at}
use Rattle.kb_labels.specs.declared.apart.Apart.{Apart}

-- the word at the one place comes before the other at its place: the place is earlier, or the same and the word is less
pub data ComesBefore (order : WordOrder) (place : ℕ) (word : List ℕ) (other : ℕ) (more : List ℕ)
    : Type 0 where
  earlier : place < other → ComesBefore order place word other more
  less : place ≡ other → Below order word more → ComesBefore order place word other more

-- what is found is the first of these words, by their places, that isn't the label at its place
pub data IsFirstApart (order : WordOrder) (labels : List (List ℕ)) (Words : ℕ → List ℕ → Type 0)
    : Option Apart → Type 0 where
  none : ((place : ℕ) (word : List ℕ) → Words place word → word ≡ label_at labels place)
      → IsFirstApart order labels Words None
  some : {apart : Apart} → Words apart.place apart.word
      → apart.word ≢ label_at labels apart.place
      → ((place : ℕ) (word : List ℕ) → Words place word → word ≢ label_at labels place
      → ¬ ComesBefore order place word apart.place apart.word)
      → IsFirstApart order labels Words (Some apart)

-- after one more word at a place, where the label is given, what is found is the earlier of both, if it differs
pub data Keeps (order : WordOrder) (label : List ℕ) (place : ℕ) (word : List ℕ)
    : Option Apart → Option Apart → Type 0 where
  same : {found : Option Apart} → word ≡ label → Keeps order label place word found found
  begun : {apart : Apart} → word ≢ label → apart.place ≡ place → apart.word ≡ word
      → Keeps order label place word None (Some apart)
  taken : {before apart : Apart} → word ≢ label
      → ComesBefore order place word before.place before.word
      → apart.place ≡ place → apart.word ≡ word
      → Keeps order label place word (Some before) (Some apart)
  passed : {apart : Apart} → ¬ ComesBefore order place word apart.place apart.word
      → Keeps order label place word (Some apart) (Some apart)

-- the words are compared with the labels: all of them are labels, or there is one
pub data Compares (order : WordOrder) (labels : List (List ℕ)) (Words : ℕ → List ℕ → Type 0)
    (before after : Option Apart) : Type 0 where
  nothing : ((place : ℕ) (word : List ℕ) → Words place word → word ≡ label_at labels place)
      → after ≡ before → Compares order labels Words before after
  one : {place : ℕ} {word : List ℕ} → Words place word
      → ((other : ℕ) (more : List ℕ) → Words other more → (other ≡ place) × (more ≡ word))
      → Keeps order (label_at labels place) place word before after
      → Compares order labels Words before after

-- the word to which the symbol turns the label of the first state, at the second state's place
pub record IsMoveWord (group : Group) (states : List ℕ) (labels : List (List ℕ))
    (from symbol target : ℕ) (place : ℕ) (word : List ℕ) : Type 0 where
  pub from_place : ℕ
  pub from_there : slice_get states from_place ≡ Some from
  pub to_there : slice_get states place ≡ Some target
  pub turned : Turns group (label_at labels from_place) symbol word

-- the word of one of the first moves, which are given backwards
pub record IsEarlyWord (group : Group) (states : List ℕ) (labels : List (List ℕ))
    (edges : List (ℕ × ℕ)) (symbols : List ℕ) (done : ℕ) (place : ℕ)
    (word : List ℕ) : Type 0 where
  pub number : ℕ
  pub early : number < done
  pub is : IsMoveWord group states labels (end edges number) (get_or symbols number 0)
      (source edges number) place word

-- the normal form of x, at one of the first places where a state accepts
pub record IsEndWord (group : Group) (table : Table) (x : ℕ) (states : List ℕ) (done : ℕ)
    (place : ℕ) (word : List ℕ) : Type 0 where
  pub early : place < done
  pub state : ℕ
  pub at : slice_get states place ≡ Some state
  pub accepts : IsTrue (is_accepting table state)
  pub normal : NormalForm group.rules (x ∷ []) word

-- a word at a place: the normal form of x where a state accepts, or one of the first moves' words
abbrev pub IsWordAt : Group → Table → ℕ → List ℕ → List (List ℕ) → List (ℕ × ℕ) → List ℕ → ℕ → ℕ
    → List ℕ → Type 0
IsWordAt group table x states labels edges symbols done place word =
    IsEndWord group table x states (length states) place word
    ⊎ IsEarlyWord group states labels edges symbols done place word
