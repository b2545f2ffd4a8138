-- The states that lie on accepted texts, in the order of the least texts that lead to them, and their labels.
use Rattle.std.specs.Prelude.{◌≡◌, ℕ, zero, suc, ◌<◌, ◌≤◌, List, [], length, get_or, slice_get, Some}
use Rattle.kb_word.specs.Words.{Less}
use Rattle.kb_fsa.specs.Table.{Table}
use Rattle.kb_fsa.specs.Canonical.{IsLeastText}
use Rattle.kb_fsa.specs.PairSymbols.{pair_symbols}
use Rattle.kb_explore.specs.Exploration.{IsTraced, AreFromEarlier}
use Rattle.kb_explore.specs.Progress.{AreDistinct}
use Rattle.kb_diff.specs.Groups.{Group}
use Rattle.kb_structure.specs.Labels.{LiesOnAcceptedText}
use Rattle.kb_labels.specs.Labels.{Turns}

-- the text is the least that leads to the state at the place, and the origins trace it
pub record IsTextAt (table : Table) (origins : List (ℕ × ℕ)) (place state : ℕ)
    (text : List ℕ) : Type 0 where
  pub least : IsLeastText table state text
  pub traced : IsTraced origins (suc place) text

-- These are the states that lie on accepted texts, each once, in the order of the least texts that lead to them. The
-- origin of each is the number of the state before it, from 1, and the symbol after that: the last of its least text.
pub record AreInOrder (n : ℕ) (table : Table) (states : List ℕ)
    (origins : List (ℕ × ℕ)) : Type 0 where
  pub lies : (place state : ℕ) → slice_get states place ≡ Some state
      → LiesOnAcceptedText table state
  pub each : (state : ℕ) → LiesOnAcceptedText table state
      → (place : ℕ) × (slice_get states place ≡ Some state)
  pub distinct : AreDistinct states
  pub origins_enough : length states ≤ length origins
  pub from_earlier : AreFromEarlier origins
  pub symbols : (place : ℕ) → place < length states
      → (get_or origins place (0, 0)).1 ≤ pair_symbols n
  pub text_of : (place state : ℕ) → slice_get states place ≡ Some state
      → (text : List ℕ) × IsTextAt table origins place state text
  pub ascending : (p q : ℕ) (state other : ℕ) (text more : List ℕ) → p < q
      → slice_get states p ≡ Some state → slice_get states q ≡ Some other
      → IsLeastText table state text → IsLeastText table other more → Less text more

-- the label of the state at the place
abbrev pub label_at : List (List ℕ) → ℕ → List ℕ
label_at labels place = get_or labels place []

-- from the label at the origin the symbol turns to the word; at the start it is the empty word
abbrev pub IsFromOrigin : Group → List (List ℕ) → ℕ → ℕ → List ℕ → Type 0
IsFromOrigin group labels zero symbol word = word ≡ []
IsFromOrigin group labels (suc place) symbol word = Turns group (label_at labels place) symbol word

-- each label comes from its origin
pub record AreFromOrigins (group : Group) (origins : List (ℕ × ℕ))
    (labels : List (List ℕ)) : Type 0 where
  pub no_more : length labels ≤ length origins
  pub each : (place : ℕ) (origin : ℕ × ℕ) → place < length labels
      → slice_get origins place ≡ Some origin
      → IsFromOrigin group labels origin.0 origin.1 (label_at labels place)
