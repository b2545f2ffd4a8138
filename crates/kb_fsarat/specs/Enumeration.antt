-- Accepted words one after another, in the shortlex order.
use Rattle.std.specs.Prelude.{◌≡◌, ℕ, ◌≤◌, List, length, Option, Some, None}
use Rattle.kb_word.specs.Words.{Less}
use Rattle.kb_fsa.specs.Language.{Automaton, Accepts}

-- an enumeration of the accepted words of length `min` to `max`: the last word that it gave, if it has given one
pub record Enumeration : Type 0 where
  pub automaton : Automaton
  pub min : ℕ
  pub max : ℕ
  pub given : Option (List ℕ)

-- the word comes after what was given
abbrev pub ComesAfter : Option (List ℕ) → List ℕ → Type 0
ComesAfter None word = Unit {0}
ComesAfter (Some given) word = Less given word

-- the word is accepted, of an allowed length, and comes after what was given
pub record IsLeft (enumeration : Enumeration) (word : List ℕ) : Type 0 where
  pub accepted : Accepts enumeration.automaton word
  pub least_length : enumeration.min ≤ length word
  pub most_length : length word ≤ enumeration.max
  pub after : ComesAfter enumeration.given word

-- the word is the least that is left
pub record IsNext (enumeration : Enumeration) (word : List ℕ) : Type 0 where
  pub left : IsLeft enumeration word
  pub least : (other : List ℕ) → IsLeft enumeration other → ¬ Less other word

-- after a word the enumeration has given that; after `None` it is as it was, and no word is left
abbrev pub IsStepOf : Enumeration → Option (List ℕ) → Enumeration → Type 0
IsStepOf before None after = ((word : List ℕ) → ¬ IsLeft before word) × (after ≡ before)
IsStepOf before (Some word) after =
    IsNext before word × (after ≡ record before { given = Some word })
