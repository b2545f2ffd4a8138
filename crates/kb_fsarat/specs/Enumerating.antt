-- What an enumeration keeps, and how it goes on.
use Rattle.std.specs.Prelude.{◌≡◌, ℕ, ◌≤◌, List, length, Option, Some, None, IfSome}
use Rattle.kb_fsa.specs.declared.alphabet.Alphabet.TheVariants.{Plain}
use Rattle.kb_fsa.specs.Language.{Automaton, Accepts}
use Rattle.kb_fsarat.specs.Layers.{Layering}
use Rattle.kb_fsarat.specs.Enumeration.{Enumeration, IsLeft, IsNext}

-- the word is one that an enumeration may have given
pub record IsGiven (automaton : Automaton) (min max : ℕ) (word : List ℕ) : Type 0 where
  pub accepted : Accepts automaton word
  pub least_length : min ≤ length word
  pub most_length : length word ≤ max

-- what every enumeration keeps
pub record IsEnumerating (automaton : Automaton) (min max : ℕ) (layers : Option Layering)
    (given : Option (List ℕ)) : Type 0 where
  pub plain : (n : ℕ) × (automaton.alphabet ≡ Plain n)
  pub table : IfSome layers (λ layering. layering.table ≡ automaton.table)
  pub last : IfSome given (IsGiven automaton min max)

-- the word is the least that is left, and there is none where no word is left
abbrev pub IsNextOf : Enumeration → Option (List ℕ) → Type 0
IsNextOf enumeration None = (word : List ℕ) → ¬ IsLeft enumeration word
IsNextOf enumeration (Some word) = IsNext enumeration word
