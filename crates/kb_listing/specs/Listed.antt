-- How far the listing of accepted words has come.
use Rattle.std.specs.Prelude.{◌≡◌, ℕ, zero, suc, ◌+◌, ◌*◌, ◌^◌, ◌<◌, ◌≤◌, ◌⊎◌, Bool, true, false, List, ◌++◌, Option, Some, None, IfSome, All, Contains}
use Rattle.kb_word.specs.Words.{Less}
use Rattle.kb_word.specs.Order.{rank}
use Rattle.kb_fsa.specs.Language.{Automaton}
use Rattle.kb_fsarat.specs.Enumeration.{Enumeration, IsLeft}
use Rattle.kb_listing.specs.Asked.{IsAsked, AreFirstAsked, WordsArePrinted, lines_of_words}
use Rattle.kb_task.specs.declared.status.Status.{Status}

-- the enumeration of these words that has given the word
abbrev pub over : Automaton → ℕ → ℕ → Option (List ℕ) → Enumeration
over automaton least most given =
    record { automaton = automaton; min = least; max = most; given = given }

-- the enumeration has given these words: the first of those that are asked for; it still gives the
-- others, which come after
pub record HasGiven (enumeration : Enumeration) (words : List (List ℕ)) : Type 0 where
  pub first : AreFirstAsked enumeration.automaton enumeration.min enumeration.max words
  pub others : (other : List ℕ)
      → IsAsked enumeration.automaton enumeration.min enumeration.max other
      → Contains words other ⊎ IsLeft enumeration other
  pub behind : (given other : List ℕ) → Contains words given → IsLeft enumeration other
      → Less given other

-- The lines of the words given are what was written after `before`, and what is still pending.
pub record Listed (names : List (List ℕ)) (enumeration : Enumeration)
    (before written pending : List ℕ) : Type 0 where
  pub words : List (List ℕ)
  pub given : HasGiven enumeration words
  pub sent : List ℕ
  pub appended : written ≡ before ++ sent
  pub held : lines_of_words names words ≡ sent ++ pending

-- how many words of at most n letters there are over the letters below 2^16
abbrev pub word_count : ℕ → ℕ
word_count zero = 1
word_count (suc n) = (2 ^ 16) ^ n * 2 ^ 16 + word_count n

-- the rank from which the words on come after the one that was given
abbrev pub next_rank : Option (List ℕ) → ℕ
next_rank None = 0
next_rank (Some word) = rank word + 1

-- the letters of the word that was given have numbers below 2^16
abbrev pub HasLetters : Enumeration → Type 0
HasLetters enumeration = IfSome enumeration.given (All (λ letter. letter < 2 ^ 16))

-- the enumeration went on to the next word, where there was more
pub record Steps (before after : Enumeration) (more : Bool) : Type 0 where
  pub same : after ≡ record before { given = after.given }
  pub letters : HasLetters after
  pub further : more ≡ true → next_rank before.given < next_rank after.given
  pub within : more ≡ true → next_rank after.given ≤ word_count after.max
  pub ended : more ≡ false → (word : List ℕ) → ¬ IsLeft after word

-- what was printed of the words of an enumeration
abbrev pub EnumerationIsPrinted : List (List ℕ) → Enumeration → List ℕ → List ℕ → Status → Type 0
EnumerationIsPrinted names enumeration =
    WordsArePrinted names enumeration.automaton enumeration.min enumeration.max
