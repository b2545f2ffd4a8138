-- The accepted words of the lengths that are asked for, each on a line.
use Rattle.std.specs.Prelude.{◌≡◌, ℕ, ◌≤◌, List, [], ◌∷◌, ◌++◌, length, AllPairs, Contains}
use Rattle.kb_word.specs.Printed.{text_of_word}
use Rattle.kb_word.specs.Words.{Less}
use Rattle.kb_io.specs.Bytes.{AppendsPrefix, newline}
use Rattle.kb_fsa.specs.Language.{Automaton, Accepts}
use Rattle.kb_task.specs.declared.status.Status.{Status}
use Rattle.kb_task.specs.declared.status.Status.TheVariants.{Yes, Memory, Fault}
use Rattle.kb_task.specs.declared.status.Which.TheVariants.{Output}

-- the word is accepted and of a length that is asked for
pub record IsAsked (automaton : Automaton) (least most : ℕ) (word : List ℕ) : Type 0 where
  pub accepted : Accepts automaton word
  pub least_length : least ≤ length word
  pub most_length : length word ≤ most

-- The words are asked for and ascend in the shortlex order, and no other that is asked for comes before their last.
pub record AreFirstAsked (automaton : Automaton) (least most : ℕ)
    (words : List (List ℕ)) : Type 0 where
  pub ascend : AllPairs Less words
  pub asked : (word : List ℕ) → Contains words word → IsAsked automaton least most word
  pub none_before : (word other : List ℕ) → Contains words word → IsAsked automaton least most other
      → Less other word → Contains words other

-- the words are all that are asked for
pub record AreAllAsked (automaton : Automaton) (least most : ℕ)
    (words : List (List ℕ)) : Type 0 where
  pub first : AreFirstAsked automaton least most words
  pub all : (word : List ℕ) → IsAsked automaton least most word → Contains words word

-- the words, each on a line
abbrev pub lines_of_words : List (List ℕ) → List (List ℕ) → List ℕ
lines_of_words names [] = []
lines_of_words names (first ∷ others) =
    text_of_word names first ++ newline ∷ lines_of_words names others

-- a front of the lines of the first words was written
pub record IsFrontOfWords (names : List (List ℕ)) (automaton : Automaton) (least most : ℕ)
    (before after : List ℕ) : Type 0 where
  pub words : List (List ℕ)
  pub first : AreFirstAsked automaton least most words
  pub front : AppendsPrefix before after (lines_of_words names words)

-- all words that are asked for were written, each on a line; or a front of that, where the output
-- failed or memory ran out
pub data WordsArePrinted (names : List (List ℕ)) (automaton : Automaton) (least most : ℕ)
    (before after : List ℕ) : Status → Type 0 where
  printed : {words : List (List ℕ)} → AreAllAsked automaton least most words
      → after ≡ before ++ lines_of_words names words
      → WordsArePrinted names automaton least most before after Yes
  failed : IsFrontOfWords names automaton least most before after
      → WordsArePrinted names automaton least most before after (Fault Output)
  no_memory : IsFrontOfWords names automaton least most before after
      → WordsArePrinted names automaton least most before after Memory
