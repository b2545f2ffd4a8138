-- Answers to words that are given together.
use Rattle.std.specs.Prelude.{◌≡◌, ℕ, List, [], All, length, get_or, slice_get, Some}
use Rattle.kb_word.specs.Relations.{IsOver}
use Rattle.kb_fsa.specs.Language.{Automaton, Accepts, generators}
use Rattle.kb_structure.specs.Structure.{Follows}
use Rattle.kb_structure.specs.StructureOf.{OfAutomata}
use Rattle.kb_relations.specs.Images.{CanBeFollowed}

-- each of the words has its answer, in their order
pub record AreAnswersOf (Answers : List ℕ → List ℕ → Type 0)
    (words answers : List (List ℕ)) : Type 0 where
  pub count : length answers ≡ length words
  pub each : (place : ℕ) (answer : List ℕ) → slice_get answers place ≡ Some answer
      → Answers (get_or words place []) answer

-- following the word's letters by the multipliers leads from the empty word to this one
abbrev pub LeadsTo : Automaton → List Automaton → List ℕ → List ℕ → Type 0
LeadsTo acceptor multipliers word end =
    OfAutomata acceptor multipliers (λ structure. Follows structure word [] end)

-- words, and the automata by which they are followed
pub record WordsToFollow : Type 0 where
  pub acceptor : Automaton
  pub multipliers : List Automaton
  pub words : List (List ℕ)

-- each of them can be followed from the empty word on
pub record AllCanBeFollowed (batch : WordsToFollow) : Type 0 where
  pub automata : CanBeFollowed batch.acceptor batch.multipliers
  pub empty_word : Accepts batch.acceptor []
  pub over : All (IsOver (generators batch.acceptor.alphabet)) batch.words
