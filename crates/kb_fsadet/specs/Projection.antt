-- The first words of pairs.
use Rattle.std.specs.Prelude.{◌↔◌, ℕ, List}
use Rattle.kb_word.specs.Relations.{IsOver}
use Rattle.kb_fsa.specs.Language.{Automaton, Accepts, AcceptsPair, generators}

-- a second word that the pair automaton accepts beside the word
pub record HasSecond (automaton : Automaton) (word : List ℕ) : Type 0 where
  pub second : List ℕ
  pub first_over : IsOver (generators automaton.alphabet) word
  pub second_over : IsOver (generators automaton.alphabet) second
  pub accepts : AcceptsPair automaton word second

-- the automaton accepts the words beside which the pair automaton accepts some word
abbrev pub IsProjection : Automaton → Automaton → Type 0
IsProjection pairs words = (word : List ℕ) → Accepts words word ↔ HasSecond pairs word
