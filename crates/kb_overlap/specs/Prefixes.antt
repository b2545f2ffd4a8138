-- The prefixes of left sides, as the states of their automaton, and where a letter leads.
use Rattle.std.specs.Prelude.{ℕ, ◌<◌, ◌^◌, List, length}
use Rattle.kb_word.specs.Words.{Pair}
use Rattle.kb_rules.specs.Ending.{NoneEnds}
use Rattle.kb_trie.specs.States.{AreWords, word}
use Rattle.kb_trie.specs.Steps.{IsStepBeyond}
use Rattle.kb_index.specs.Automata.{IsAutomaton}
use Rattle.kb_index.specs.Lefts.{AreStates, lefts_of}
use Rattle.kb_overlap.specs.declared.prefixes.Prefixes.{Prefixes}

-- these are the words of fewer than 2^32 states, and each left side of the rules is among them
pub record AreWordsOf (rules : List Pair) (words : List (List ℕ)) : Type 0 where
  pub are : AreWords words
  pub few : length words < 2 ^ 32
  pub lefts : AreStates words (lefts_of rules)

-- the automaton is that of the rules
pub record ArePrefixes (prefixes : Prefixes) : Type 0 where
  pub is : IsAutomaton prefixes.rules.now prefixes.automaton.now
  pub states : AreWordsOf prefixes.rules.now prefixes.automaton.now.words

-- no left side ends the state's word, and a letter leads on to a word that is longer than `beyond`
pub record GoesOn (rules : List Pair) (words : List (List ℕ)) (state beyond next : ℕ)
    : Type 0 where
  pub open_there : NoneEnds rules (word words state)
  pub leads : IsStepBeyond words state beyond next
