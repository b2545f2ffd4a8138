-- The automaton of the left sides of a list of rules, and the states after the letters of a word.
use Rattle.std.specs.Prelude.{◌≡◌, ◌≢◌, ℕ, ◌+◌, ◌<◌, ◌≤◌, List, [], Option, None, length, get_or, map, take, unwrap_or}
use Rattle.kb_word.specs.Words.{Pair}
use Rattle.kb_trie.specs.States.{AreWords, word}
use Rattle.kb_trie.specs.Steps.{IsLongestSuffix}
use Rattle.kb_trie.specs.LeftSides.{HasAt}
use Rattle.kb_index.specs.Lefts.{AreStates, left_at, lefts_of}

-- what callers know of an automaton: the words of its states, and the left sides of its rules in list order
pub record Sides : Type 0 where
  pub words : List (List ℕ)
  pub lefts : List (List ℕ)

-- the left sides that have these numbers
abbrev pub listed : List (Option (List ℕ)) → List ℕ → List (List ℕ)
listed lefts numbers = map (λ number. unwrap_or (get_or lefts number None) []) numbers

-- each number is below those that come later
abbrev pub Rise : List ℕ → Type 0
Rise numbers = (i j : ℕ) → i < j → j < length numbers → get_or numbers i 0 < get_or numbers j 0

-- the numbers rise, and are exactly those under which a left side is
pub record AreNumbers (lefts : List (Option (List ℕ))) (numbers : List ℕ) : Type 0 where
  pub rise : Rise numbers
  pub has : (place : ℕ) → place < length numbers
      → (left : List ℕ) × HasAt lefts left (get_or numbers place 0)
  pub all : (number : ℕ) (left : List ℕ) → HasAt lefts left number
      → (place : ℕ) × (place < length numbers) × (get_or numbers place 0 ≡ number)

-- no left side is empty
abbrev pub HaveLefts : List Pair → Type 0
HaveLefts rules = (place : ℕ) → place < length rules → left_at rules place ≢ []

-- the automaton has the left sides of these rules
abbrev pub IsAutomaton : List Pair → Sides → Type 0
IsAutomaton rules automaton = automaton.lefts ≡ lefts_of rules

-- the state's word is the longest suffix of w that is a state's word
pub record StandsFor (words : List (List ℕ)) (w : List ℕ) (state : ℕ) : Type 0 where
  pub within : state < length words
  pub longest : IsLongestSuffix words w (word words state)

-- the states after none of the word's letters, after the first, and so on
pub record AreStatesAlong (words : List (List ℕ)) (w : List ℕ) (states : List ℕ) : Type 0 where
  pub count : length states ≡ length w + 1
  pub each : (i : ℕ) → i ≤ length w → StandsFor words (take i w) (get_or states i 0)

-- a word is read by the automaton of these rules, each of whose left sides is a state's word
pub record ReadsBy (rules : List Pair) (automaton : Sides) : Type 0 where
  pub words : AreWords automaton.words
  pub lefts : IsAutomaton rules automaton
  pub states : AreStates automaton.words automaton.lefts
