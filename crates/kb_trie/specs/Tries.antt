-- The trie as a whole.
use Rattle.std.specs.Prelude.{◌≡◌, ℕ, ◌+◌, ◌*◌, ◌<◌, ◌≤◌, List, length, get_or, take}
use Rattle.kb_trie.specs.declared.automaton.Automaton.{Automaton}
use Rattle.kb_trie.specs.declared.steps.Steps.{Steps}
use Rattle.kb_trie.specs.States.{States, word}
use Rattle.kb_trie.specs.Edges.{IsTree, words_of}
use Rattle.kb_trie.specs.Steps.{AreLinks, AreSteps}
use Rattle.kb_trie.specs.FailureTrees.{IsFailureTree}
use Rattle.kb_trie.specs.Ends.{HasEnds}
use Rattle.kb_trie.specs.Children.{HasChildren}

-- the lengths of the states' words
pub record AreDepths (words : List (List ℕ)) (depths : List ℕ) : Type 0 where
  pub room : length words ≤ length depths
  pub each : (state : ℕ) → state < length words
      → get_or depths state 0 ≡ length (word words state)

-- the steps of the trie with these words
pub record HasSteps (words : List (List ℕ)) (steps : Steps) : Type 0 where
  pub count : steps.tree.count ≡ length words
  pub tree : IsFailureTree steps.tree
  pub links : AreLinks words steps.tree.links.items
  pub rows : AreSteps words steps.table.width steps.table.rows.items
  pub depths : AreDepths words steps.depths.items

-- there is room for a state more
pub record HasRoom (steps : Steps) : Type 0 where
  pub few : steps.tree.count < 4294967295
  pub links : steps.tree.count < length steps.tree.links.items
  pub firsts : steps.tree.count < length steps.tree.firsts.items
  pub nexts : steps.tree.count < length steps.tree.nexts.items
  pub previous : steps.tree.count < length steps.tree.previous.items
  pub rows : (steps.tree.count + 1) * steps.table.width ≤ length steps.table.rows.items
  pub depths : steps.tree.count < length steps.depths.items

-- the words of an automaton's states
abbrev pub words_in : Automaton → List (List ℕ)
words_in automaton = words_of automaton.edges.keys

-- the numbers that its states keep
abbrev pub numbers_in : Automaton → List ℕ
numbers_in automaton = take (length (words_in automaton)) automaton.ends.numbers.items

-- what callers know of an automaton
abbrev pub states_of : Automaton → States
states_of automaton =
    record { words = words_in automaton; numbers = numbers_in automaton }

pub record IsAutomaton (automaton : Automaton) : Type 0 where
  pub states : IsTree automaton.edges.keys
  pub steps : HasSteps (words_in automaton) automaton.steps
  pub ends : HasEnds (words_in automaton) automaton.ends
  pub children : HasChildren (words_in automaton) automaton.children
