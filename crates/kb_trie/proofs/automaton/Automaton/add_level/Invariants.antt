use Rattle.kb_trie.specs.Adding.{Adds}
use Rattle.kb_trie.specs.Children.{IsChildOfOne}
use Rattle.kb_trie.specs.Tries.{words_in}
use Rattle.kb_trie.proofs.automaton.Automaton.add_level.Given as goal

abbrev pub invariant-loop-place : goal.invariant-loop-place
invariant-loop-place l =
    Adds (IsChildOfOne (words_in l.self) l.fn.states.items l.start l.place) l.fn.states.items l.states.items
