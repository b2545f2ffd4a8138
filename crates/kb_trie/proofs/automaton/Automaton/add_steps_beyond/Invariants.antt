use Rattle.std.proofs.Common.{length}
use Rattle.kb_trie.specs.States.{word}
use Rattle.kb_trie.specs.Tries.{words_in}
use Rattle.kb_trie.proofs.Leading.{Linking}
use Rattle.kb_trie.proofs.automaton.Automaton.add_steps_beyond.Given as goal

-- the children of states with longer words were added
abbrev pub invariant-loop-at : goal.invariant-loop-at
invariant-loop-at l = Linking (words_in l.self) l.state l.beyond l.at l.fn.found.items l.found.items

abbrev pub decreases-loop-at : goal.decreases-loop-at
decreases-loop-at l = length (word (words_in l.self) l.at)
