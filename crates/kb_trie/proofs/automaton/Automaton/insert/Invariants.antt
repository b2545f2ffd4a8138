use Rattle.std.proofs.Common.{take}
use Rattle.kb_trie.specs.States.{Grows, HasWord}
use Rattle.kb_trie.specs.Tries.{IsAutomaton, states_of, words_in}
use Rattle.kb_trie.proofs.automaton.Automaton.insert.Given as goal

abbrev pub invariant-loop-letter : goal.invariant-loop-letter
invariant-loop-letter l = record {
  automaton : IsAutomaton l.self;
  word : HasWord (words_in l.self) (take l.letter-index l.letter-items) l.state;
  grows : Grows l.letter-items (states_of l.fn.self) (states_of l.self);
}
