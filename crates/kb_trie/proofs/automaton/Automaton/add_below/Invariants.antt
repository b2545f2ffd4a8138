use Rattle.std.proofs.Common.{◌≤◌, length}
use Rattle.kb_trie.specs.Tries.{words_in}
use Rattle.kb_trie.specs.Walks.{AreDeep}
use Rattle.kb_trie.proofs.Below.{IsDescending}
use Rattle.kb_trie.proofs.automaton.Automaton.add_below.Given as goal

abbrev pub invariant-loop-level : goal.invariant-loop-level
invariant-loop-level l = record {
  start : l.start ≤ length l.states.items;
  walk : IsDescending (words_in l.self) l.fn.states.items l.start l.states.items;
  deep : AreDeep (words_in l.self) l.level l.start l.states.items;
}
