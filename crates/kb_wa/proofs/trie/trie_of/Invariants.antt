use Rattle.kb_wa.specs.Tries.{IsTrieOf}
use Rattle.kb_wa.proofs.trie.trie_of.Given as goal

abbrev pub invariant-loop-rule : goal.invariant-loop-rule
invariant-loop-rule l = IsTrieOf l.rules l.rule-index l.trie
