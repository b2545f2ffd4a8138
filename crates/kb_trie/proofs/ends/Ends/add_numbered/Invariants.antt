use Rattle.std.proofs.Common.{◌≡◌, ◌++◌, take}
use Rattle.std.specs.List.{filter}
use Rattle.kb_trie.specs.Ends.{keeps}
use Rattle.kb_trie.proofs.ends.Ends.add_numbered.Given as goal

abbrev pub invariant-loop-state : goal.invariant-loop-state
invariant-loop-state l = l.found.items
    ≡ l.fn.found.items ++ filter (keeps l.self.numbers.items) (take l.state-index l.states)
