use Rattle.std.proofs.Common.{ℕ, ◌+◌, take, []}
use Rattle.kb_trie.specs.States.{word}
use Rattle.kb_overlap.specs.Prefixes.{GoesOn}
use Rattle.kb_overlap.specs.Ways.{EndsRead, Gains}
use Rattle.kb_overlap.proofs.Gaining.{Over}
use Rattle.kb_overlap.proofs.prefixes.Prefixes.next_level.Given as goal

-- the states and the overlaps by the states of the level so far were added
abbrev pub invariant-loop-state : goal.invariant-loop-state
invariant-loop-state l = record {
  next : Gains (Over (λ (state : ℕ). GoesOn l.self.rules.now l.self.automaton.now.words state (l.count + 1)) (take l.state-index l.level))
      [] l.next.items;
  found : Gains
      (Over (λ (state : ℕ). EndsRead l.self.rules.now l.index (word l.self.automaton.now.words state) l.read l.count) (take l.state-index l.level))
      l.fn.found.items l.found.items;
}
