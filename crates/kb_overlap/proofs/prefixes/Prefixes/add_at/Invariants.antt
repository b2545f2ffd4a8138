use Rattle.std.proofs.Common.{length}
use Rattle.kb_trie.specs.States.{word}
use Rattle.kb_overlap.proofs.Ended.{Passing, places_left}
use Rattle.kb_overlap.proofs.prefixes.Prefixes.add_at.Given as goal

-- the overlaps with the rules before the next one were added
abbrev pub invariant-loop-next : goal.invariant-loop-next
invariant-loop-next l =
    Passing l.self.rules.now l.index (word l.self.automaton.now.words l.state) l.place l.next l.fn.found.items l.found.items

abbrev pub decreases-loop-next : goal.decreases-loop-next
decreases-loop-next l = places_left (length l.self.rules.now) l.next
