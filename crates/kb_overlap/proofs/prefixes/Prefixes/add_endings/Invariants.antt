use Rattle.std.proofs.Common.{length}
use Rattle.kb_trie.specs.States.{word}
use Rattle.kb_overlap.proofs.Ended.{Ending}
use Rattle.kb_overlap.proofs.prefixes.Prefixes.add_endings.Given as goal

-- the overlaps with longer left sides were added
abbrev pub invariant-loop-place : goal.invariant-loop-place
invariant-loop-place l = Ending l.self.rules.now l.self.automaton.now.words l.index l.state l.read l.beyond l.end l.fn.found.items l.found.items

abbrev pub decreases-loop-place : goal.decreases-loop-place
decreases-loop-place l = length (word l.self.automaton.now.words l.end)
