use Rattle.std.proofs.Common.{take}
use Rattle.kb_index.specs.Automata.{StandsFor}
use Rattle.kb_overlap.specs.Ways.{EndsPrefix, Gains}
use Rattle.kb_overlap.proofs.prefixes.Prefixes.add_contained.Given as goal

-- the overlaps with left sides that end the prefixes so far were added
abbrev pub invariant-loop-place : goal.invariant-loop-place
invariant-loop-place l = record {
  stands : StandsFor l.self.automaton.now.words (take l.place l.letters) l.state;
  gains : Gains (EndsPrefix l.self.rules.now l.index l.letters l.place) l.fn.found.items l.found.items;
}
