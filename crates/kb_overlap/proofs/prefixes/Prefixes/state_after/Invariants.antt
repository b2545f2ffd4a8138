use Rattle.std.proofs.Common.{take}
use Rattle.kb_word.specs.Words.{OneOf}
use Rattle.kb_word.specs.Rewriting.{IsIrreducible}
use Rattle.kb_index.specs.Automata.{StandsFor}
use Rattle.kb_overlap.proofs.prefixes.Prefixes.state_after.Given as goal

-- what was read is irreducible, and the state stands for it
abbrev pub invariant-loop-letter : goal.invariant-loop-letter
invariant-loop-letter l = record {
  stands : StandsFor l.self.automaton.now.words (take l.letter-index l.letters) l.state;
  irreducible : IsIrreducible (OneOf l.self.rules.now) (take l.letter-index l.letters);
}
