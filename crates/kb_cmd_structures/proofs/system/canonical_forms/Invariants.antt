use Rattle.std.proofs.Common.{take}
use Rattle.kb_cmd_structures.specs.CanonicalForms.{AreCanonicalForms}
use Rattle.kb_cmd_structures.proofs.system.canonical_forms.Given as goal

-- the forms so far are those of the first automata
abbrev pub invariant-loop-automaton : goal.invariant-loop-automaton
invariant-loop-automaton l = AreCanonicalForms (take l.automaton-index l.automata) l.forms.items
