use Rattle.std.proofs.Common.{◌≡◌, take}
use Rattle.kb_index.specs.Lefts.{lefts_of}
use Rattle.kb_index.proofs.automaton.Automaton.for_letters.Given as goal

abbrev pub invariant-loop-rule : goal.invariant-loop-rule
invariant-loop-rule l = l.automaton.lefts ≡ lefts_of (take l.rule-index l.rules)
