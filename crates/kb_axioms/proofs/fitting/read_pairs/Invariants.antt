use Rattle.std.proofs.Common.{◌≡◌, All, take}
use Rattle.kb_fsa.specs.declared.alphabet.Alphabet.TheVariants.{Pair}
use Rattle.kb_axioms.proofs.fitting.read_pairs.Given as goal

abbrev pub invariant-loop-automaton : goal.invariant-loop-automaton
invariant-loop-automaton l = All (λ automaton. automaton.alphabet ≡ Pair l.n) (take l.automaton-index l.automata)
