use Rattle.std.proofs.Common.{◌≡◌, length, take}
use Rattle.kb_fsa.specs.declared.alphabet.Alphabet.TheVariants.{Pair}
use Rattle.kb_compose.specs.Along.{identity_on}
use Rattle.kb_compose.proofs.Chains.{IsChain}
use Rattle.kb_compose.proofs.chain.along.Given as goal

abbrev pub invariant-loop-letter : goal.invariant-loop-letter
invariant-loop-letter l = record {
  chain : IsChain l.multipliers l.limit (identity_on l.acceptor) (take l.letter-index l.letter-items) l.along;
  alphabet : l.along.alphabet ≡ Pair (length l.multipliers);
}
