use Rattle.std.proofs.Common.{◌<◌, length}
use Rattle.kb_share.proofs.batch.state_after.Given as goal

abbrev pub invariant-loop-letter : goal.invariant-loop-letter
invariant-loop-letter l = l.state < length l.automaton.words
