use Rattle.std.proofs.Common.{◌≡◌, ◌*◌, ◌≤◌, take}
use Rattle.kb_word.specs.Weights.{word_weight}
use Rattle.kb_word.proofs.word_order.weight_of_word.Given as goal

abbrev pub invariant-loop-letter : goal.invariant-loop-letter
invariant-loop-letter l = record {
  weight : l.weight ≡ word_weight l.weights (take l.letter-index l.word);
  most : l.weight ≤ 1000 * l.letter-index;
}
