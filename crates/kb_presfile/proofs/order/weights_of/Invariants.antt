use Rattle.std.proofs.Common.{◌≡◌, pos, map, take, All}
use Rattle.kb_word.specs.Weights.{IsWeight}
use Rattle.kb_presfile.proofs.order.weights_of.Given as goal

abbrev pub invariant-loop-number : goal.invariant-loop-number
invariant-loop-number l = record {
  are : take l.number-index l.numbers ≡ map pos l.weights.items;
  range : All IsWeight l.weights.items;
}
