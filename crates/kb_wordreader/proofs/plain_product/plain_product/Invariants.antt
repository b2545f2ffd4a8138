use Rattle.std.proofs.Common.{◌≤◌, length}
use Rattle.kb_record.specs.Meaning.{most_letters}
use Rattle.kb_wordreader.specs.Products.{Passed}
use Rattle.kb_wordreader.proofs.plain_product.plain_product.Given as goal

abbrev pub invariant-loop-behind : goal.invariant-loop-behind
invariant-loop-behind l = record {
  passed : Passed l.names l.bytes l.rest l.word l.fault;
  few : length l.word ≤ most_letters;
}

abbrev pub decreases-loop-behind : goal.decreases-loop-behind
decreases-loop-behind l = length l.rest
