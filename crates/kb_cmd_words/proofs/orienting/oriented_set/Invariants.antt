use Rattle.std.proofs.Common.{◌≡◌, ◌++◌, length}
use Rattle.kb_word.specs.WordOrders.{Below}
use Rattle.kb_word.specs.Relations.{relations_of, AreOriented}
use Rattle.kb_cmd_words.proofs.orienting.oriented_set.Given as goal

-- the rules so far are what the relations so far give
abbrev pub invariant-loop-left : goal.invariant-loop-left
invariant-loop-left l = record {
  so_far : AreOriented (Below l.presentation.order) l.yielded l.set.keys;
  whole : l.yielded ++ l.left-iterator.rest.items ≡ relations_of l.presentation.inv l.presentation.eqs;
  counted : l.left-iterator.rest.len ≡ length l.left-iterator.rest.items;
}
