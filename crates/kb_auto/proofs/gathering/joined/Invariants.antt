use Rattle.std.proofs.Common.{◌≡◌, ◌++◌, length}
use Rattle.kb_auto.proofs.gathering.joined.Given as goal

-- the equalities so far and those that are left are all
abbrev pub invariant-loop-equality : goal.invariant-loop-equality
invariant-loop-equality l = record {
  whole : l.equalities.items ++ l.equality-iterator.rest.items ≡ l.fn.equalities.items ++ l.fn.more.items;
  counted : l.equality-iterator.rest.len ≡ length l.equality-iterator.rest.items;
}
