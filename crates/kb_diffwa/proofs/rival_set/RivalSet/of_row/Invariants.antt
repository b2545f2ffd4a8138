use Rattle.std.proofs.Common.{◌≡◌, ◌+◌, ◌++◌, drop}
use Rattle.kb_diffwa.specs.RivalSets.{members_from}
use Rattle.kb_diffwa.proofs.rival_set.RivalSet.of_row.Given as goal

abbrev pub invariant-loop-comparisons : goal.invariant-loop-comparisons
invariant-loop-comparisons l = record {
  number : l.difference ≡ l.comparisons-index;
  rest : l.members.items ++ members_from (l.comparisons-index + 1) (drop l.comparisons-index l.row) ≡ members_from 1 l.row;
}
