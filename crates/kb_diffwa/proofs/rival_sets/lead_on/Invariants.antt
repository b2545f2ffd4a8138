use Rattle.std.proofs.Common.{◌≡◌, length, take}
use Rattle.std.specs.List.{fold}
use Rattle.kb_diffwa.specs.RivalSets.{led_by_pair}
use Rattle.kb_diffwa.proofs.rival_sets.lead_on.Given as goal

abbrev pub invariant-loop-b : goal.invariant-loop-b
invariant-loop-b l = record {
  long : length l.row ≡ length l.initial.row;
  led : l.row ≡ fold (led_by_pair l.n l.a l.fn.rivals.comparisons) l.initial.row (take l.b-index l.b-items);
}
