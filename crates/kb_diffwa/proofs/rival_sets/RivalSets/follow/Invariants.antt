use Rattle.std.proofs.Common.{◌≡◌, length, take}
use Rattle.std.specs.List.{fold}
use Rattle.kb_diffwa.specs.RivalSets.{first_row, led_on}
use Rattle.kb_diffwa.proofs.rival_sets.RivalSets.follow.Given as goal

abbrev pub invariant-loop-rivals : goal.invariant-loop-rivals
invariant-loop-rivals l = record {
  long : length l.row.items ≡ l.self.differences;
  led : l.row.items ≡ fold (led_on l.self.n l.letter l.steps) (first_row l.self.differences) (take l.rivals-index l.rivals-items);
}
