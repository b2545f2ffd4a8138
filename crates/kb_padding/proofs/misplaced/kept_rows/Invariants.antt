use Rattle.std.proofs.Common.{◌≡◌, take}
use Rattle.kb_padding.specs.Cleaning.{is_dropped, kept_rows}
use Rattle.kb_padding.proofs.misplaced.kept_rows.Given as goal

abbrev pub invariant-loop-place : goal.invariant-loop-place
invariant-loop-place l = record {
  state : l.state ≡ l.place;
  kept : l.kept
      ≡ kept_rows (is_dropped l.n l.reach.marks.items l.reach.first.items l.reach.second.items) 1 (take l.place l.rows);
}
