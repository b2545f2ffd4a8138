use Rattle.std.proofs.Common.{◌≤◌, ◌-◌, ◌*◌, ℕ, suc, length, sum}
use Rattle.kb_fsamin.specs.Rounds.{IsClassing, IsFirstSeen, class_of}
use Rattle.kb_fsamin.proofs.rounds.refine_until_stable.Given as goal

abbrev pub invariant-loop-classes : goal.invariant-loop-classes
invariant-loop-classes l = record {
  classing : IsClassing l.table l.labels l.classes.items;
  first_seen : IsFirstSeen l.classes.items (suc (length l.table.rows));
  small : (state : ℕ) → class_of l.classes.items state ≤ length l.table.rows;
}

-- class numbers grow
abbrev pub decreases-loop-classes : goal.decreases-loop-classes
decreases-loop-classes l = suc (length l.table.rows) * length l.table.rows - sum l.classes.items
