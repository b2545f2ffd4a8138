use Rattle.std.proofs.Common.{◌≡◌, ◌<◌, ℕ, suc, [], length, get_or}
use Rattle.kb_diff.specs.Tables.{step_in}
use Rattle.kb_diffwa.specs.RivalSets.{AreStepsBy}
use Rattle.kb_diffwa.proofs.sparse_steps.all_steps.Given as goal

abbrev pub invariant-loop-index : goal.invariant-loop-index
invariant-loop-index l = record {
  long : length l.letters.items ≡ l.index;
  each : (index : ℕ) → index < l.index
      → AreStepsBy l.n (step_in l.machine) l.differences (suc index) (get_or l.letters.items index []);
}
