use Rattle.std.proofs.Common.{◌≡◌, ℕ, ◌<◌, length, slice_get}
use Rattle.kb_task.proofs.loading.automata.have_same_names.Given as goal

-- the names so far are the same
abbrev pub invariant-loop-place : goal.invariant-loop-place
invariant-loop-place l = record {
  long : length l.names ≡ length l.others;
  same : (k : ℕ) → k < l.place → slice_get l.names k ≡ slice_get l.others k;
}
