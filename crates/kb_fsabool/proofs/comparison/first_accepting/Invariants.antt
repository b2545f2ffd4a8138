use Rattle.std.proofs.Common.{ℕ, ◌<◌, IsTrue}
use Rattle.kb_fsa.specs.Table.{is_accepting}
use Rattle.kb_fsabool.proofs.comparison.first_accepting.Given as goal

-- no state before accepts
abbrev pub invariant-loop-state : goal.invariant-loop-state
invariant-loop-state l = (other : ℕ) → other < l.state → ¬ IsTrue (is_accepting l.table other)
