use Rattle.std.proofs.Common.{◌↔◌, ℕ}
use Rattle.std.specs.List.{Contains}
use Rattle.kb_fsarat.specs.Reversal.{IsListed}
use Rattle.kb_fsarat.proofs.reversal.accepting_states.Given as goal

-- the states so far that accept are listed
abbrev pub invariant-loop-place : goal.invariant-loop-place
invariant-loop-place l = (state : ℕ) → Contains l.states.items state ↔ IsListed l.accepting l.place state
