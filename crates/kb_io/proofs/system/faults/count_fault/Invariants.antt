use Rattle.std.proofs.Common.{◌≡◌}
use Rattle.kb_io.proofs.system.faults.count_fault.Given as goal

-- nothing is counted before the turn that returns
abbrev pub invariant-loop : goal.invariant-loop
invariant-loop g l =
    (goal.iterator-loop g).can_next l.iterator' × (goal.iterator-loop g).is_finite l.iterator' × (l.faults ≡ l.initial.faults)
