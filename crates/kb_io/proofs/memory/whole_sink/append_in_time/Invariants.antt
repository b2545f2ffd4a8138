use Rattle.std.proofs.Common.{◌≡◌}
use Rattle.kb_io.proofs.memory.whole_sink.append_in_time.Given as goal

-- nothing is appended before the turn that returns
abbrev pub invariant-loop : goal.invariant-loop
invariant-loop g l =
    (goal.iterator-loop g).can_next l.iterator' × (goal.iterator-loop g).is_finite l.iterator' × (l.written.items ≡ l.initial.written.items)
