use Rattle.std.proofs.Common.{◌≡◌, length}
use Rattle.std.specs.Io.KnownBytes.{Keeps}
use Rattle.kb_io.proofs.system.retry.read_some.Given as goal

-- a read that was cut short took nothing
abbrev pub invariant-loop : goal.invariant-loop
invariant-loop g l =
    (length l.buf ≡ length l.initial.buf) × Keeps (g.F.Read.remaining l.initial.from) (g.F.Read.remaining l.from)
