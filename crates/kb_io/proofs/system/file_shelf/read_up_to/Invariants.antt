use Rattle.std.proofs.Common.{◌≤◌, length}
use Rattle.std.specs.Io.KnownBytes.{Consumes}
use Rattle.kb_io.proofs.system.file_shelf.read_up_to.Given as goal

-- the bytes so far were taken from the reader, and are at most max
abbrev pub invariant-loop : goal.invariant-loop
invariant-loop g l = record {
  few : length l.bytes.items ≤ l.max;
  taken : Consumes (g.F.Read.remaining l.initial.from) (g.F.Read.remaining l.from) l.bytes.items;
}
