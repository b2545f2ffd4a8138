use Rattle.std.proofs.Common.{◌≡◌, ◌+◌, length}
use Rattle.kb_threads.proofs.sweeper.sweepers_of.Given as goal

abbrev pub invariant-loop-reader : goal.invariant-loop-reader
invariant-loop-reader g l = length l.sweepers.items + length l.reader-iterator.rest.items ≡ length l.fn.readers.items
