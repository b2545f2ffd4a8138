use Rattle.std.proofs.Common.{◌≡◌, ◌+◌, length}
use Rattle.kb_threads.proofs.entering.each_done.Given as goal

abbrev pub invariant-loop-pass : goal.invariant-loop-pass
invariant-loop-pass g l = length l.passes.items + length l.pass-iterator.rest.items ≡ length l.fn.ended.items
