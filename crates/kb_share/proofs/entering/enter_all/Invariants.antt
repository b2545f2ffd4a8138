use Rattle.std.proofs.Common.{◌≡◌, take}
use Rattle.kb_share.specs.Passes.{entered}
use Rattle.kb_share.proofs.entering.enter_all.Given as goal

-- the first ones are entered
abbrev pub invariant-loop-one : goal.invariant-loop-one
invariant-loop-one g l = l.book.course ≡ entered l.worker l.fn.book.course (take l.one-index l.found)
