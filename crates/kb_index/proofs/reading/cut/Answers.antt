use Rattle.std.proofs.Common.{arith}
use Rattle.kb_index.proofs.reading.cut.Goals as goal

pub overflow_add-kept : goal.overflow_add-kept
overflow_add-kept c = omega (arith, c.requires.count, c.len.ensures, c.args.states.now.ok, c.args.states.now.small)
