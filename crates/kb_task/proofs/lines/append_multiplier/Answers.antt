use Rattle.std.proofs.Common.{append_assoc}
use Rattle.kb_task.proofs.lines.append_multiplier.Goals as goal

pub returns : goal.returns
returns c = rw (c.in_ok-append.ensures, append_assoc) at c.append_letter.ensures
