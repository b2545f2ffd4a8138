use Rattle.std.proofs.Common.{subst}
use Rattle.kb_word.specs.Overlap.{IsConfluent}
use Rattle.kb_bylog.proofs.LineLemmas.{no_confluent, yes_answers}
use Rattle.kb_bylog.proofs.settling.is_confluent.Goals as goal

pub returns-in-Ok-Yes : goal.returns-in-Ok-Yes
returns-in-Ok-Yes g c =
    yes_answers (subst IsConfluent c.list.ensures.rules (c.in-Ok-Yes.ensures.confluent.0 c.in-Ok-Yes.field-0-is))

pub returns-in-Ok-No : goal.returns-in-Ok-No
returns-in-Ok-No g c =
    no_confluent c.list.result.now.rules c.args.index.now.rules c.list.ensures.rules c.in-Ok-No.field-0-0 c.in-Ok-No.field-0-1 c.in-Ok-No.field-0-2
    c.in-Ok-No.field-0-3 c.in-Ok-No.field-0-4 (rw c.in-Ok-No.field-0-is at c.in-Ok-No.ensures.confluent)
